-- Why trying the last wild card again is enough.
use Rattle.std.proofs.Common.{◌≡◌, ℕ, ◌+◌, ◌*◌, ◌<◌, ◌≤◌, inl, inr, Bool, true, false, ◌||◌, ◌&&◌, Option, Some, None, List, []}
use Rattle.std.proofs.Common.{◌∷◌, length, refl, sym, ap, ◌∙◌, arith, Bor, mul-le-mul_right}
use Rattle.std.specs.Option.{option_map, option_copied}
use Rattle.spec_text.specs.Parts.{parts_left}
use Rattle.std.proofs.lemmas.Bool.{and_parts, or_cases, or_left, or_right}
use Rattle.std.specs.List.{list_any}
use Rattle.base_model.specs.ConfigSpecs.WildCards.{list_suffixes, first_fits, matches_from, cards_match}

or_nothing : (b : Bool) → b ≡ (b || false)
or_nothing true = refl
or_nothing false = refl

-- the ends of a list but itself, the longest first
abbrev pub later : {A : Type 0} → List A → List (List A)
later [] = []
later (x ∷ xs) = list_suffixes xs

list_suffixes-later : {A : Type 0} (xs : List A) → list_suffixes xs ≡ xs ∷ later xs
list_suffixes-later [] = refl
list_suffixes-later (x ∷ xs) = refl

-- what some end of a later end passes, some later end passes
any_of_ends : {A : Type 0} (f : List A → Bool) (xs : List A) → list_any (λ ys. list_any f (list_suffixes ys)) (later xs) ≡ true
    → list_any f (later xs) ≡ true
any_of_ends f [] h = cc
any_of_ends f (x ∷ xs) h =
    elim (or_cases (list_any f (list_suffixes xs)) (list_any (λ ys. list_any f (list_suffixes ys)) (later xs))
    (rw list_suffixes-later at h)) [
      | inl here ↦ here
      | inr there ↦ rw list_suffixes-later (or_right (f xs) (list_any f (later xs)) (any_of_ends f xs there))
    ]

-- where a card that is not wild and those after it cover a later end, those after it cover a later end
any_fit : {A : Type 0} (fits : A → Bool) (behind : List A → Bool) (xs : List A)
    → list_any (first_fits fits behind) (list_suffixes xs) ≡ true → list_any behind (later xs) ≡ true
any_fit fits behind [] h = cc
any_fit fits behind (x ∷ xs) h =
    elim (or_cases (fits x && behind xs) (list_any (first_fits fits behind) (list_suffixes xs)) h) [
      | inl here ↦ rw list_suffixes-later (or_left (behind xs) (list_any behind (later xs))
          (and_parts (fits x) (behind xs) here).1)
      | inr there ↦ rw list_suffixes-later (or_right (behind xs) (list_any behind (later xs)) (any_fit fits behind xs there))
    ]

-- what trying the last wild card again could still cover: the cards after it, and what stood there when it was met
abbrev pub again_covers : {P A : Type 0} → (P → Bool) → (P → A → Bool) → Option (List P × List A) → Bool
again_covers wild fits None = false
again_covers wild fits (Some met) = list_any (cards_match wild fits met.0) (later met.1)

-- how many members were left when the last wild card was met, and how many cards stood after it
abbrev pub met_members : {P A : Type 0} → ℕ → Option (List P × List A) → ℕ
met_members all None = all
met_members all (Some met) = length met.1

abbrev pub met_cards : {P A : Type 0} → Option (List P × List A) → ℕ
met_cards None = 0
met_cards (Some met) = length met.0

-- how often the last wild card may be tried again
abbrev pub tries : {P A : Type 0} → ℕ → Option (List P × List A) → ℕ
tries all None = all + 1
tries all (Some met) = length met.1

-- The search keeps its answer: it is that of what is left, or of trying again. What trying again could cover, a later
-- end of what is left would be covered by as well, so that the last wild card met is the only one to try.
pub record Searches {P A : Type 0} (wild : P → Bool) (fits : P → A → Bool) (answer : Bool) (all_cards all : ℕ) (cards : List P)
    (left : List A) (again : Option (List P × List A)) : Type 0 where
  pub same : answer ≡ (cards_match wild fits cards left || again_covers wild fits again)
  pub kept : again_covers wild fits again ≡ true → list_any (cards_match wild fits cards) (later left) ≡ true
  pub cards_fit : length cards ≤ all_cards
  pub met_fit : met_cards again ≤ all_cards
  pub left_fit : length left ≤ met_members all again
  pub tries_fit : met_members all again ≤ all

pub begins : {P A : Type 0} (wild : P → Bool) (fits : P → A → Bool) (cards : List P) (left : List A)
    → Searches wild fits (cards_match wild fits cards left) (length cards) (length left) cards left None
begins wild fits cards left = record {
  same = or_nothing (cards_match wild fits cards left);
  kept = λ h. cc;
  cards_fit = omega arith;
  met_fit = omega arith;
  left_fit = omega arith;
  tries_fit = omega arith;
}

-- as after a wild card: the cards may cover any end
pub begins_anywhere : {P A : Type 0} (wild : P → Bool) (fits : P → A → Bool) (cards : List P) (left : List A)
    → Searches wild fits (list_any (cards_match wild fits cards) (list_suffixes left)) (length cards) (length left) cards left
    (Some (cards, left))
begins_anywhere wild fits cards left = record {
  same = ap (list_any (cards_match wild fits cards)) (list_suffixes-later left);
  kept = λ h. h;
  cards_fit = omega arith;
  met_fit = omega arith;
  left_fit = omega arith;
  tries_fit = omega arith;
}

absorbed : (a b : Bool) → (b ≡ true → a ≡ true) → (a || b) ≡ a
absorbed true b h = refl
absorbed false true h = sym (h refl)
absorbed false false h = refl

wild_same : {A : Type 0} (wild : Bool) (fits : A → Bool) (behind : List A → Bool) (left : List A) (answer again : Bool)
    → wild ≡ true → answer ≡ (matches_from wild fits behind left || again)
    → (again ≡ true → list_any (matches_from wild fits behind) (later left) ≡ true)
    → answer ≡ (behind left || list_any behind (later left))
wild_same true fits behind left answer again star e kept =
    let whole = ap (list_any behind) (list_suffixes-later left) in
    e ∙ absorbed (list_any behind (list_suffixes left)) again (λ h. rw list_suffixes-later
    (or_right (behind left) (list_any behind (later left)) (any_of_ends behind left (kept h)))) ∙ whole
wild_same false fits behind left answer again star e kept = cc

plain_same : {A : Type 0} (wild : Bool) (fits : A → Bool) (behind : List A → Bool) (x : A) (left : List A) (answer again : Bool)
    → wild ≡ false → fits x ≡ true → answer ≡ (matches_from wild fits behind (x ∷ left) || again)
    → answer ≡ (behind left || again)
plain_same true fits behind x left answer again plain fit e = cc
plain_same false fits behind x left answer again plain fit e = rw fit at e

plain_preserved : {A : Type 0} (wild : Bool) (fits : A → Bool) (behind : List A → Bool) (left : List A) → wild ≡ false
    → list_any (matches_from wild fits behind) (list_suffixes left) ≡ true → list_any behind (later left) ≡ true
plain_preserved true fits behind left plain h = cc
plain_preserved false fits behind left plain h = any_fit fits behind left h

-- A search for one answer: which cards are wild, what the others fit, and how many cards and members there were at first.
module _ {P A : Type 0} (wild : P → Bool) (fits : P → A → Bool) (answer : Bool) (all_cards all : ℕ) where
  -- a wild card is met
  pub meets : (cards : List P) (card : P) (behind : List P) (left : List A) (again : Option (List P × List A))
      → cards ≡ card ∷ behind → wild card ≡ true → Searches wild fits answer all_cards all cards left again
      → Searches wild fits answer all_cards all behind left (Some (behind, left))
  meets cards card behind left again prefix star known = let h = rw prefix at known in record {
    same = wild_same (wild card) (fits card) (cards_match wild fits behind) left answer (again_covers wild fits again) star h.same
        h.kept;
    kept = λ e. e;
    cards_fit = omega arith;
    met_fit = omega arith;
    left_fit = omega arith;
    tries_fit = omega arith;
  }

  -- a card stands for a member
  pub stands : (cards : List P) (card : P) (behind : List P) (left : List A) (x : A) (rest : List A) (again : Option (List P
      × List A))
      → cards ≡ card ∷ behind → left ≡ x ∷ rest → wild card ≡ false → fits card x ≡ true
      → Searches wild fits answer all_cards all cards left again → Searches wild fits answer all_cards all behind rest again
  stands cards card behind left x rest again prefix first plain fit known = let h = rw (prefix, first) at known in record {
    same = plain_same (wild card) (fits card) (cards_match wild fits behind) x rest answer (again_covers wild fits again) plain
        fit h.same;
    kept = λ e. plain_preserved (wild card) (fits card) (cards_match wild fits behind) rest plain (h.kept e);
    cards_fit = omega arith;
    met_fit = omega arith;
    left_fit = omega arith;
    tries_fit = omega arith;
  }

  -- what is left is not covered, and there is a member more to take: the last wild card is tried again
  pub tries_again : (cards : List P) (left : List A) (behind : List P) (x : A) (rest : List A)
      → cards_match wild fits cards left ≡ false
      → Searches wild fits answer all_cards all cards left (Some (behind, x ∷ rest))
      → Searches wild fits answer all_cards all behind rest (Some (behind, rest))
  tries_again cards left behind x rest fails h = record {
    same = rw fails at h.same ∙ ap (list_any (cards_match wild fits behind)) (list_suffixes-later rest);
    kept = λ e. e;
    cards_fit = omega arith;
    met_fit = omega arith;
    left_fit = omega arith;
    tries_fit = omega arith;
  }

  -- what is left is not covered, and no wild card was met, or it can take no member more
  pub gives_up : (cards : List P) (left : List A) → cards_match wild fits cards left ≡ false
      → Searches wild fits answer all_cards all cards left None → answer ≡ false
  gives_up cards left fails h = rw fails at h.same

  pub gives_up_behind : (cards : List P) (left : List A) (behind : List P) → cards_match wild fits cards left ≡ false
      → Searches wild fits answer all_cards all cards left (Some (behind, [])) → answer ≡ false
  gives_up_behind cards left behind fails h = rw fails at h.same

-- why what is left is not covered
pub none_for_card : {P A : Type 0} (wild : P → Bool) (fits : P → A → Bool) (card : P) (behind : List P) → wild card ≡ false
    → cards_match wild fits (card ∷ behind) [] ≡ false
none_for_card wild fits card behind plain = rw plain refl

pub no_fit : {P A : Type 0} (wild : P → Bool) (fits : P → A → Bool) (card : P) (behind : List P) (x : A) (left : List A)
    → wild card ≡ false → fits card x ≡ false → cards_match wild fits (card ∷ behind) (x ∷ left) ≡ false
no_fit wild fits card behind x left plain fit = rw (plain, fit) refl

-- the search is bounded by how often the last wild card may be tried again, and then by the cards
pub met_fewer : (old new cards fewer all_cards : ℕ) → new ≤ old → fewer < cards
    → new * (all_cards + 1) + fewer < old * (all_cards + 1) + cards
met_fewer old new cards fewer all_cards h k = omega (arith, mul-le-mul_right (all_cards + 1) h)

pub tried_fewer : (new cards fresh all_cards : ℕ) → fresh ≤ all_cards → new * (all_cards + 1) + fresh
    < (new + 1) * (all_cards + 1) + cards
tried_fewer new cards fresh all_cards h = omega arith

-- what two borrowed lists hold
abbrev pub held : {P A : Type 0} → Bor (List P) × Bor (List A) → List P × List A
held met = (met.0.now, met.1.now)

abbrev pub held_by : {P A : Type 0} → Option (Bor (List P) × Bor (List A)) → Option (List P × List A)
held_by again = option_map held again

-- what a borrowed list and what is left of a borrowed path hold
abbrev pub names_held : {P : Type 0} → Bor (List P) × Option (Bor (List ℕ)) → List P × List (List ℕ)
names_held met = (met.0.now, parts_left 47 (option_copied met.1))

abbrev pub names_held_by : {P : Type 0} → Option (Bor (List P) × Option (Bor (List ℕ))) → Option (List P × List (List ℕ))
names_held_by again = option_map names_held again
