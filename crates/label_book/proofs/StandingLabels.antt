-- The labels that stand on versions of an element, found among the element's labels.
use Rattle.std.proofs.Common.{◌≡◌, ℕ, suc, ◌<◌, ◌==◌, ◌||◌, Bool, true, false, List, [], ◌∷◌, length}
use Rattle.std.proofs.Common.{slice_get, Option, Some, None, refl, ap, sym, ◌∙◌, arith}
use Rattle.std.specs.List.{list_all, list_any}
use Rattle.std.proofs.lemmas.Bool.{and_parts}
use Rattle.std.proofs.lemmas.Bool.Decides.{Decides-eqb, nat_tests}
use Rattle.std.proofs.lemmas.List.Folds.{list_all-append, list_any-append}
use Rattle.std.proofs.lemmas.Option.{slice_get-get_or}
use Rattle.label_book.specs.Holding.{AreNamed, HasNoPlace, MovesByPlace, all_held, held_among, is_pair}
use Rattle.label_book.specs.Listed.{LabelLists, are_listed, has_listed, is_listed}
use Rattle.label_book.specs.Standings.{is_placement, placed_at, placed_name, placements, stands}
use Rattle.label_book.proofs.Found.{each_fails}
use Rattle.label_book.proofs.ListedLabels.{has}
use Rattle.label_book.proofs.Newest.{is_itself}
use Rattle.label_book.proofs.Pairs.{pair_is}

same : (n : ℕ) → (n == n) ≡ true
same n = (Decides-eqb n n).1 refl

module _ (holder_of : List ℕ → Option ℕ) where
  one_stands : (l : List ℕ) (version : Option ℕ) → holder_of l ≡ version
      → list_all (stands holder_of) (placed_at l version) ≡ true
  one_stands l None is = refl
  one_stands l (Some version) is = rw (is, same version) refl

  name_stands : (label : Option (List ℕ)) → list_all (stands holder_of) (placed_name holder_of label) ≡ true
  name_stands None = refl
  name_stands (Some l) = one_stands l (holder_of l) refl

  -- each of them stands
  pub all_stand : (names : List (List ℕ)) (ns : List ℕ) → list_all (stands holder_of) (placements names holder_of ns) ≡ true
  all_stand names [] = refl
  all_stand names (n ∷ ns) =
      list_all-append (stands holder_of) (placed_name holder_of (slice_get names n)) (placements names holder_of ns)
      ∙ rw (name_stands (slice_get names n), all_stand names ns) refl

  module _ (l : List ℕ) (version : ℕ) (is : holder_of l ≡ Some version) where
    here : list_any (is_placement l version) (placed_name holder_of (Some l)) ≡ true
    here = ap (λ found. list_any (is_placement l version) (placed_at l found)) is ∙ ap (λ own. own || false) (is_itself l version)

    -- one that stands is found where it is listed
    pub any_found : (names : List (List ℕ)) (n : ℕ) → slice_get names n ≡ Some l → (ns : List ℕ) → has n ns ≡ true
        → list_any (is_placement l version) (placements names holder_of ns) ≡ true
    any_found names n named [] listed = absurd (cc)
    any_found names n named (m ∷ ns) listed =
        list_any-append (is_placement l version) (placed_name holder_of (slice_get names m)) (placements names holder_of ns)
        ∙ by (any_found names n named ns) (m == n) refl listed
      where
        or_true : (a : Bool) → (a || true) ≡ true
        or_true true = refl
        or_true false = refl

        by : (has n ns ≡ true → list_any (is_placement l version) (placements names holder_of ns) ≡ true)
            → (own : Bool) → (m == n) ≡ own → (own || has n ns) ≡ true
            → (list_any (is_placement l version) (placed_name holder_of (slice_get names m))
            || list_any (is_placement l version) (placements names holder_of ns)) ≡ true
        by rest true e h =
            let there : m ≡ n = grind (arith, nat_tests) in
            rw (there, named, here) refl
        by rest false e h = rw (rest h) (or_true (list_any (is_placement l version)
            (placed_name holder_of (slice_get names m))))

-- where a label has no entry on the element, it stands nowhere
pub no_place : (l : List ℕ) (e : ℕ) (names : List (List ℕ)) (entries : List MovesByPlace)
    → list_any (is_pair l e) (all_held names entries) ≡ false → HasNoPlace l e (all_held names entries)
no_place l e names entries none = record {
  none = λ p d within. each_fails (is_pair l e) (all_held names entries) none p d within;
}

-- what a label that has an entry on the element is listed as
pub record ListedAs (names : List (List ℕ)) (lists : LabelLists) (l : List ℕ) (e : ℕ) : Type 0 where
  pub place : ℕ
  pub named : slice_get names place ≡ Some l
  pub listed : has_listed lists e place ≡ true

pub listed_as : (names : List (List ℕ)) (lists : LabelLists) (l : List ℕ) (e : ℕ) (entries : List MovesByPlace)
    → AreNamed names entries → are_listed lists entries ≡ true → list_any (is_pair l e) (all_held names entries) ≡ true
    → ListedAs names lists l e
listed_as names lists l e [] named all any = absurd (cc)
listed_as names lists l e (entry ∷ entries) named all any =
    let (here, rest) = and_parts (is_listed lists entry) (are_listed lists entries) all in
    by here (listed_as names lists l e entries (λ p d within. named (suc p) d (omega arith)) rest)
    (is_pair l e (held_among names entry)) refl any
  where
    by : is_listed lists entry ≡ true → (list_any (is_pair l e) (all_held names entries) ≡ true → ListedAs names lists l e)
        → (own : Bool) → is_pair l e (held_among names entry) ≡ own
        → (own || list_any (is_pair l e) (all_held names entries)) ≡ true → ListedAs names lists l e
    by here rest true is h =
        let (label, element) = pair_is l e (held_among names entry) is in
        let within : entry.0.label < length names = named 0 entry (omega arith) in
        record {
          place = entry.0.label;
          named = slice_get-get_or names entry.0.label [] within ∙ ap Some (sym label);
          listed = ap (λ f. has_listed lists f entry.0.label) element ∙ here;
        }
    by here rest false is h = rest h
