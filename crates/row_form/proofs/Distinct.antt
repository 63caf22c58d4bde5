-- Targets are distinguished by those that were seen before.
use Rattle.std.proofs.Common.{◌≡◌, ℕ, Bool, true, false, not, ◌&&◌, ◌||◌, List, [], ◌∷◌, refl, sym, ◌∙◌, ap, Bor}
use Rattle.std.specs.List.{list_any}
use Rattle.std.specs.List.Sorted.{IsPermutation}
use Rattle.std.specs.Str.{bytes_eq}
use Rattle.std.proofs.lemmas.List.Sorted.{list_any-IsPermutation}
use Rattle.row_form.specs.FieldReaders.{are_distinct}

-- whether a target is among the keys
abbrev pub is_seen : List (Bor (List ℕ)) → List ℕ → Bool
is_seen keys target = list_any (λ key. bytes_eq target key.now) keys

abbrev pub all_new : List (Bor (List ℕ)) → List (List ℕ) → Bool
all_new keys [] = true
all_new keys (target ∷ others) = not (is_seen keys target) && all_new keys others

-- whether none of the targets was seen, nor occurs twice
abbrev pub are_fresh : List (Bor (List ℕ)) → List (List ℕ) → Bool
are_fresh keys targets = all_new keys targets && are_distinct targets

none_seen : (targets : List (List ℕ)) → all_new [] targets ≡ true
none_seen [] = refl
none_seen (target ∷ others) = none_seen others

pub fresh_first : (targets : List (List ℕ)) → are_distinct targets ≡ are_fresh [] targets
fresh_first targets = ap (λ b. b && are_distinct targets) (sym (none_seen targets))

shuffle : (a b c d : Bool) → (not (a || b) && (c && not d)) ≡ ((not b && c) && not (a || d))
shuffle true true c d = refl
shuffle true false true d = refl
shuffle true false false d = refl
shuffle false true c d = refl
shuffle false false c d = refl

all_new_next : (keys new : List (Bor (List ℕ))) (target : List ℕ) → ((u : List ℕ)
    → is_seen new u ≡ (bytes_eq u target || is_seen keys u)) → (others : List (List ℕ))
    → all_new new others ≡ (all_new keys others && not (list_any (λ other. bytes_eq other target) others))
all_new_next keys new target h [] = refl
all_new_next keys new target h (u ∷ us) =
    ap (λ b. not b && all_new new us) (h u)
    ∙ ap (λ b. not (bytes_eq u target || is_seen keys u) && b) (all_new_next keys new target h us)
    ∙ shuffle (bytes_eq u target) (is_seen keys u) (all_new keys us) (list_any (λ other. bytes_eq other target) us)

regroup : (a b c : Bool) → (a && (b && c)) ≡ ((a && b) && c)
regroup true b c = refl
regroup false b c = refl

pub fresh_next : (keys new : List (Bor (List ℕ))) (key : Bor (List ℕ)) (target : List ℕ) (others : List (List ℕ))
    → key.now ≡ target → is_seen keys target ≡ false
    → IsPermutation (key ∷ keys) new → are_fresh keys (target ∷ others) ≡ are_fresh new others
fresh_next keys new key target others is fresh same =
    let added : (u : List ℕ) → is_seen new u ≡ (bytes_eq u target || is_seen keys u) = λ u.
    sym (list_any-IsPermutation (λ k. bytes_eq u k.now) (key ∷ keys) new same) ∙ ap (λ t. bytes_eq u t || is_seen keys u) is in
    ap (λ b. (not b && all_new keys others) && (not (list_any (λ other. bytes_eq other target) others) && are_distinct others))
    fresh
    ∙ regroup (all_new keys others) (not (list_any (λ other. bytes_eq other target) others)) (are_distinct others)
    ∙ ap (λ b. b && are_distinct others) (sym (all_new_next keys new target added others))

pub fresh_seen : (keys : List (Bor (List ℕ))) (target : List ℕ) (others : List (List ℕ)) → is_seen keys target ≡ true
    → are_fresh keys (target ∷ others) ≡ false
fresh_seen keys target others e = ap (λ b. (not b && all_new keys others) && are_distinct (target ∷ others)) e
