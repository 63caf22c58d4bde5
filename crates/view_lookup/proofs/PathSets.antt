-- Sets of names and of paths, by what is among them.
use Rattle.std.proofs.Common.{◌≡◌, ℕ, Bool, true, false, cond, ◌||◌, List, [], ◌∷◌, refl, ap₂, sym, subst, ◌∙◌, bytes_eq}
use Rattle.std.specs.BTreeMap.{is_at}
use Rattle.std.specs.BTreeSet.{BTreeSet, contains}
use Rattle.std.specs.Cmp.Lexicographic.{slice_cmp}
use Rattle.std.specs.List.{AllByRecursion, list_any}
use Rattle.std.specs.Ordering.{nat_cmp}
use Rattle.std.proofs.lemmas.Map.Text.{is_eq-slice_cmp}
use Rattle.std.proofs.lemmas.Slice.Eq.{bytes_eq-Decides}
use Rattle.cc_names.proofs.Common.{bytes_swapped}
use Rattle.base_model.specs.Closures.{is_path_among}

among_at : (q : List ℕ) (keys : List (List ℕ)) → list_any (is_at (slice_cmp nat_cmp q)) keys ≡ is_path_among q keys
among_at q [] = refl
among_at q (key ∷ keys) = ap₂ (λ (one more : Bool). one || more) (is_eq-slice_cmp q key) (among_at q keys)

-- one more is among those of a set
pub one_inserted : (old new : BTreeSet (List ℕ)) (key q : List ℕ) → contains (slice_cmp nat_cmp) new q
    ≡ cond (is_at (slice_cmp nat_cmp key) q) true (contains (slice_cmp nat_cmp) old q) →
    is_path_among q new.keys ≡ (bytes_eq q key || is_path_among q old.keys)
one_inserted old new key q updated =
    sym (among_at q new.keys)
    ∙ updated
    ∙ ap₂ (λ (is among : Bool). cond is true among) (is_eq-slice_cmp key q
    ∙ sym (bytes_swapped key q (bytes_eq key q) refl)) (among_at q old.keys)
    ∙ by (bytes_eq q key) (is_path_among q old.keys)
  where
    by : (is among : Bool) → cond is true among ≡ (is || among)
    by true among = refl
    by false among = refl

-- what holds of all of some paths holds of each that is among them
pub all_among : (P : List ℕ → Type 0) (paths : List (List ℕ)) → AllByRecursion P paths → (path : List ℕ)
    → is_path_among path paths ≡ true → P path
all_among P [] all path is = absurd (cc)
all_among P (first ∷ paths) all path is = by (bytes_eq path first) refl is (all_among P paths all.1 path)
  where
    by : (t : Bool) → bytes_eq path first ≡ t → (t || is_path_among path paths) ≡ true
        → (is_path_among path paths ≡ true → P path) → P path
    by true same is rest = subst P (sym ((bytes_eq-Decides path first).0 same)) all.0
    by false other is rest = rest is
