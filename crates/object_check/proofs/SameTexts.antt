-- Lists of different lengths differ.
use Rattle.std.proofs.Common.{◌≡◌, ap, refl, ℕ, Bool, true, false, List, length}
use Rattle.base_model.specs.Objects.{are_same_paths}
use Rattle.legal_history.proofs.Reuse.TrueObjects.{same_texts}

pub other_length : (xs ys : List (List ℕ)) → (length xs ≡ length ys → ⊥) → false ≡ are_same_paths xs ys
other_length xs ys apart = by (are_same_paths xs ys) refl
  where
    by : (t : Bool) → are_same_paths xs ys ≡ t → false ≡ t
    by true same = absurd (apart (ap length (same_texts xs ys same)))
    by false same = refl
