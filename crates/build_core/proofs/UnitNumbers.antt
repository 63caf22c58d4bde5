-- The number of the unit that makes a path.
use Rattle.std.proofs.Common.{◌≡◌, ℕ, suc, ◌+◌, ◌<◌, Bool, true, false, Option, Some, None, List, [], ◌∷◌, length, refl, IfSome}
use Rattle.std.proofs.Common.{arith}
use Rattle.cc_names.specs.declared.units.Unit.{Unit}
use Rattle.base_model.specs.Closures.{is_path_among}
use Rattle.legal_history.specs.Builds.Active.{number_from}

below : (k : ℕ) (path : List ℕ) (units : List Unit) (n : ℕ) → number_from k path units ≡ Some n → n < k + length units
below k path [] n h = absurd (cc)
below k path (unit ∷ units) n h = by (is_path_among path unit.targets) h (below (k + 1) path units n)
  where
    by : (t : Bool) → elim t as (λ b. Option ℕ) [ true ↦ Some k | false ↦ number_from (k + 1) path units ] ≡ Some n →
        (number_from (k + 1) path units ≡ Some n → n < (k + 1) + length units) → n < k + suc (length units)
    by true h rest = let same : k ≡ n = cc in omega (arith, same)
    by false h rest = omega (arith, rest h)

-- it is one of the units
pub within : (path : List ℕ) (units : List Unit) → IfSome (number_from 0 path units) (λ n. n < length units)
within path units = by (number_from 0 path units) refl
  where
    by : (o : Option ℕ) → number_from 0 path units ≡ o → IfSome o (λ n. n < length units)
    by None e = tt
    by (Some n) e = omega (arith, below 0 path units n e)
