-- What one option leaves to those after it.
use Rattle.std.proofs.Common.{◌≡◌, ℕ, Option, Some, None, List, [], ◌∷◌, refl, arith}
use Rattle.base_model.specs.ConfigSpecs.Lines.{Options, option_named, with_time, with_nocheckout, with_mkbranch}
use Rattle.spec_text.specs.OptionSteps.{IsNextOption}
use Rattle.base_model.specs.declared.config_specs.Named.TheVariants.{Time, NoCheckout, MkBranch}

pub nocheckout_goes : (word : List ℕ) (words : List (List ℕ)) (before : Options) → option_named word ≡ NoCheckout
    → IsNextOption word words before words (with_nocheckout before)
nocheckout_goes word words before named = by words (with_nocheckout before) refl
  where
    by : (words : List (List ℕ)) (after : Option Options) → with_nocheckout before ≡ after
        → IsNextOption word words before words after
    by [] None e = rw (named, e) refl
    by (next ∷ words) None e = rw (named, e) refl
    by [] (Some after) e = record { same = rw (named, e) refl; less = omega arith }
    by (next ∷ words) (Some after) e = record { same = rw (named, e) refl; less = omega arith }

pub time_goes : (word value : List ℕ) (rest : List (List ℕ)) (before : Options) → option_named word ≡ Time
    → IsNextOption word (value ∷ rest) before rest (with_time value before)
time_goes word value rest before named = by (with_time value before) refl
  where
    by : (after : Option Options) → with_time value before ≡ after → IsNextOption word (value ∷ rest) before rest after
    by None e = rw (named, e) refl
    by (Some after) e = record { same = rw (named, e) refl; less = omega arith }

pub mkbranch_goes : (word value : List ℕ) (rest : List (List ℕ)) (before : Options) → option_named word ≡ MkBranch
    → IsNextOption word (value ∷ rest) before rest (with_mkbranch value before)
mkbranch_goes word value rest before named = by (with_mkbranch value before) refl
  where
    by : (after : Option Options) → with_mkbranch value before ≡ after → IsNextOption word (value ∷ rest) before rest after
    by None e = rw (named, e) refl
    by (Some after) e = record { same = rw (named, e) refl; less = omega arith }
