-- What rules pick, worked out by hand, by computation.
use Rattle.std.specs.Prelude.{◌≡◌, refl, ◌++◌, ℕ, true, false, List, [], ◌∷◌, Option, Some, None, Result, Ok, Err, codes}
use Rattle.cc_names.specs.declared.changes.TreeChange.TheVariants.{ElementMade, VersionMade}
use Rattle.cc_names.specs.declared.refusals.SpecError.{SpecError}
use Rattle.cc_names.specs.declared.rows.Kind.TheVariants.{File}
use Rattle.cc_names.specs.declared.selection.Picked.{Picked}
use Rattle.cc_names.specs.declared.selection.Rule.{Rule}
use Rattle.date_text.proofs.OnLiterals.{dates_on_literals}
use Rattle.base_model.specs.ConfigSpecs.Rules.{Selectables, none_listed, pick}
use Rattle.base_model.specs.ConfigSpecs.Specs.{rules_of}

-- an element with two versions, of which the second is as old as the time of a rule
abbrev two_versions : Option ℕ → Selectables
two_versions out = record {
  tree = VersionMade 6 1700000001 2 ∷ VersionMade 4 1700000000 2 ∷ ElementMade 2 1700000000 File ∷ [];
  labels = [];
  listed = none_listed;
  out = out;
}

abbrev picked_in : Option ℕ → Result (List Rule) SpecError → Option Picked
picked_in out (Ok rules) = pick (two_versions out) 2 (codes "in" ∷ []) rules
picked_in out (Err error) = None

before_the_second : picked_in None (rules_of (codes "element in .../fix/LATEST" ++ 10
    ∷ codes "element in /main/LATEST -time 14-Nov-2023.22:13:21")) ≡ Some (record { row = 4; line = 2; out = false })
unfolding dates_on_literals
before_the_second = refl

checked_out : picked_in (Some 9) (rules_of (codes "element * CHECKEDOUT" ++ 10 ∷ codes "element * /main/LATEST"))
    ≡ Some (record { row = 9; line = 1; out = true })
checked_out = refl

ended : picked_in None (rules_of (codes "element in -none" ++ 10 ∷ codes "element * /main/LATEST")) ≡ None
ended = refl
