-- The units of a build are formed: their targets are below the root, each once, and their scripts within the limit.
use Rattle.std.proofs.Common.{◌≡◌, ℕ, Option, Ok, List, [], ◌∷◌}
use Rattle.std.specs.Prelude.{is_some}
use Rattle.std.specs.List.{AllByRecursion}
use Rattle.cc_names.specs.Files.{Files}
use Rattle.cc_names.specs.declared.commands.Macro.{Macro}
use Rattle.cc_names.specs.declared.units.Unit.{Unit}
use Rattle.make_grammar.specs.Graphs.{units}
use Rattle.make_grammar.specs.UnitLaws.{IsUnit}
use Rattle.make_grammar.proofs.UnitLaws as laws
use Rattle.legal_history.proofs.Builds.OrderedUnits.{of_formed}
use Rattle.build_core.specs.BuildForms.{IsUnitFormed}

each_formed : (made : List Unit) → AllByRecursion IsUnit made → AllByRecursion IsUnitFormed made
each_formed [] h = tt
each_formed (unit ∷ made) h = ((h.0.targets, h.0.script), each_formed made h.1)

-- The units of a build are formed.
pub units_formed : (files : Files) (file : Option (List ℕ)) (macros : List Macro) (goals : List (List ℕ)) (made : List Unit)
    → units files file macros goals ≡ Ok made → AllByRecursion IsUnitFormed made
units_formed files file macros goals made h =
    let of = of_formed files file macros goals made h in
    each_formed made (laws.units_formed of.make goals (λ path. is_some (files path)) made of.formed of.graph)
