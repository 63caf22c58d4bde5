use Rattle.std.proofs.Common.{◌≡◌, [], length}
use Rattle.std.specs.Option.{option_copied}
use Rattle.base_model.specs.ConfigSpecs.Selectors.{behind_main}
use Rattle.spec_text.specs.Parts.{parts_left}
use Rattle.spec_text.proofs.selectors.behind_main.Given as goal

-- the names so far are those that stand before what is left
abbrev pub invariant-parts : goal.invariant-parts
invariant-parts l =
    behind_main (parts_left 47 (option_copied l.initial.left)) [] ≡ behind_main (parts_left 47 (option_copied l.left))
    l.names.items

abbrev pub decreases-parts : goal.decreases-parts
decreases-parts l = length (parts_left 47 (option_copied l.left))
