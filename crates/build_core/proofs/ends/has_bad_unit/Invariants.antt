use Rattle.std.proofs.Common.{◌≡◌, drop}
use Rattle.std.specs.List.{list_any}
use Rattle.legal_history.specs.Builds.Active.{came_to}
use Rattle.legal_history.specs.Builds.Serials.{is_bad}
use Rattle.legal_history.specs.Builds.Turns.{standing_of_came}
use Rattle.build_core.proofs.ends.has_bad_unit.Given as goal

abbrev pub invariant-loop-unit : goal.invariant-loop-unit
invariant-loop-unit l =
    list_any (λ n. is_bad (standing_of_came (came_to l.build n))) (drop l.unit-index l.units)
    ≡ list_any (λ n. is_bad (standing_of_came (came_to l.build n))) l.units
