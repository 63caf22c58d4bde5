use Rattle.std.proofs.Common.{◌≡◌, drop}
use Rattle.std.specs.List.{list_all}
use Rattle.legal_history.specs.Builds.Active.{came_to, is_outcome}
use Rattle.build_core.proofs.releases.are_over.Given as goal

abbrev pub invariant-loop-unit : goal.invariant-loop-unit
invariant-loop-unit l =
    list_all (λ n. is_outcome (came_to l.build n)) (drop l.unit-index l.units)
    ≡ list_all (λ n. is_outcome (came_to l.build n)) l.units
