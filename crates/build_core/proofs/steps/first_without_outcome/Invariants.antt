use Rattle.std.proofs.Common.{◌≡◌, not, drop}
use Rattle.std.specs.Prelude.{find}
use Rattle.legal_history.specs.Builds.Active.{came_to, is_outcome}
use Rattle.build_core.proofs.steps.first_without_outcome.Given as goal

abbrev pub invariant-loop-unit : goal.invariant-loop-unit
invariant-loop-unit l =
    find (λ n. not (is_outcome (came_to l.build n))) (drop l.unit-index l.units)
    ≡ find (λ n. not (is_outcome (came_to l.build n))) l.units
