use Rattle.std.proofs.Common.{◌≡◌, ◌++◌, drop}
use Rattle.std.specs.List.{filter}
use Rattle.build_core.specs.Releasing.{can_be_driven}
use Rattle.build_core.proofs.releases.released_units.Given as goal

abbrev pub invariant-loop-dependant : goal.invariant-loop-dependant
invariant-loop-dependant l =
    l.released.items ++ filter (can_be_driven l.build) (drop l.dependant-index l.dependants)
    ≡ filter (can_be_driven l.build) l.dependants
