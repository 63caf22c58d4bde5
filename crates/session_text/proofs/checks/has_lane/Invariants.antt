use Rattle.std.proofs.Common.{◌≡◌, length}
use Rattle.std.specs.List.{list_any}
use Rattle.std.specs.Str.{bytes_eq}
use Rattle.session_text.proofs.checks.has_lane.Given as goal

abbrev pub invariant-loop-lane : goal.invariant-loop-lane
invariant-loop-lane l = list_any (bytes_eq l.name) l.lanes ≡ list_any (bytes_eq l.name) l.rest

abbrev pub decreases-loop-lane : goal.decreases-loop-lane
decreases-loop-lane l = length l.rest
