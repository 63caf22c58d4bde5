use Rattle.std.proofs.Common.{◌≡◌, ◌+◌, ◌++◌, length}
use Rattle.legal_history.specs.Builds.Replied.{lines_from}
use Rattle.build_core.proofs.replies.lines_of_units.Given as goal

abbrev pub invariant-loop-unit : goal.invariant-loop-unit
invariant-loop-unit l = record {
  lines : lines_from l.rows l.build 0 l.build.units ≡ l.lines.items ++ lines_from l.rows l.build l.number l.rest;
  count : l.number + length l.rest ≡ length l.build.units;
}

abbrev pub decreases-loop-unit : goal.decreases-loop-unit
decreases-loop-unit l = length l.rest
