use Rattle.std.proofs.Common.{◌≡◌, drop}
use Rattle.base_model.specs.Objects.{are_same_paths}
use Rattle.object_check.proofs.checks.are_same.Given as goal

abbrev pub invariant-loop-index : goal.invariant-loop-index
invariant-loop-index l = are_same_paths l.one l.other ≡ are_same_paths (drop l.index l.one) (drop l.index l.other)
