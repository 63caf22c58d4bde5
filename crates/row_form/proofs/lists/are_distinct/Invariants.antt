use Rattle.std.proofs.Common.{◌≡◌, drop}
use Rattle.row_form.specs.FieldReaders.{are_distinct}
use Rattle.row_form.proofs.Distinct.{are_fresh}
use Rattle.row_form.proofs.lists.are_distinct.Given as goal

abbrev pub invariant-loop-target : goal.invariant-loop-target
invariant-loop-target l = are_distinct l.targets ≡ are_fresh l.seen.keys (drop l.target-index l.targets)
