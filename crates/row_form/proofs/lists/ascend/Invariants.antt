use Rattle.std.proofs.Common.{◌≡◌, length}
use Rattle.row_form.specs.FieldReaders.{ascends}
use Rattle.row_form.proofs.lists.ascend.Given as goal

abbrev pub invariant-loop-rest : goal.invariant-loop-rest
invariant-loop-rest g l = ascends g.M.Ordered.cmp l.members ≡ ascends g.M.Ordered.cmp l.rest

abbrev pub decreases-loop-rest : goal.decreases-loop-rest
decreases-loop-rest g l = length l.rest
