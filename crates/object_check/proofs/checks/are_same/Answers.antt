-- Lists of different lengths differ.
use Rattle.object_check.proofs.SameTexts.{other_length}
use Rattle.object_check.proofs.checks.are_same.Goals as goal

pub returns-then-one-other : goal.returns-then-one-other
returns-then-one-other c = other_length c.args.one.now c.args.other.now c.if-one-other.true
