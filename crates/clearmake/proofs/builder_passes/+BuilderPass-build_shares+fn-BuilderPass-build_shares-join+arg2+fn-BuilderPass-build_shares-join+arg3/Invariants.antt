use Rattle.std.proofs.Common.{◌+◌, ◌*◌, length}
use Rattle.clearmake.proofs.builder_passes.+BuilderPass-build_shares+fn-BuilderPass-build_shares-join+arg2+fn-BuilderPass-build_shares-join+arg3.Given as goal

-- a closure weighs one more than the builders that it has
abbrev pub decreases-join+arg2 : goal.decreases-join+arg2
decreases-join+arg2 g l = 2 * length l.there.now + 2

abbrev pub decreases-join+arg3 : goal.decreases-join+arg3
decreases-join+arg3 g l = 2 * length l.here.now + 2

abbrev pub decreases-BuilderPass::build_shares : goal.decreases-BuilderPass::build_shares
decreases-BuilderPass::build_shares g l = 2 * length l.builders.now + 1
