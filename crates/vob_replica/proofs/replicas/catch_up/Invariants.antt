use Rattle.std.proofs.Common.{◌-◌, length}
use Rattle.vob_replica.specs.Replicas.{AreBranchesOf}
use Rattle.vob_replica.proofs.replicas.catch_up.Given as goal

abbrev pub invariant-taking : goal.invariant-taking
invariant-taking l = AreBranchesOf l.branches l.taken l.operations

abbrev pub decreases-taking : goal.decreases-taking
decreases-taking l = length l.operations - l.taken
