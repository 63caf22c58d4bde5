use Rattle.std.proofs.Common.{take}
use Rattle.build_script.specs.Progress.{HoldsEach}
use Rattle.build_script.proofs.run.set_of.Given as goal

abbrev pub invariant-loop-target : goal.invariant-loop-target
invariant-loop-target l = HoldsEach l.set.keys (take l.target-index l.targets)
