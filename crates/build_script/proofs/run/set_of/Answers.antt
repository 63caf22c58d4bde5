use Rattle.build_script.proofs.RunLemmas.{holds_more}
use Rattle.build_script.proofs.run.set_of.Goals as goal

pub loop-target-preserved : goal.loop-target-preserved
loop-target-preserved c = holds_more c.loop-target.set.keys c.args.targets.now _ c.loop-target.target-index c.target-item.result
    c.loop-target.invariant c.in_ok-note.ensures c.target-item.is c.loop-target-test.true
