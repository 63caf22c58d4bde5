use Rattle.make_graph.proofs.DependantLemmas.{names_more}
use Rattle.make_graph.proofs.dependants.name_all.Goals as goal

pub loop-maker-preserved : goal.loop-maker-preserved
loop-maker-preserved c =
    names_more c.args.makers.now c.loop-maker.maker-index c.args.unit c.args.all.now c.loop-maker.all c.name.new.all
    c.loop-maker-test.true c.loop-maker.invariant c.in_ok-name.ensures
