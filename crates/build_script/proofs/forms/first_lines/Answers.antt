use Rattle.std.proofs.Common.{◌-◌, ◌+◌, arith}
use Rattle.build_script.proofs.FormLemmas.{taken_more}
use Rattle.build_script.proofs.forms.first_lines.Goals as goal

pub loop-preserved : goal.loop-preserved
loop-preserved c = taken_more _ _ _ _ _ _ (c.args.number - (c.loop.counter + 1)) c.loop.invariant (omega arith)
    c.in-Some.ensures.lines c.in-Some.ensures.whole
