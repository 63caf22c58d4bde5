use Rattle.std.proofs.Common.{◌+◌, List, drop, ap}
use Rattle.std.proofs.lemmas.Result.{err_from_is_err_and}
use Rattle.build_script.specs.Progress.{run_state}
use Rattle.script_grammar.specs.Run.{after_lines}
use Rattle.script_grammar.specs.declared.lines.Line.{Line}
use Rattle.script_grammar.proofs.CarriedLemmas.{carried_step, carried_halt}
use Rattle.build_script.proofs.RunLemmas.{item_at}
use Rattle.build_script.proofs.run.run_lines.Goals as goal

pub returns-in_err-carry_out : goal.returns-in_err-carry_out
returns-in_err-carry_out g c =
    let p = err_from_is_err_and c.from_residual.result c.from_residual.ensures.1 in
    let cut = item_at c.args.lines.now c.loop-line.line-index c.line-item.result c.line-item.is c.loop-line-test.true in
    rw (p.1, p.2) (carried_halt g.met.F.Files.transitive (after_lines c.args.targets.now.keys
    (drop (c.loop-line.line-index + 1) c.args.lines.now)) _ c.loop-line.invariant
    (ap (λ (lines : List Line). after_lines c.args.targets.now.keys lines (run_state c.loop-line.progress)) cut)
    c.in_err-carry_out.ensures)

pub loop-line-preserved : goal.loop-line-preserved
loop-line-preserved g c =
    let cut = item_at c.args.lines.now c.loop-line.line-index c.line-item.result c.line-item.is c.loop-line-test.true in
    carried_step g.met.F.Files.transitive (after_lines c.args.targets.now.keys
    (drop (c.loop-line.line-index + 1) c.args.lines.now)) c.loop-line.invariant
    (ap (λ (lines : List Line). after_lines c.args.targets.now.keys lines (run_state c.loop-line.progress)) cut)
    c.in_ok-carry_out.ensures
