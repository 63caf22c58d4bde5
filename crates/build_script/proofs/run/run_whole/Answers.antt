use Rattle.std.proofs.lemmas.Result.{err_from_is_err_and}
use Rattle.build_script.specs.Progress.{run_state}
use Rattle.script_grammar.specs.Run.{State, Done, target_outputs}
use Rattle.script_grammar.proofs.CarriedLemmas.{carried_then, carried_failed, carried_as, carried_pure}
use Rattle.build_script.proofs.RunLemmas.{after_lines_same}
use Rattle.build_script.proofs.run.run_whole.Goals as goal

pub returns-in_err-run_lines : goal.returns-in_err-run_lines
returns-in_err-run_lines g c =
    let p = err_from_is_err_and c.from_residual-in_err-run_lines.result c.from_residual-in_err-run_lines.ensures.1 in
    let lines = carried_as (after_lines_same c.in_ok-set.set.keys c.args.targets.now c.in_ok-set.ensures c.args.lines.now
    (run_state c.args.progress.now)) c.in_err-run_lines.ensures in
    rw (p.1, p.2) (carried_failed (λ (after : State). Done (target_outputs c.args.targets.now after.own)) _ lines)

pub returns : goal.returns
returns g c =
    let lines = carried_as (after_lines_same c.in_ok-set.set.keys c.args.targets.now c.in_ok-set.ensures c.args.lines.now
    (run_state c.args.progress.now)) c.in_ok-run_lines.ensures in
    carried_then g.met.F.Files.transitive (λ (after : State). Done (target_outputs c.args.targets.now after.own)) lines
    (carried_pure g.met.F.Files.reflexive c.outputs.ensures)
