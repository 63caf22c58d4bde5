use Rattle.std.proofs.Common.{◌-◌, ◌/◌, sym, subst, arith}
use Rattle.std.specs.Prelude.{OnOk}
use Rattle.clearmake.specs.Passes.{AreLanesDone}
use Rattle.clearmake.proofs.Joins.{joined_later}
use Rattle.clearmake.proofs.Laning.{both_done}
use Rattle.clearmake.proofs.lanes.+fn-run_lanes-join+arg2+fn-run_lanes-join+arg3+run_lanes.Goals as goal

pub returns-clause-pass : goal.returns-clause-pass
returns-clause-pass g t c =
    joined_later c.args.pass c.split-one.result.0 c.split-one.result.1 c.join-two.result.1.0 c.join-two.result.0.0 c.join.result
    c.split-one.ensures.own.0 c.split-one.ensures.weight c.split-one.ensures.seen c.join-two.ensures.second.0
    c.join-two.ensures.first.0 c.join.ensures.own c.join.ensures.weight c.join.ensures.seen

pub returns-clause-finished : goal.returns-clause-finished
returns-clause-finished g t c =
    subst (λ r. OnOk r (AreLanesDone c.join.result.seen c.args.first c.args.lanes g.T.PhaseService.number)) (sym c.and.ensures)
    (both_done c.args.first (c.args.lanes - c.args.lanes / 2) (c.args.lanes / 2) c.args.lanes _ _ _ _ c.join-two.result.1.1
    c.join-two.result.0.1 (omega arith) (omega arith) (omega arith)
    c.join-two.ensures.second.1 c.join-two.ensures.first.1 c.join.ensures.seen)
