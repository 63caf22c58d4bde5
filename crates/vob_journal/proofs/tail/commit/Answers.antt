use Rattle.std.proofs.Common.{true}
use Rattle.vob_journal.specs.declared.left.Left.TheVariants.{Nothing, Earlier, InFlight}
use Rattle.vob_journal.specs.Calls.{Settles, LeavesLeftover, CommitsFrame, FailsToAppend}
use Rattle.vob_journal.specs.Phases.{Stages, FailsToStage, OpensGate, MayOpen}
use Rattle.vob_journal.proofs.Phasing.{fails_settling, fails_staging, fails_opening, commits}
use Rattle.vob_journal.proofs.Telling.{both_map, both_then, both_three}
use Rattle.vob_journal.proofs.tail.commit.Goals as goal

pub returns-in-Err-clause-modeled : goal.returns-in-Err-clause-modeled
returns-in-Err-clause-modeled g c =
    let settled = c.args.settled in
    let tail = c.args.tail in
    let payload = c.args.frame.now in
    both_map (LeavesLeftover settled tail) (FailsToAppend settled tail payload Earlier) _ _ (fails_settling settled tail payload)
    c.in-Err.ensures.modeled

pub returns-in-Err-stage-clause-modeled : goal.returns-in-Err-stage-clause-modeled
returns-in-Err-stage-clause-modeled g c =
    let settled = c.args.settled in
    let tail = c.args.tail in
    let payload = c.args.frame.now in
    both_then (Settles settled tail) (FailsToStage tail payload) (FailsToAppend settled tail payload Nothing) _ _ _
    (λ d e f s k. fails_staging settled tail payload d e s f k)
    c.in_default.ensures.modeled c.in-Err-stage.ensures.modeled

pub returns-in-Err-open_gate-clause-modeled : goal.returns-in-Err-open_gate-clause-modeled
returns-in-Err-open_gate-clause-modeled g c =
    let settled = c.args.settled in
    let tail = c.args.tail in
    let payload = c.args.frame.now in
    both_three (Settles settled tail) (Stages tail payload) (MayOpen tail payload) (FailsToAppend settled tail payload InFlight) _
    _ _ _
    (λ d e f h s t o. fails_opening settled tail payload d e s f h t o)
    c.in_default.ensures.modeled c.in_default-stage.ensures.modeled c.in-Err-open_gate.ensures.modeled

pub returns-clause-modeled : goal.returns-clause-modeled
returns-clause-modeled g c =
    let settled = c.args.settled in
    let tail = c.args.tail in
    let payload = c.args.frame.now in
    both_three (Settles settled tail) (Stages tail payload) (OpensGate tail payload) (CommitsFrame settled tail payload) _ _ _ _
    (λ d e f h s t o. commits settled tail payload d e s f h t o)
    c.in_default.ensures.modeled c.in_default-stage.ensures.modeled c.in_default-open_gate.ensures.modeled
