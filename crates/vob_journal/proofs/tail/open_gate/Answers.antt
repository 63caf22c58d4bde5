use Rattle.std.proofs.Common.{[], ◌∷◌}
use Rattle.vob_journal.specs.Calls.{FailsToPut}
use Rattle.vob_journal.specs.Phases.{PutsDown, IsStagedAt, OpensGate, MayOpen}
use Rattle.vob_journal.proofs.Phasing.{opens_put, opening_failed}
use Rattle.vob_journal.proofs.Telling.{answer_from}
use Rattle.vob_journal.proofs.tail.open_gate.Goals as goal

pub returns-clause-modeled : goal.returns-clause-modeled
returns-clause-modeled g c =
    let tail = c.args.tail in
    let payload = c.args.frame.now in
    answer_from c.put_down.result (IsStagedAt tail payload) (PutsDown tail (1 ∷ [])) (OpensGate tail payload)
    (FailsToPut tail (1 ∷ [])) (MayOpen tail payload) _ _
    (λ d e. opens_put tail payload d e c.as_bytes-frame.ensures.short)
    (λ d e. opening_failed tail payload d e c.as_bytes-frame.ensures.short) c.requires c.put_down.ensures.modeled
