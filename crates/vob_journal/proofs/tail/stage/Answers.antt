use Rattle.std.proofs.Common.{◌+◌, true}
use Rattle.vob_journal.specs.Calls.{FailsToPut}
use Rattle.vob_journal.specs.Phases.{PutsDown, Stages, FailsToStage}
use Rattle.vob_journal.specs.Tails.{IsTail}
use Rattle.vob_journal.proofs.Phasing.{stages_piece, staging_piece_failed}
use Rattle.vob_journal.proofs.Telling.{answer_from}
use Rattle.vob_journal.proofs.tail.stage.Goals as goal

pub returns-clause-modeled : goal.returns-clause-modeled
returns-clause-modeled g c =
    let tail = c.args.tail in
    let payload = c.args.frame.now in
    let piece = c.as_bytes.result.now in
    answer_from c.put_down.result (IsTail true tail) (PutsDown (tail + 1) piece) (Stages tail payload)
    (FailsToPut (tail + 1) piece) (FailsToStage tail payload) _ _
    (stages_piece tail payload piece c.as_bytes.ensures.bytes)
    (staging_piece_failed tail payload piece c.as_bytes.ensures.bytes) c.requires.shut
    c.put_down.ensures.modeled
