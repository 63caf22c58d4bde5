use Rattle.vob_journal.proofs.Passing.{modeled_put, modeled_unwritten}
use Rattle.vob_journal.proofs.tail.put_down.Goals as goal

pub returns-clause-modeled : goal.returns-clause-modeled
returns-clause-modeled g c = modeled_put c.sync.result c.args.place c.args.piece.now _ _ _ c.in_default.ensures.modeled
    c.sync.ensures.modeled

pub returns-in-Err-clause-modeled : goal.returns-in-Err-clause-modeled
returns-in-Err-clause-modeled g c = modeled_unwritten c.args.place c.args.piece.now _ _ c.in-Err.ensures.modeled
