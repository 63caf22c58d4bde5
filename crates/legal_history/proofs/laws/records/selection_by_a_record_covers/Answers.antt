use Rattle.legal_history.proofs.laws.records.selection_by_a_record_covers.Goals as goal
use Rattle.legal_history.proofs.Reuse.SelectedCovers.{selection_covers}

pub returns : goal.returns
returns c = selection_covers
