use Rattle.legal_history.proofs.laws.bases.more_rows_change_nothing_earlier.Goals as goal
use Rattle.base_model.proofs.FirstRowsStay.{say_the_same}

pub returns : goal.returns
returns c = say_the_same
