use Rattle.row_form.proofs.ExactRow.{one_spelling}
use Rattle.row_form.proofs.reading.rows_have_one_spelling.Goals as goal

pub returns : goal.returns
returns c = one_spelling
