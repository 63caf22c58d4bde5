use Rattle.legal_history.proofs.laws.bases.first_rows_stay.Goals as goal
use Rattle.base_model.proofs.Stay.{first_rows_stay_all, row_stays_all, text_stays_all, catalog_stays_all}

pub returns-clause-rows : goal.returns-clause-rows
returns-clause-rows c = first_rows_stay_all

pub returns-clause-row : goal.returns-clause-row
returns-clause-row c = row_stays_all

pub returns-clause-text : goal.returns-clause-text
returns-clause-text c = text_stays_all

pub returns-clause-catalog : goal.returns-clause-catalog
returns-clause-catalog c = catalog_stays_all
