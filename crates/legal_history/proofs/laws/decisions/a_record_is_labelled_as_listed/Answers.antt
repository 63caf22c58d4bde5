use Rattle.legal_history.proofs.laws.decisions.a_record_is_labelled_as_listed.Goals as goal
use Rattle.legal_history.proofs.Decisions.RecordLabels.{labels_exactly, labels_in_order, labels_selected, labels_versions}

pub returns-clause-exactly : goal.returns-clause-exactly
returns-clause-exactly c = labels_exactly

pub returns-clause-order : goal.returns-clause-order
returns-clause-order c = labels_in_order

pub returns-clause-selected : goal.returns-clause-selected
returns-clause-selected c = labels_selected

pub returns-clause-versions : goal.returns-clause-versions
returns-clause-versions c = labels_versions
