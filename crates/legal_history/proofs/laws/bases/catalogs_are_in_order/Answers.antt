use Rattle.legal_history.proofs.laws.bases.catalogs_are_in_order.Goals as goal
use Rattle.base_model.proofs.CatalogsInOrder.{version_in_order, checkout_in_order}

pub returns-clause-versions : goal.returns-clause-versions
returns-clause-versions c = version_in_order

pub returns-clause-checkouts : goal.returns-clause-checkouts
returns-clause-checkouts c = checkout_in_order
