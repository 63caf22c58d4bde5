use Rattle.legal_history.proofs.laws.bases.an_element_has_one_directory.Goals as goal
use Rattle.base_model.proofs.NamedOnce.{named_by_version, named_by_checkout}

pub returns-clause-versions : goal.returns-clause-versions
returns-clause-versions c = named_by_version

pub returns-clause-checkouts : goal.returns-clause-checkouts
returns-clause-checkouts c = named_by_checkout
