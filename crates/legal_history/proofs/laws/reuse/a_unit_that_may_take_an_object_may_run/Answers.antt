use Rattle.legal_history.proofs.laws.reuse.a_unit_that_may_take_an_object_may_run.Goals as goal
use Rattle.legal_history.proofs.Reuse.TakenObjects.{may_take_may_run}

pub returns : goal.returns
returns c = may_take_may_run
