use Rattle.legal_history.proofs.laws.builds.a_build_is_finished_by_its_refusal_or_its_end.Goals as goal
use Rattle.legal_history.proofs.Stories.Finishing.{is_ended, is_refused}

pub returns-clause-refusal : goal.returns-clause-refusal
returns-clause-refusal c = is_refused

pub returns-clause-end : goal.returns-clause-end
returns-clause-end c = is_ended
