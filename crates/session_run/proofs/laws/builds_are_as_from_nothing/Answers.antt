-- by the laws of builds
use Rattle.session_run.proofs.Promises.Reused.{built_so, commanded_so, outcomes_so}
use Rattle.session_run.proofs.laws.builds_are_as_from_nothing.Goals as goal

pub returns-clause-commanded : goal.returns-clause-commanded
returns-clause-commanded c = commanded_so c.a_build_is_of_its_command.ensures

pub returns-clause-built : goal.returns-clause-built
returns-clause-built c = built_so c.a_build_is_as_from_nothing.ensures

pub returns-clause-outcomes : goal.returns-clause-outcomes
returns-clause-outcomes c = outcomes_so c.an_ended_build_has_its_outcomes_from_nothing.ensures
