use Rattle.legal_history.proofs.laws.builds.a_build_is_of_its_command.Goals as goal
use Rattle.legal_history.proofs.Builds.CommandSteps.{build_commanded}

pub returns : goal.returns
returns c = build_commanded
