use Rattle.legal_history.proofs.laws.later.a_started_unit_sees_the_same_later.Goals as goal
use Rattle.std.proofs.Common.{◌++◌}
use Rattle.legal_history.specs.Stories.Steps.{state_of}
use Rattle.legal_history.proofs.Stories.LaterBuilds.{goes_on_later}
use Rattle.legal_history.proofs.Stories.Started.{same_run, same_selection}

pub returns-clause-seen : goal.returns-clause-seen
returns-clause-seen c = λ prefix rest lane old new n unit path h of_n came.
    same_selection (state_of prefix).base (state_of (prefix ++ rest)).base old new n unit path
    (goes_on_later prefix rest lane old new n unit h of_n came)

pub returns-clause-run : goal.returns-clause-run
returns-clause-run c = λ prefix rest lane old new n unit h of_n came.
    same_run (state_of prefix).base (state_of (prefix ++ rest)).base old new n unit
    (goes_on_later prefix rest lane old new n unit h of_n came)
