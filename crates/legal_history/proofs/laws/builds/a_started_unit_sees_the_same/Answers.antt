use Rattle.legal_history.proofs.laws.builds.a_started_unit_sees_the_same.Goals as goal
use Rattle.legal_history.specs.Stories.Steps.{after, state_of}
use Rattle.legal_history.proofs.Stories.GoingOn.{goes_on_so}
use Rattle.legal_history.proofs.Stories.Started.{same_run, same_selection}

pub returns-clause-run : goal.returns-clause-run
returns-clause-run c story x lane old new n unit legal e is later of_n came =
    same_run (state_of story).base (after (state_of story) x).base old new n unit
    (goes_on_so story x lane old new n unit legal e is later of_n came)

pub returns-clause-seen : goal.returns-clause-seen
returns-clause-seen c story x lane old new n unit path legal e is later of_n came =
    same_selection (state_of story).base (after (state_of story) x).base old new n unit path
    (goes_on_so story x lane old new n unit legal e is later of_n came)
