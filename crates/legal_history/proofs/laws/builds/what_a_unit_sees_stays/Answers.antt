use Rattle.legal_history.specs.Stories.Steps.{state_of}
use Rattle.legal_history.proofs.laws.builds.what_a_unit_sees_stays.Goals as goal
use Rattle.legal_history.proofs.Reuse.SeenStays.{run_stays, seen_stays}
use Rattle.legal_history.proofs.Stories.ConsistentStories.{build_is_consistent}

pub returns-clause-seen : goal.returns-clause-seen
returns-clause-seen c = λ story lane build more n unit path legal is. seen_stays more (state_of story).base build n unit path
    (build_is_consistent story lane build legal is)

pub returns-clause-run : goal.returns-clause-run
returns-clause-run c = λ story lane build more n unit legal is. run_stays more (state_of story).base build n unit
    (build_is_consistent story lane build legal is)
