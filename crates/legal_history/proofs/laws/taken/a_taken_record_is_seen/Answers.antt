use Rattle.legal_history.proofs.laws.taken.a_taken_record_is_seen.Goals as goal
use Rattle.legal_history.proofs.Reuse.Taken.{story_kept, story_winked}

pub returns-clause-kept : goal.returns-clause-kept
returns-clause-kept c = story_kept

pub returns-clause-winked : goal.returns-clause-winked
returns-clause-winked c = story_winked
