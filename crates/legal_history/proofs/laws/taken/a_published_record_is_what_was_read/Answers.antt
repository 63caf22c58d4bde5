use Rattle.legal_history.proofs.laws.taken.a_published_record_is_what_was_read.Goals as goal
use Rattle.legal_history.proofs.Reuse.Taken.{story_records}

pub returns : goal.returns
returns c = story_records
