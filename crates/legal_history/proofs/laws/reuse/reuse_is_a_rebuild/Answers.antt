use Rattle.legal_history.proofs.laws.reuse.reuse_is_a_rebuild.Goals as goal
use Rattle.legal_history.proofs.Reuse.Rebuilds.{story_match, story_reuse, story_reuse_from_nothing}

pub returns-clause-matched : goal.returns-clause-matched
returns-clause-matched c = story_match

pub returns-clause-run : goal.returns-clause-run
returns-clause-run c = story_reuse

pub returns-clause-from_nothing : goal.returns-clause-from_nothing
returns-clause-from_nothing c = story_reuse_from_nothing
