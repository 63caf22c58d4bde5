use Rattle.legal_history.proofs.laws.taken.nothing_is_passed_over.Goals as goal
use Rattle.legal_history.proofs.Reuse.Taken.{story_matches, story_publishes, story_starts}

pub returns-clause-start : goal.returns-clause-start
returns-clause-start c = story_starts

pub returns-clause-publish : goal.returns-clause-publish
returns-clause-publish c = story_publishes

pub returns-clause-matched : goal.returns-clause-matched
returns-clause-matched c = story_matches
