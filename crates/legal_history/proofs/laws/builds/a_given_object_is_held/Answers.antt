use Rattle.legal_history.proofs.laws.builds.a_given_object_is_held.Goals as goal
use Rattle.legal_history.proofs.Reuse.SoundBases.{story_holds}

pub returns : goal.returns
returns c = story_holds
