use Rattle.legal_history.proofs.laws.reuse.a_base_stays_sound.Goals as goal
use Rattle.legal_history.proofs.Reuse.SoundBases.{story_stays_sound, sound_from_nothing}

pub returns-clause-stays : goal.returns-clause-stays
returns-clause-stays c = story_stays_sound

pub returns-clause-from_nothing : goal.returns-clause-from_nothing
returns-clause-from_nothing c = sound_from_nothing
