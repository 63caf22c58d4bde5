-- what a stop left is sound for the next call
use Rattle.session_run.proofs.Promises.HandedOn.{handed_on}
use Rattle.session_run.proofs.laws.a_sound_base_is_handed_on.Goals as goal

pub returns : goal.returns
returns c = handed_on c.a_found_base_is_sound.ensures
