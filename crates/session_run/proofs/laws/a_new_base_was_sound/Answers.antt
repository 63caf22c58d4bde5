-- a base without rows is sound
use Rattle.session_run.proofs.Promises.Reused.{new_was_sound}
use Rattle.session_run.proofs.laws.a_new_base_was_sound.Goals as goal

pub returns : goal.returns
returns c = new_was_sound
