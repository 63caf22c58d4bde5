-- what a stop finds is a base
use Rattle.story_log.proofs.Stopping.FoundBases.{found_base}
use Rattle.story_log.proofs.laws.a_stop_leaves_a_base.Goals as goal

pub returns : goal.returns
returns c = λ story opening k found legal opened may. found_base (record {
  base = c.a_stop_leaves_a_base.ensures;
  sound = c.a_stop_leaves_a_base_sound.ensures.stop;
}) story opening k found legal opened may
