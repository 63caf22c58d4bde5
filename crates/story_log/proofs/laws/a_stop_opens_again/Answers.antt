-- what a stop finds opens again
use Rattle.story_log.proofs.Stopping.FoundBases.{opens_again}
use Rattle.story_log.proofs.laws.a_stop_opens_again.Goals as goal

pub returns : goal.returns
returns c = λ story opening k found legal named opened may. opens_again
    (record { base = c.a_stop_leaves_a_base.ensures; sound = c.a_stop_leaves_a_base_sound.ensures.stop }) story opening k found
    legal named opened may
