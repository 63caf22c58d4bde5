-- what was found opens to a sound base
use Rattle.story_log.proofs.Stopping.FoundBases.{found_is_sound}
use Rattle.story_log.proofs.laws.a_found_base_is_sound.Goals as goal

pub returns : goal.returns
returns c = λ opened base disk device handed is again on sound. found_is_sound opened base disk device handed is again on sound
