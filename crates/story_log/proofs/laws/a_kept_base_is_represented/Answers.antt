use Rattle.story_log.proofs.Stored.Holding.{held_in_image}
use Rattle.story_log.proofs.laws.a_kept_base_is_represented.Goals as goal

pub returns : goal.returns
returns c = held_in_image
