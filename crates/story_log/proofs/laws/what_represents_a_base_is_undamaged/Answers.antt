use Rattle.story_log.proofs.Stored.Damaged.{damaged_once, one_list, represented_undamaged}
use Rattle.story_log.proofs.laws.what_represents_a_base_is_undamaged.Goals as goal

pub returns-clause-undamaged : goal.returns-clause-undamaged
returns-clause-undamaged c = represented_undamaged

pub returns-clause-one : goal.returns-clause-one
returns-clause-one c = one_list

pub returns-clause-once : goal.returns-clause-once
returns-clause-once c = damaged_once
