use Rattle.story_log.proofs.Stored.WithoutExtents.{damage_of_frames, nothing_changes, represented_names_none}
use Rattle.story_log.proofs.Stored.WithoutExtents.{spelled_is_represented}
use Rattle.story_log.proofs.laws.without_extents_nothing_changes.Goals as goal

pub returns-clause-spelled : goal.returns-clause-spelled
returns-clause-spelled c = spelled_is_represented

pub returns-clause-represents : goal.returns-clause-represents
returns-clause-represents c = nothing_changes

pub returns-clause-none : goal.returns-clause-none
returns-clause-none c = represented_names_none

pub returns-clause-damage : goal.returns-clause-damage
returns-clause-damage c = damage_of_frames
