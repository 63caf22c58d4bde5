-- by the laws of stories
use Rattle.session_run.proofs.Promises.Objects.{held_are_live, scrubs_list}
use Rattle.session_run.proofs.laws.objects_are_scrubbed_well.Goals as goal

pub returns-clause-scrubs : goal.returns-clause-scrubs
returns-clause-scrubs c = scrubs_list c.a_scrub_of_a_story_lists_what_is_due.ensures

pub returns-clause-held : goal.returns-clause-held
returns-clause-held c = held_are_live c.a_held_object_is_live_at_each_step.ensures
