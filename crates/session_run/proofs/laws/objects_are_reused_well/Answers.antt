-- by the laws of reuse
use Rattle.session_run.proofs.Promises.Reused.{recorded_so, reused_so, sought_so, sound_so}
use Rattle.session_run.proofs.laws.objects_are_reused_well.Goals as goal

pub returns-clause-reused : goal.returns-clause-reused
returns-clause-reused c = reused_so c.a_taken_record_is_seen.ensures.kept c.a_taken_record_is_seen.ensures.winked

pub returns-clause-sought : goal.returns-clause-sought
returns-clause-sought c = sought_so c.nothing_is_passed_over.ensures.start c.nothing_is_passed_over.ensures.publish
    c.nothing_is_passed_over.ensures.matched

pub returns-clause-recorded : goal.returns-clause-recorded
returns-clause-recorded c = recorded_so c.a_published_record_is_what_was_read.ensures

pub returns-clause-sound : goal.returns-clause-sound
returns-clause-sound c = sound_so c.a_base_stays_sound.ensures.stays
