-- That soundness is handed on from one call to the next.
use Rattle.std.specs.Prelude.{◌≡◌, ℕ, ◌<◌, true, Option, Some, List}
use Rattle.cc_names.specs.declared.steps.StoryStep.{StoryStep}
use Rattle.disk_model.specs.Devices.{Device, MayLeave, bytes_now}
use Rattle.disk_model.specs.DiskStates.{DiskState}
use Rattle.session_run.specs.Faults.Stopped.{IsStopped}
use Rattle.session_run.specs.Promises.Headline.{IsOneHistory}
use Rattle.session_run.specs.Promises.Reused.{WasSound}
use Rattle.session_run.specs.Story.Begun.{is_opened}
use Rattle.session_run.specs.declared.statuses.Status.{Status}
use Rattle.session_run.specs.declared.words.Form.{Form}

-- Where a call opened a sound base, so does the next one: the call whose disk reads, as it is handed in, what a stop of the
-- first one left, at any device call of its session or after the last. So the premise under which the builds of a call are as
-- from nothing is that of the call before.
abbrev pub SoundnessIsHandedOn : Type 0
SoundnessIsHandedOn = (before after next : DiskState) (left read : Device) (k : ℕ)
    (story later : List StoryStep) (form : Option Form) (status : Status) (held holds : Option (List ℕ))
    → IsStopped before after story → is_opened story ≡ true
    → after.modeled ≡ Some left → before.ticks < k → MayLeave 0 left k (bytes_now 0 read) → MayLeave 1 left k (bytes_now 1 read)
    → next.modeled ≡ Some read → IsOneHistory form status later next held holds
    → WasSound story → WasSound later
