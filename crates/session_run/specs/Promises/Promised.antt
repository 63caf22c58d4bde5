-- What is promised of one call, beside the laws of every legal history.
use Rattle.std.specs.Prelude.{◌≡◌, ℕ, true, List}
use Rattle.cc_names.specs.declared.steps.StoryStep.{StoryStep}
use Rattle.disk_model.specs.DiskStates.{DiskState}
use Rattle.session_run.specs.Calls.Causes.{Change, HasCause, Intake, KeepsSink}
use Rattle.session_run.specs.Faults.Accounted.{IsAccountedFor, KeepsFiles}
use Rattle.session_run.specs.Faults.Stopped.{IsStopped}
use Rattle.session_run.specs.Promises.Checked.{TellsSoundness}
use Rattle.session_run.specs.Promises.Headline.{ArePrinted, IsOneHistory, IsSession}
use Rattle.session_run.specs.Running.Runs.{Outside}
use Rattle.session_run.specs.Story.Begun.{is_opened}
use Rattle.session_run.specs.declared.statuses.Status.{Status}

-- the counts of readings of the clock before and after
abbrev pub readings_of : Outside → Change ℕ
readings_of outside = record { before = outside.first; after = outside.reading }

-- the promises of one call
pub record Promised (status : Status) (story : List StoryStep) (intake : Intake) (outside : Outside) (faults : Change ℕ)
    (disk : Change DiskState) : Type 0 where
  pub session : IsSession status story intake outside.moments (readings_of outside)
  pub history : IsOneHistory intake.form status story disk.before outside.held outside.holds
  pub printed : ArePrinted status story intake faults disk outside.held outside.holds
  pub stopped : IsStopped disk.before disk.after story
  pub cause : HasCause status intake faults disk story
  pub sink : KeepsSink status faults
  pub checked : TellsSoundness intake.form status story
  pub accounted : is_opened story ≡ true → IsAccountedFor disk story
  pub files : KeepsFiles disk story
