-- What became of a form that was to be carried out: its base was opened and its session was run, or no base was opened.
use Rattle.std.specs.Prelude.{◌≡◌, ℕ, Bool, ◌⊎◌, Option, Result, List, []}
use Rattle.cc_names.specs.declared.commands.Phase.{Phase}
use Rattle.cc_names.specs.declared.memory.Or.{Or}
use Rattle.cc_names.specs.declared.steps.StoryStep.{StoryStep}
use Rattle.cc_names.specs.Counts.{rises}
use Rattle.cc_outside.specs.declared.sinks.WriteFault.{WriteFault}
use Rattle.disk_model.specs.DiskStates.{DiskState, Both, IfModeled, IsCounted}
use Rattle.vob_journal.specs.Pieces.{ReadsOnce}
use Rattle.vob_journal.specs.Reads.{SameFiles}
use Rattle.legal_history.specs.Stories.Steps.{state_of}
use Rattle.legal_history.specs.Stories.Lawful.{Legal}
use Rattle.story_log.specs.Stopping.Backed.{IsAccounted}
use Rattle.story_log.specs.Bases.Opening.{FailsToOpen}
use Rattle.story_log.specs.Bases.Reading.{ReadsOnceBy}
use Rattle.story_log.specs.Stopping.Tails.{IsFoundTail}
use Rattle.story_log.specs.declared.opening.OpenCause.{OpenCause}
use Rattle.base_core.specs.Story.Counted.{TailedDisk}
use Rattle.session_run.specs.Calls.Causes.{Change, disk_rose}
use Rattle.session_run.specs.Faults.Accounted.{CountsFrom}
use Rattle.session_run.specs.Faults.Stopped.{AllOpenAgain, IsMended}
use Rattle.session_run.specs.Promises.Headline.{BeginsOn}
use Rattle.session_run.specs.Running.Forms.{HasRunSo}
use Rattle.session_run.specs.Running.Runs.{CountsWriteFaults, Outside, run_status}
use Rattle.session_run.specs.Running.Unstarted.{WritesUnstarted, of_unopened}
use Rattle.session_run.specs.Story.Begun.{first_step}
use Rattle.session_run.specs.declared.statuses.Status.{Status}
use Rattle.session_run.specs.declared.words.Form.{Form}

-- What the form asks for was carried out on a base that was opened, or given up, and the disk was handed back: it is seen as the
-- base was opened, with the journal's tail, and as it came back. The story has this first step, and the disk had this count of
-- faults as the call began.
pub record RunsOpened (form : Form) (phases : List Phase) (status : Status) (first : Option StoryStep) (story : List StoryStep)
    (before : ℕ) (opened : TailedDisk) (closed : DiskState) (outside : Outside) (faults : Change ℕ) : Type 0 where
  pub result : Result Bool (Or WriteFault)
  pub status_is : status ≡ run_status result (rises before closed.faults)
  pub first_is : first_step story ≡ first
  pub legal : Legal story
  pub ran : HasRunSo form result phases story outside
  pub fault : CountsWriteFaults result faults.before faults.after
  pub accounted : IsAccounted (state_of story) closed
  pub mended : IsMended (state_of story) closed
  pub again : AllOpenAgain story
  pub counted : CountsFrom opened closed story

-- the base that the disk stood for was opened, by calls of which none failed, its journal was read once, and its tail is as it was
-- found
pub record RunsOn (form : Form) (phases : List Phase) (status : Status) (story : List StoryStep) (outside : Outside)
    (faults : Change ℕ) (disk : Change DiskState) : Type 0 where
  pub begins : BeginsOn disk.before story
  pub first : Option StoryStep
  pub opened : TailedDisk
  pub tail : IfModeled opened.disk.modeled (IsFoundTail opened.tail)
  pub faultless : opened.disk.faults ≡ disk.before.faults
  pub fit : IsCounted opened.disk
  pub once : Both ReadsOnce disk.before.modeled opened.disk.modeled
  pub files : Both SameFiles disk.before.modeled opened.disk.modeled
  pub runs : RunsOpened form phases status first story disk.before.faults opened disk.after outside faults

-- no base was opened, the line of the cause was written, and the clock was not read
pub record StaysClosed (status : Status) (story : List StoryStep) (outside : Outside) (faults : Change ℕ)
    (disk : Change DiskState) : Type 0 where
  pub because : OpenCause
  pub fails : FailsToOpen disk.before because disk.after
  pub once : Both (ReadsOnceBy because) disk.before.modeled disk.after.modeled
  pub empty : story ≡ []
  pub unread : outside.reading ≡ outside.first
  pub wrote : WritesUnstarted (of_unopened because (disk_rose disk)) status outside.held outside.holds faults

-- A form was carried out: its base was opened and its session run, or the base could not be opened.
abbrev pub RunsSession : Form → List Phase → Status → List StoryStep → Outside → Change ℕ → Change DiskState → Type 0
RunsSession form phases status story outside faults disk = RunsOn form phases status story outside faults disk
    ⊎ StaysClosed status story outside faults disk
