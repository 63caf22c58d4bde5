-- The cause of each status of a call.
use Rattle.std.specs.Prelude.{◌≡◌, ◌≢◌, ℕ, ◌+◌, ◌<◌, ◌≤◌, ◌⊎◌, Bool, true, false, Option, Some, None, is_some, option_and_then}
use Rattle.std.specs.Prelude.{IfSome, Err, List, [], length}
use Rattle.std.specs.Io.KnownBytes.{IsAtEnd}
use Rattle.cc_names.specs.declared.refusals.SessionError.{SessionError}
use Rattle.cc_names.specs.declared.steps.StoryStep.{StoryStep}
use Rattle.cc_names.specs.Counts.{raised_count, Rose, RoseAbove, RoseAtMost, rises}
use Rattle.cc_outside.specs.GhostStates.{RestsOnceEnded, SinkState, SourceState}
use Rattle.disk_model.specs.DiskStates.{DiskState, IfModeled, Both}
use Rattle.vob_journal.specs.Pieces.{ReadsOnceTo}
use Rattle.story_log.specs.Stored.Damaged.{IsDamaged, IsUndamaged}
use Rattle.story_log.specs.Stored.Stops.{found_on}
use Rattle.legal_history.specs.Stories.States.{all_done}
use Rattle.legal_history.specs.Stories.Steps.{state_of}
use Rattle.session_text.specs.Sessions.{session_of}
use Rattle.session_run.specs.Calls.Asked.{form_of, is_session, reads_source, session_text_of, text_limit}
use Rattle.session_run.specs.Calls.Sites.{sites_status}
use Rattle.session_run.specs.Calls.Statuses.{is_cut}
use Rattle.session_run.specs.Story.Begun.{is_opened}
use Rattle.session_run.specs.Story.Modeled.{tells_failure}
use Rattle.session_run.specs.declared.statuses.Status.{Status}
use Rattle.session_run.specs.declared.statuses.Status.TheVariants as statuses
use Rattle.session_run.specs.declared.words.Form.{Form}
use Rattle.session_run.specs.declared.words.Form.TheVariants as forms

-- a count or a text as the call began and as it ended
pub record Change (A : Type 0) : Type 0 where
  pub before : A
  pub after : A

-- what came in: the form of the words, if they have one, and of the source the bytes that are left, the counts of bytes given, of
-- calls and of faults, and the number of the call at which it ended
pub record Intake : Type 0 where
  pub form : Option Form
  pub text : Change (Option (List ℕ))
  pub given : Change ℕ
  pub calls : Change ℕ
  pub faults : Change ℕ
  pub ended : Change (Option ℕ)

-- what came in with words of this form from a source that was seen so before and after
abbrev pub intake_by : Option Form → SourceState → SourceState → Intake
intake_by form before after = record {
  form = form;
  text = record { before = before.left; after = after.left };
  given = record { before = before.given; after = after.given };
  calls = record { before = before.calls; after = after.calls };
  faults = record { before = before.faults; after = after.faults };
  ended = record { before = before.ended; after = after.ended };
}

-- what came in with these words
abbrev pub intake_of : List (List ℕ) → SourceState → SourceState → Intake
intake_of words before after = intake_by (form_of words) before after

-- the counts of faults of a sink before and after
abbrev pub sink_faults : SinkState → SinkState → Change ℕ
sink_faults before after = record { before = before.faults; after = after.faults }

-- how a disk was seen before and after
abbrev pub disk_ghost_states : DiskState → DiskState → Change DiskState
disk_ghost_states before after = record { before = before; after = after }

-- the source was read to its end, which came within the limit, and did not fail
pub record IsIntakeRead (intake : Intake) : Type 0 where
  pub at_end : IsAtEnd intake.text.after
  pub count : ℕ
  pub within : count ≤ text_limit
  pub given : intake.given.after ≡ raised_count intake.given.before count
  pub bytes : IfSome intake.text.before (λ bytes. length bytes ≡ count)
  pub faultless : intake.faults.after ≡ intake.faults.before

-- the source was not read: no call of it was made
pub record IsUnread (intake : Intake) : Type 0 where
  pub text : intake.text.after ≡ intake.text.before
  pub given : intake.given.after ≡ intake.given.before
  pub calls : intake.calls.after ≡ intake.calls.before
  pub faults : intake.faults.after ≡ intake.faults.before

-- what each form takes of the source: `run` and `sites` read it to its end, the others do not read it
abbrev pub Takes : Form → Intake → Type 0
Takes forms.Run intake = IsIntakeRead intake
Takes (forms.Big seed size) intake = IsUnread intake
Takes forms.Verify intake = IsUnread intake
Takes forms.Sites intake = IsIntakeRead intake

-- the words have a form, and what it takes of the source was taken
pub record IsTaken (intake : Intake) : Type 0 where
  pub form : Form
  pub words : intake.form ≡ Some form
  pub taken : Takes form intake

-- the text of the session that the words ask for, where they have a form and the text is told
abbrev pub session_text : Intake → Option (List ℕ)
session_text intake = option_and_then (λ form. session_text_of form intake.text.before) intake.form

-- the form is one of those that open a base, and the text spells a session, so the base was to be opened
pub record IsAsked (intake : Intake) : Type 0 where
  pub taken : IsTaken intake
  pub base : intake.form ≢ Some forms.Sites
  pub session : IfSome (session_text intake) (λ bytes. is_session bytes ≡ true)

-- the text spells no session: this is its first line that stands wrong, and why
abbrev pub IsFirstWrong : Intake → SessionError → Type 0
IsFirstWrong intake error = IfSome (session_text intake) (λ bytes. session_of bytes ≡ Err error)

-- a whole run: the text spells a session, a base was opened, each command is finished, and this says whether the form tells of a
-- failure
pub record IsWholeRun (intake : Intake) (story : List StoryStep) (failed : Bool) : Type 0 where
  pub asked : IsAsked intake
  pub opened : is_opened story ≡ true
  pub finished : all_done (state_of story) ≡ true
  pub failures : tells_failure asked.taken.form story ≡ failed

-- the words ask for the replies to a text of sites, which the source gave to its end, and this is the status that it comes to
pub record IsReplied (intake : Intake) (status : Status) : Type 0 where
  pub words : intake.form ≡ Some forms.Sites
  pub read : IsIntakeRead intake
  pub comes : IfSome intake.text.before (λ bytes. sites_status bytes ≡ status)

-- the source failed, which is read
pub record SourceFailed (intake : Intake) : Type 0 where
  pub words : reads_source intake.form ≡ true
  pub rose : Rose intake.faults.before intake.faults.after

-- the source gave more bytes than the limit, and did not fail
pub record GaveTooMuch (intake : Intake) : Type 0 where
  pub words : reads_source intake.form ≡ true
  pub rose : RoseAbove text_limit intake.given.before intake.given.after
  pub bytes : IfSome intake.text.before (λ bytes. text_limit < length bytes)
  pub faultless : intake.faults.after ≡ intake.faults.before

-- whether the count of the disk's faults rose in the call
abbrev pub disk_rose : Change DiskState → Bool
disk_rose disk = rises disk.before.faults disk.after.faults

-- no base was opened, and no call was made on the disk
pub record IsUntouched (disk : Change DiskState) (story : List StoryStep) : Type 0 where
  pub disk_is : disk.after ≡ disk.before
  pub story_is : story ≡ []

-- the frame of this number is the first of the disk's journal that spells no formed row, or whose row may not follow those
-- before it
abbrev pub DiskDamaged : Change DiskState → ℕ → Type 0
DiskDamaged disk row = IfModeled disk.before.modeled (λ d. IsDamaged (found_on d) row)

-- no frame of the disk's journal is so
abbrev pub DiskUndamaged : Change DiskState → Type 0
DiskUndamaged disk = IfModeled disk.before.modeled (λ d. IsUndamaged (found_on d))

-- a whole run on a disk that did not fail
abbrev pub RanWhole : Intake → Change DiskState → List StoryStep → Bool → Type 0
RanWhole intake disk story failed = IsWholeRun intake story failed × (disk_rose disk ≡ false) × DiskUndamaged disk

-- the replies to a text of sites, without a call on the disk
abbrev pub HasReplied : Intake → Change DiskState → List StoryStep → Status → Type 0
HasReplied intake disk story status = IsReplied intake status × IsUntouched disk story

-- *The cause of each status*, for words of every form. Those of `sites` open no base: the text of sites alone says whether it is
-- 0, 1 or 3. Memory may run out anywhere, but where no base was opened it hides no fault of the disk. The other causes exclude one
-- another, a failed source and a failed sink aside, so each status but those comes exactly where its cause does, unless the sink
-- fails or memory runs out. Where the disk failed and a base was opened, each command is finished. Where the status names a
-- damaged frame, no piece of the journal was read that begins after it.
abbrev pub HasCause : Status → Intake → Change ℕ → Change DiskState → List StoryStep → Type 0
HasCause statuses.Good intake sink_faults disk story = RanWhole intake disk story false
    ⊎ HasReplied intake disk story statuses.Good
HasCause statuses.SomeFailed intake sink_faults disk story = RanWhole intake disk story true
    ⊎ HasReplied intake disk story statuses.SomeFailed
HasCause statuses.BadWords intake sink_faults disk story = (intake.form ≡ None) × IsUnread intake × IsUntouched disk story
HasCause (statuses.BadSession error) intake sink_faults disk story =
    (IsTaken intake × IsFirstWrong intake error × IsUntouched disk story)
    ⊎ HasReplied intake disk story (statuses.BadSession error)
HasCause (statuses.Damaged row) intake sink_faults disk story = IsAsked intake × DiskDamaged disk row × (disk_rose disk ≡ false)
    × (story ≡ []) × Both (ReadsOnceTo row) disk.before.modeled disk.after.modeled
HasCause statuses.ReadFault intake sink_faults disk story = SourceFailed intake × IsUntouched disk story
HasCause statuses.WriteFault intake sink_faults disk story = Rose sink_faults.before sink_faults.after
HasCause statuses.DiskFault intake sink_faults disk story = IsAsked intake × (disk_rose disk ≡ true)
    × (is_opened story ≡ true → all_done (state_of story) ≡ true)
HasCause statuses.NoMemory intake sink_faults disk story = is_opened story ≡ false → disk.after.faults ≡ disk.before.faults
HasCause statuses.TooLong intake sink_faults disk story = GaveTooMuch intake × IsUntouched disk story

-- the base was to be opened, by a text that is told, and no source failed
pub record IsToOpen (intake : Intake) : Type 0 where
  pub asked : IsAsked intake
  pub text : is_some (session_text intake) ≡ true
  pub faultless : SourceFailed intake → ⊥

-- *The sink*: unless the status says that it failed, its count of faults is as it was.
abbrev pub KeepsSink : Status → Change ℕ → Type 0
KeepsSink status faults = status ≢ statuses.WriteFault → faults.after ≡ faults.before

-- *The sink, once it ended*: where it had not ended before, no call was made on it after the first one that failed.
abbrev pub SinkRests : SinkState → SinkState → Type 0
SinkRests before after = RestsOnceEnded before.ended after.ended after.calls

-- *A damaged journal*, the other way. Where the base was to be opened on a disk that tells a damaged journal, and the count of
-- the disk's faults did not rise, the status says so with the frame's number, unless the sink fails or memory runs out.
pub record FindsDamage (status : Status) (intake : Intake) (disk : Change DiskState) : Type 0 where
  pub damaged : (row : ℕ) → IsToOpen intake → is_some disk.before.modeled ≡ true → DiskDamaged disk row → disk_rose disk ≡ false
      → is_cut status ≡ false → status ≡ statuses.Damaged row

-- *The disk of a call that was not to open a base*, whatever the status: none was opened, and no call was made on the disk.
pub record LeavesAlone (intake : Intake) (disk : Change DiskState) (story : List StoryStep) : Type 0 where
  pub unless_asked : IsAsked intake ⊎ IsUntouched disk story

-- *How far a source is read*, whatever the status: it gave at most one byte more than a text may have; where the words are of no
-- form that reads it, it was not read; and no call of it was made after the one at which it ended.
pub record TakesNoMore (intake : Intake) : Type 0 where
  pub most : RoseAtMost (text_limit + 1) intake.given.before intake.given.after
  pub unread : reads_source intake.form ≡ false → IsUnread intake
  pub rests : RestsOnceEnded intake.ended.before intake.ended.after intake.calls.after
