-- The headline of the product:
--
-- For every session, the printed replies are those of one legal history that holds each command once in its lane's order,
-- and every clearmake reply is that of building from nothing on the versions its view selects at the reference row, where the
-- base that was opened is sound, whatever objects were reused; stopped at any device call, the disk holds a prefix of the
-- history's commits with every acknowledged one.
--
-- So it is for FILE `run`. Two other forms of words say the same of another session: FILE `big` SEED SIZE of the large session,
-- of whose replies it prints the summary, and FILE `verify` of a session without phases, with the line of the base that was
-- opened. `Asked.session_text_of` has the session of each form, and `Modeled` what it prints of a history. FILE `sites` opens no
-- base: it prints the replies to a text of sites, by `Sites`.
--
-- A call of the program is seen as plain values: its words, what the source had left and gave, what the sink holds, what the
-- clock tells, what the disk tells as it was handed in and as it came back, its status, and the story of the base that it
-- opened, which is empty where it opened none. Each record is one promise of the sentence, `IsStopped` in `Stopped` the last
-- of them; `HasCause` adds when each status comes, `IsAccountedFor` in `Accounted` between which two ends, of commits
-- or faults, each failed call on the disk lies, `Objects` which objects a scrub takes and that those that views hold are live,
-- `Reused` which objects builds take in place of runs, `Checked` when `verify` answers that a base is sound. What they say of
-- bytes,
-- moments and stops holds where the source, the sink, the clock and the disk tell them.
use Rattle.std.specs.Prelude.{◌≡◌, ◌≢◌, ◌⊎◌, ℕ, zero, suc, ◌+◌, ◌<◌, ◌≤◌, min, true, false, Option, Some, IfSome, List, [], ◌∷◌}
use Rattle.std.specs.Prelude.{◌++◌, length}
use Rattle.std.specs.Io.KnownBytes.{Appends}
use Rattle.cc_names.specs.declared.rows.Tag.{Tag}
use Rattle.cc_names.specs.declared.steps.StoryStep.{StoryStep}
use Rattle.cc_names.specs.declared.steps.StoryStep.TheVariants as story_steps
use Rattle.cc_names.specs.Counts.{raised_count}
use Rattle.cc_outside.specs.Feeds.{AppendsPrefix}
use Rattle.cc_outside.specs.Moments.{moment_at}
use Rattle.cc_outside.specs.GhostStates.{ClockState}
use Rattle.disk_model.specs.DiskStates.{DiskState}
use Rattle.story_log.specs.Bases.Opening.{IsBaseOn}
use Rattle.story_log.specs.Story.Handed.{Handed}
use Rattle.base_rows.specs.Order.{oldest_first}
use Rattle.base_model.specs.Rows.{Base}
use Rattle.legal_history.specs.Stories.Commanded.{IsOfCommand}
use Rattle.legal_history.specs.Builds.Replied.{reply_of, reply_from_nothing}
use Rattle.legal_history.specs.Builds.Active.{Build}
use Rattle.legal_history.specs.Stories.States.{all_done, build_by}
use Rattle.legal_history.specs.Stories.Steps.{state_of}
use Rattle.legal_history.specs.Stories.Lawful.{Legal, last_moment}
use Rattle.session_run.specs.Calls.Asked.{is_session, phases_spelled}
use Rattle.session_run.specs.Calls.Causes.{Change, Intake, HasCause, session_text}
use Rattle.session_run.specs.Calls.Sites.{text_unopened}
use Rattle.session_run.specs.Calls.Statuses.{is_cut}
use Rattle.session_run.specs.Story.Begun.{first_step, is_opened, is_through, phases_begun, moments_begun, IsPrefixOf}
use Rattle.session_run.specs.Story.FromNothing.{text_from_nothing}
use Rattle.session_run.specs.Story.Rendered.{text_of_story, earlier_text}
use Rattle.session_run.specs.Story.Modeled.{text_modeled}
use Rattle.session_run.specs.declared.statuses.Status.{Status}
use Rattle.session_run.specs.declared.statuses.Status.TheVariants as statuses
use Rattle.session_run.specs.declared.words.Form.{Form}
use Rattle.session_run.specs.declared.words.Form.TheVariants as forms

-- the moments that a clock tells from a reading on, none above the last one of all
abbrev pub clock_moments : List ℕ → ℕ → ℕ → List ℕ
clock_moments modeled reading zero = []
clock_moments modeled reading (suc n) = min (moment_at modeled reading) last_moment
    ∷ clock_moments modeled (raised_count reading 1) n

-- the counts of readings of a clock before and after
abbrev pub clock_readings : ClockState → ClockState → Change ℕ
clock_readings before after = record { before = before.readings; after = after.readings }

-- the clock was read so often
abbrev pub ReadsTimes : ℕ → Change ℕ → Type 0
ReadsTimes count readings = readings.after ≡ raised_count readings.before count

-- a phase of the session that the words ask for did not begin
abbrev pub IsLeftToBegin : List StoryStep → Intake → Type 0
IsLeftToBegin story intake = IfSome (session_text intake)
    (λ bytes. length (phases_begun story) < length (phases_spelled bytes))

-- The clock was read once for each phase that began, and not where no base was opened. Where memory ran out it may have been read
-- once more, after the last of these had ended, for a phase that did not begin.
pub record ReadsClock (status : Status) (story : List StoryStep) (intake : Intake) (readings : Change ℕ) : Type 0 where
  pub once : status ≢ statuses.NoMemory → ReadsTimes (length (phases_begun story)) readings
  pub most : ReadsTimes (length (phases_begun story)) readings
      ⊎ (IsLeftToBegin story intake × (all_done (state_of story) ≡ true)
      × ReadsTimes (length (phases_begun story) + 1) readings)
  pub none : is_opened story ≡ false → ReadsTimes 0 readings

-- *The session*: the phases of the history are the first of the session that the words ask for, and all of them where it was run
-- through; where its text spells none the history is empty. Their moments are the clock's, in order, which is read once a phase.
pub record IsSession (status : Status) (story : List StoryStep) (intake : Intake) (clock : Option (List ℕ))
    (readings : Change ℕ) : Type 0 where
  pub begun : IfSome (session_text intake) (λ bytes. IsPrefixOf (phases_begun story) (phases_spelled bytes))
  pub all : is_through intake.form status story ≡ true → IfSome (session_text intake)
      (λ bytes. phases_begun story ≡ phases_spelled bytes)
  pub none : IfSome (session_text intake) (λ bytes. is_session bytes ≡ false → story ≡ [])
  pub moments : IfSome clock (λ modeled. moments_begun story ≡ clock_moments modeled readings.before
      (length (moments_begun story)))
  pub read : ReadsClock status story intake readings

-- a sink that failed took the transcripts of all phases but the last, and each command of these phases is finished
pub record IsCutAtLast (story : List StoryStep) (earlier : List ℕ) (old new : Option (List ℕ)) : Type 0 where
  pub begun : 0 < length (phases_begun story)
  pub finished : all_done (state_of story) ≡ true
  pub written : (more : List ℕ) × Appends old new (earlier ++ more)

-- where memory ran out the text ends after a whole transcript; that of a form that writes after its session was not begun
abbrev pub EndsAtTranscript : Option Form → List StoryStep → Option (List ℕ) → Option (List ℕ) → Type 0
EndsAtTranscript (Some forms.Run) story old new = Appends old new (text_of_story story) ⊎ Appends old new (earlier_text story)
EndsAtTranscript form story old new = Appends old new []

-- the story begins with the base that the disk stood for as it was handed in, and with the disk's counts then
pub record BeginsOn (disk : DiskState) (story : List StoryStep) : Type 0 where
  pub base : Base
  pub handed : Handed
  pub on : IsBaseOn disk base handed
  pub first : first_step story ≡ Some (story_steps.Opened (oldest_first base) handed.counts handed.tells)

-- *One legal history*: the story is legal, of the base that the disk stood for, so a phase begins where each command of the
-- one before is finished. Each command of the last phase is finished too where the session was run through, and where the
-- sink failed. Of `verify` it has no step but the opening of the base. Where memory ran out, no transcript is cut.
pub record IsOneHistory (form : Option Form) (status : Status) (story : List StoryStep) (disk : DiskState)
    (old new : Option (List ℕ)) : Type 0 where
  pub legal : Legal story
  pub base : is_opened story ≡ true → BeginsOn disk story
  pub complete : is_through form status story ≡ true → all_done (state_of story) ≡ true
  pub cut : form ≡ Some forms.Run → is_opened story ≡ true → status ≡ statuses.WriteFault
      → IsCutAtLast story (earlier_text story) old new
  pub unbroken : is_opened story ≡ true → status ≡ statuses.NoMemory → EndsAtTranscript form story old new
  pub alone : form ≡ Some forms.Verify → length story ≤ 1

-- *Commanded*: each build of the history that ends is the one of its lane's clearmake, whose build from nothing at the reference
-- rows, on the versions that the view selects there, has the same units.
pub record AreOfTheirCommands (story : List StoryStep) : Type 0 where
  pub each : (prefix rest : List StoryStep) (tag : Tag) (build : Build)
      → story ≡ prefix ++ story_steps.End tag ∷ rest
      → build_by (state_of prefix) tag ≡ Some build → IsOfCommand (state_of prefix) tag.lane build

-- *Builds as from nothing*: what the units of each build of the history have come to, where it ends and no disk failed under it,
-- is replied as its build from nothing is. So the text of the history is the one that building from nothing tells.
pub record AreFromNothing (story : List StoryStep) : Type 0 where
  pub text : text_of_story story ≡ text_from_nothing story
  pub each : (prefix rest : List StoryStep) (tag : Tag) (build : Build)
      → story ≡ prefix ++ story_steps.End tag ∷ rest
      → build_by (state_of prefix) tag ≡ Some build → build.faulted ≡ false
      → reply_of (state_of prefix).base build ≡ reply_from_nothing (state_of prefix).base build

-- A front of what is written without a base was written, for a status whose cause had come. Want of memory is none of these, and
-- no call ends well without a base but that of `sites`.
pub record PrintsPrefix (intake : Intake) (faults : Change ℕ) (disk : Change DiskState) (old new : Option (List ℕ)) : Type 0 where
  pub status : Status
  pub cause : HasCause status intake faults disk []
  pub uncut : is_cut status ≡ false
  pub written : IfSome (text_unopened status intake.form intake.text.before) (AppendsPrefix old new)

-- *Printed replies*: what the sink holds more is the text that the form tells of the history, where a base was opened; else it is
-- the status's line, or of `sites` the replies. Where the sink failed it is a prefix of the form's text, or of what is written
-- without a base for the cause that had come. Where memory ran out it is a prefix of the form's text; where no base was opened,
-- nothing.
pub record ArePrinted (status : Status) (story : List StoryStep) (intake : Intake) (faults : Change ℕ) (disk : Change DiskState)
    (old new : Option (List ℕ)) : Type 0 where
  pub whole : (form : Form) → intake.form ≡ Some form → is_opened story ≡ true → is_cut status ≡ false
      → Appends old new (text_modeled form story)
  pub prefix : (form : Form) → intake.form ≡ Some form → is_opened story ≡ true → is_cut status ≡ true
      → AppendsPrefix old new (text_modeled form story)
  pub line : is_opened story ≡ false → is_cut status ≡ false → IfSome (text_unopened status intake.form intake.text.before)
      (Appends old new)
  pub line_prefix : is_opened story ≡ false → status ≡ statuses.WriteFault → PrintsPrefix intake faults disk old new
  pub nothing : is_opened story ≡ false → status ≡ statuses.NoMemory → Appends old new []
