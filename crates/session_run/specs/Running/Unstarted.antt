-- Why a session is not started, and what is written then.
use Rattle.std.specs.Prelude.{◌≡◌, ◌≢◌, ◌≤◌, ℕ, Bool, true, false, IfSome, Option, Some, None, Result, Err, List, [], length}
use Rattle.std.specs.Io.KnownBytes.{Appends}
use Rattle.cc_names.specs.declared.commands.Phase.{Phase}
use Rattle.cc_names.specs.declared.memory.Or.{Or}
use Rattle.cc_names.specs.declared.memory.Or.TheVariants as ors
use Rattle.cc_names.specs.declared.refusals.SessionError.{SessionError}
use Rattle.cc_names.specs.Counts.{Rose}
use Rattle.cc_outside.specs.Feeds.{AppendsPrefix}
use Rattle.cc_outside.specs.declared.sources.Unread.{Unread}
use Rattle.cc_outside.specs.declared.sources.Unread.TheVariants.{Fault}
use Rattle.cc_outside.specs.declared.sources.Unread.TheVariants as unreads
use Rattle.story_log.specs.declared.opening.OpenCause.{OpenCause}
use Rattle.story_log.specs.declared.opening.OpenCause.TheVariants as opens
use Rattle.session_run.specs.Calls.Asked.{is_session, phases_spelled, size_limit, text_limit, text_of}
use Rattle.session_run.specs.Calls.Causes.{Change, Intake, IsFirstWrong, IsIntakeRead, IsTaken, IsUnread, SourceFailed}
use Rattle.session_run.specs.Calls.Causes.{GaveTooMuch, KeepsSink, Takes, session_text}
use Rattle.vob_replica.specs.Runs.{run_of}
use Rattle.vob_replica.specs.declared.events.SiteError.{SiteError}
use Rattle.vob_replica.specs.declared.runs.Replies.{Replies}
use Rattle.session_run.specs.Calls.Sites.{status_of_sites, text_of_sites}
use Rattle.session_run.specs.Calls.Statuses.{is_cut, status_line}
use Rattle.session_text.specs.Sessions.{session_of}
use Rattle.session_run.specs.Running.Runs.{IsRunnable}
use Rattle.session_run.specs.declared.sessions.GivenSession.{GivenSession}
use Rattle.session_run.specs.declared.sessions.Unstarted.{Unstarted}
use Rattle.session_run.specs.declared.sessions.Unstarted.TheVariants as why
use Rattle.session_run.specs.declared.sessions.WithoutBase.{WithoutBase}
use Rattle.session_run.specs.declared.sessions.WithoutBase.TheVariants as without
use Rattle.session_run.specs.declared.statuses.Status.{Status}
use Rattle.session_run.specs.declared.statuses.Status.TheVariants as statuses
use Rattle.session_run.specs.declared.words.Form.{Form}
use Rattle.session_run.specs.declared.words.Form.TheVariants as forms

-- words can say the form: the size of a large session is within its limit
abbrev pub IsSaid : Form → Type 0
IsSaid (forms.Big seed size) = size ≤ size_limit
IsSaid form = Unit {0}

-- the text that a form carries out, and that what the form takes of the source was taken
pub record GivesText (form : Form) (intake : Intake) (text : List ℕ) : Type 0 where
  pub taken : Takes form intake
  pub is : IfSome (text_of form intake.text.before) (λ bytes. bytes ≡ text)
  pub short : length text ≤ text_limit

-- the phases of a text that is a session; they can be run
pub record HasPhases (text : List ℕ) (phases : List Phase) : Type 0 where
  pub session : is_session text ≡ true
  pub spelled : phases_spelled text ≡ phases
  pub runnable : IsRunnable phases

-- why a text gives no phases: its first line that stands wrong, or want of memory
abbrev pub IsUnsaid : List ℕ → Unstarted → Type 0
IsUnsaid text (why.BadSession error) = session_of text ≡ Err error
IsUnsaid text (why.Unopened opens.NoMemory) = Unit {0}
IsUnsaid text unstarted = ⊥

-- the words have a form, whose session has these phases, and they can be run
pub record GivesPhases (intake : Intake) (form : Form) (phases : List Phase) : Type 0 where
  pub words : intake.form ≡ Some form
  pub taken : Takes form intake
  pub spelled : IfSome (session_text intake) (λ bytes. phases_spelled bytes ≡ phases)
  pub session : IfSome (session_text intake) (λ bytes. is_session bytes ≡ true)
  pub runnable : IsRunnable phases
  pub none : form ≡ forms.Verify → phases ≡ []
  pub base : form ≢ forms.Sites

-- the words ask for the replies to a text of sites, which the source gave
pub record GivesSites (intake : Intake) (text : List ℕ) : Type 0 where
  pub words : intake.form ≡ Some forms.Sites
  pub read : IsIntakeRead intake
  pub is : IfSome intake.text.before (λ bytes. bytes ≡ text)
  pub short : length text ≤ text_limit

-- a form with a text that is a session of these phases, which it runs
pub record IsGivenBy (form : Form) (text : List ℕ) (given : GivenSession) : Type 0 where
  pub form_is : given.form ≡ form
  pub base : form ≢ forms.Sites
  pub has : HasPhases text given.phases.items

-- why a form with a text runs no session: the text is none, or it is one of sites
abbrev pub IsNotGivenBy : Form → List ℕ → WithoutBase → Type 0
IsNotGivenBy form text (without.Line unstarted) = (form ≢ forms.Sites) × IsUnsaid text unstarted
IsNotGivenBy form text (without.Replies replied) = (form ≡ forms.Sites) × (replied ≡ text)

-- where the source was not read
abbrev pub of_unread : Or Unread → Unstarted
of_unread ors.NoMemory = why.Unopened opens.NoMemory
of_unread (ors.Is Fault) = why.ReadFault
of_unread (ors.Is unreads.TooLong) = why.TooLong

-- where its text is no session
abbrev pub of_unsaid : Or SessionError → Unstarted
of_unsaid ors.NoMemory = why.Unopened opens.NoMemory
of_unsaid (ors.Is error) = why.BadSession error

-- what is so where a session is not started for this, before the disk is opened
abbrev pub IsUnstarted : Unstarted → Intake → Type 0
IsUnstarted why.BadWords intake = (intake.form ≡ None) × IsUnread intake
IsUnstarted why.ReadFault intake = SourceFailed intake
IsUnstarted why.TooLong intake = GaveTooMuch intake
IsUnstarted (why.Unopened (opens.Damaged row)) intake = ⊥
IsUnstarted (why.Unopened opens.DiskFault) intake = ⊥
IsUnstarted (why.BadSession error) intake = IsTaken intake × IsFirstWrong intake error
IsUnstarted (why.Unopened opens.NoMemory) intake = Unit {0}

-- what is so where a call opens no base: why no session is started, or the text of sites that its words ask for
abbrev pub IsWithoutBase : WithoutBase → Intake → Type 0
IsWithoutBase (without.Line unstarted) intake = IsUnstarted unstarted intake
IsWithoutBase (without.Replies text) intake = GivesSites intake text

-- where the base could not be opened: where the disk's faults rose, the disk failed
abbrev pub of_unopened : OpenCause → Bool → Unstarted
of_unopened opens.NoMemory rose = why.Unopened opens.NoMemory
of_unopened (opens.Damaged row) true = why.Unopened opens.DiskFault
of_unopened (opens.Damaged row) false = why.Unopened (opens.Damaged row)
of_unopened opens.DiskFault rose = why.Unopened opens.DiskFault

-- the status that tells it
abbrev pub unstarted_status : Unstarted → Status
unstarted_status why.BadWords = statuses.BadWords
unstarted_status why.ReadFault = statuses.ReadFault
unstarted_status why.TooLong = statuses.TooLong
unstarted_status (why.BadSession error) = statuses.BadSession error
unstarted_status (why.Unopened (opens.Damaged row)) = statuses.Damaged row
unstarted_status (why.Unopened opens.DiskFault) = statuses.DiskFault
unstarted_status (why.Unopened opens.NoMemory) = statuses.NoMemory

-- the line that says it
abbrev pub unstarted_line : Unstarted → List ℕ
unstarted_line unstarted = status_line (unstarted_status unstarted)

-- that line was written, unless the sink failed, which then took a prefix of it; want of memory has no line
pub record WritesUnstarted (unstarted : Unstarted) (status : Status) (old new : Option (List ℕ)) (faults : Change ℕ) : Type 0
  where
    pub whole : is_cut status ≡ false → Appends old new (unstarted_line unstarted)
    pub answer : is_cut status ≡ false → status ≡ unstarted_status unstarted
    pub prefix : status ≡ statuses.WriteFault → AppendsPrefix old new (unstarted_line unstarted)
    pub nothing : status ≡ statuses.NoMemory → Appends old new []
    pub memory : status ≡ statuses.NoMemory → unstarted ≡ why.Unopened opens.NoMemory
    pub fault : status ≡ statuses.WriteFault → Rose faults.before faults.after
    pub kept : KeepsSink status faults
    pub line : status ≡ statuses.WriteFault → is_cut (unstarted_status unstarted) ≡ false

-- The replies to a text of sites were written, or the line that says which of its lines says nothing, unless the sink failed,
-- which then took a prefix of that, or memory ran out before.
pub record WritesResult (run : Result Replies SiteError) (status : Status) (old new : Option (List ℕ)) (faults : Change ℕ) : Type
    0 where
  pub answer : is_cut status ≡ false → status ≡ status_of_sites run
  pub whole : is_cut status ≡ false → Appends old new (text_of_sites run)
  pub prefix : status ≡ statuses.WriteFault → AppendsPrefix old new (text_of_sites run)
  pub nothing : status ≡ statuses.NoMemory → Appends old new []
  pub fault : status ≡ statuses.WriteFault → Rose faults.before faults.after
  pub kept : KeepsSink status faults

-- so it was with what a text comes to
abbrev pub WritesReplies : List ℕ → Status → Option (List ℕ) → Option (List ℕ) → Change ℕ → Type 0
WritesReplies text = WritesResult (run_of text)

-- the text of sites that is replied to is within the limit
abbrev pub IsShort : WithoutBase → Type 0
IsShort (without.Line unstarted) = Unit {0}
IsShort (without.Replies text) = length text ≤ text_limit

-- what a call writes that opens no base
abbrev pub WritesWithoutBase : WithoutBase → Status → Option (List ℕ) → Option (List ℕ) → Change ℕ → Type 0
WritesWithoutBase (without.Line unstarted) status old new faults = WritesUnstarted unstarted status old new faults
WritesWithoutBase (without.Replies text) status old new faults = WritesReplies text status old new faults
