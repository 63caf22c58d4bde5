-- What a text of sites comes to, as a call tells it.
use Rattle.std.specs.Prelude.{Option, Some, option_map, Result, Ok, Err, List, [], ℕ, if◌then◌else◌}
use Rattle.cc_names.specs.declared.refusals.SessionCause.{SessionCause}
use Rattle.cc_names.specs.declared.refusals.SessionCause.TheVariants as causes
use Rattle.cc_names.specs.declared.refusals.SessionError.{SessionError}
use Rattle.vob_replica.specs.Runs.{run_of}
use Rattle.vob_replica.specs.declared.events.SiteCause.{SiteCause}
use Rattle.vob_replica.specs.declared.events.SiteCause.TheVariants.{BadWord, UnknownCommand}
use Rattle.vob_replica.specs.declared.events.SiteError.{SiteError}
use Rattle.vob_replica.specs.declared.runs.Replies.{Replies}
use Rattle.session_run.specs.Calls.Statuses.{status_line}
use Rattle.session_run.specs.declared.statuses.Status.{Status}
use Rattle.session_run.specs.declared.statuses.Status.TheVariants as statuses
use Rattle.session_run.specs.declared.words.Form.{Form}
use Rattle.session_run.specs.declared.words.Form.TheVariants as forms

-- the cause of a wrong line, among those of sessions
abbrev pub session_cause : SiteCause → SessionCause
session_cause UnknownCommand = causes.UnknownCommand
session_cause BadWord = causes.BadWord

-- a wrong line, as that of a session
abbrev pub session_error : SiteError → SessionError
session_error error = record { line = error.line; cause = session_cause error.cause }

-- the status of what a text of sites comes to
abbrev pub status_of_sites : Result Replies SiteError → Status
status_of_sites (Ok replies) = if replies.refused then statuses.SomeFailed else statuses.Good
status_of_sites (Err error) = statuses.BadSession (session_error error)

-- the text that is written of it
abbrev pub text_of_sites : Result Replies SiteError → List ℕ
text_of_sites (Ok replies) = replies.text
text_of_sites (Err error) = status_line (statuses.BadSession (session_error error))

-- The status of a text of sites: whether each line of it was answered, one was refused, or one says nothing.
abbrev pub sites_status : List ℕ → Status
sites_status text = status_of_sites (run_of text)

-- The text of its replies, or the line that says which of its lines is the first that says nothing.
abbrev pub sites_text : List ℕ → List ℕ
sites_text text = text_of_sites (run_of text)

-- what words of a form are replied without a base: those of `sites` the replies to what the source had left, where contracts know
-- it
abbrev pub replied_text : Option Form → Option (List ℕ) → Option (List ℕ)
replied_text (Some forms.Sites) left = option_map sites_text left
replied_text form left = Some []

-- *The text that is written where no base is opened*, where contracts know it: the line of the status, or the replies.
abbrev pub text_unopened : Status → Option Form → Option (List ℕ) → Option (List ℕ)
text_unopened statuses.Good form left = replied_text form left
text_unopened statuses.SomeFailed form left = replied_text form left
text_unopened status form left = Some (status_line status)
