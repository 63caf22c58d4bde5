-- How a call ends: its status, the status's number, and the line that it writes where no base was opened.
use Rattle.std.specs.Prelude.{ℕ, Bool, true, false, List, [], ◌∷◌, ◌++◌, codes}
use Rattle.std.specs.Fmt.{decimal}
use Rattle.cc_names.specs.declared.refusals.SessionCause.{SessionCause}
use Rattle.cc_names.specs.declared.refusals.SessionCause.TheVariants as causes
use Rattle.cc_names.specs.declared.refusals.SessionError.{SessionError}
use Rattle.session_run.specs.declared.statuses.Status.{Status}
use Rattle.session_run.specs.declared.statuses.Status.TheVariants as statuses

-- the number of a status, with which the program ends
abbrev pub number_of : Status → ℕ
number_of statuses.Good = 0
number_of statuses.SomeFailed = 1
number_of statuses.BadWords = 2
number_of (statuses.BadSession error) = 3
number_of (statuses.Damaged row) = 4
number_of statuses.ReadFault = 5
number_of statuses.WriteFault = 6
number_of statuses.DiskFault = 7
number_of statuses.NoMemory = 8
number_of statuses.TooLong = 9

-- whether the text may be cut short: the sink failed, or memory ran out
abbrev pub is_cut : Status → Bool
is_cut statuses.WriteFault = true
is_cut statuses.NoMemory = true
is_cut status = false

-- the word of a cause
abbrev pub cause_word : SessionCause → List ℕ
cause_word causes.NoPhase = codes "NoPhase"
cause_word causes.NoLane = codes "NoLane"
cause_word causes.NoBody = codes "NoBody"
cause_word causes.TwoLanes = codes "TwoLanes"
cause_word causes.TooManyLanes = codes "TooManyLanes"
cause_word causes.UnknownCommand = codes "UnknownCommand"
cause_word causes.BadWord = codes "BadWord"

-- the number and the cause of a session's wrong line
abbrev pub error_words : SessionError → List ℕ
error_words error = decimal error.line ++ 32 ∷ cause_word error.cause

-- the line of a status
abbrev pub status_line : Status → List ℕ
status_line statuses.BadWords = codes "bad words\n"
status_line (statuses.BadSession error) = codes "bad session " ++ error_words error ++ 10 ∷ []
status_line (statuses.Damaged row) = codes "damaged " ++ decimal row ++ 10 ∷ []
status_line statuses.DiskFault = codes "disk fault\n"
status_line statuses.ReadFault = codes "read fault\n"
status_line statuses.TooLong = codes "too long\n"
status_line status = []
