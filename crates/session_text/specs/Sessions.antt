-- What a session is, and why a text is none.
use Rattle.std.specs.Prelude.{ℕ, ◌+◌, Bool, true, false, not, nat_le, Option, Some, None, Result, Ok, Err, List, [], ◌∷◌, ◌++◌}
use Rattle.std.specs.Prelude.{length, if◌then◌else◌}
use Rattle.std.specs.List.{list_any}
use Rattle.std.specs.Str.{bytes_eq}
use Rattle.cc_names.specs.declared.commands.Command.{Command}
use Rattle.cc_names.specs.declared.commands.Lane.{Lane}
use Rattle.cc_names.specs.declared.commands.Phase.{Phase}
use Rattle.cc_names.specs.declared.commands.Session.{Session}
use Rattle.cc_names.specs.declared.refusals.SessionCause.{SessionCause}
use Rattle.cc_names.specs.declared.refusals.SessionCause.TheVariants as causes
use Rattle.cc_names.specs.declared.refusals.SessionError.{SessionError}
use Rattle.session_text.specs.declared.kinds.Kind.{Kind}
use Rattle.session_text.specs.declared.kinds.Kind.TheVariants as kinds
use Rattle.session_text.specs.Kinds.{kinds_of}
use Rattle.session_text.specs.Commands.{command_of, takes_body}
use Rattle.session_text.specs.Shapes.{view}
use Rattle.session_text.specs.Words.{Said}

-- the text of the body lines that stand first in these lines, each ended by a newline
abbrev pub body_of : List Kind → List ℕ
body_of (kinds.Skipped ∷ lines) = body_of lines
body_of (kinds.Body bytes ∷ lines) = bytes ++ 10 ∷ body_of lines
body_of _ = []

-- a command before commands, where a line says one
abbrev pub before_commands : Said Command → List Command → List Command
before_commands (Ok command) commands = command ∷ commands
before_commands (Err cause) commands = commands

-- the commands that stand in these lines, up to the next lane or phase
abbrev pub commands_of : List Kind → List Command
commands_of [] = []
commands_of (kinds.Skipped ∷ lines) = commands_of lines
commands_of (kinds.Body bytes ∷ lines) = commands_of lines
commands_of (kinds.Phase words ∷ lines) = []
commands_of (kinds.Lane words ∷ lines) = []
commands_of (kinds.Command word words ∷ lines) =
    before_commands (command_of word words (body_of lines)) (commands_of lines)

-- a lane of these commands before lanes, where a line names one
abbrev pub before_lanes : Said (List ℕ) → List Command → List Lane → List Lane
before_lanes (Ok name) commands lanes = record { name = name; commands = commands } ∷ lanes
before_lanes (Err cause) commands lanes = lanes

-- the lanes that stand in these lines, up to the next phase
abbrev pub lanes_of : List Kind → List Lane
lanes_of [] = []
lanes_of (kinds.Skipped ∷ lines) = lanes_of lines
lanes_of (kinds.Body bytes ∷ lines) = lanes_of lines
lanes_of (kinds.Phase words ∷ lines) = []
lanes_of (kinds.Lane words ∷ lines) = before_lanes (view words) (commands_of lines) (lanes_of lines)
lanes_of (kinds.Command word words ∷ lines) = lanes_of lines

-- the phases that stand in these lines
abbrev pub phases_of : List Kind → List Phase
phases_of [] = []
phases_of (kinds.Skipped ∷ lines) = phases_of lines
phases_of (kinds.Body bytes ∷ lines) = phases_of lines
phases_of (kinds.Phase words ∷ lines) = record { lanes = lanes_of lines } ∷ phases_of lines
phases_of (kinds.Lane words ∷ lines) = phases_of lines
phases_of (kinds.Command word words ∷ lines) = phases_of lines

-- What stands above a line: whether a phase has begun, the names of its lanes so far, and whether the last line that is
-- not skipped, body lines aside, takes a body.
pub record Above : Type 0 where
  pub in_phase : Bool
  pub lanes : List (List ℕ)
  pub takes_body : Bool

-- above the first line
abbrev pub nothing : Above
nothing = record { in_phase = false; lanes = []; takes_body = false }

-- whether there are none
abbrev pub is_empty : {A : Type 0} → List A → Bool
is_empty [] = true
is_empty (x ∷ xs) = false

-- one cause where the test holds, and else another, where there is one
abbrev pub cause_where_or : Bool → SessionCause → Option SessionCause → Option SessionCause
cause_where_or true cause later = Some cause
cause_where_or false cause later = later

-- the cause for which words say nothing
abbrev pub cause_in : {X : Type 0} → Said X → Option SessionCause
cause_in (Ok x) = None
cause_in (Err cause) = Some cause

-- whether the lane that these words name stands already
abbrev pub is_taken : List (List ℕ) → List (List ℕ) → Bool
is_taken lanes [] = false
is_taken lanes (name ∷ words) = list_any (bytes_eq name) lanes

-- the name that a line `lane NAME` gives, below lanes of these names; a phase has at most 64 lanes
abbrev pub lane_of : List (List ℕ) → List (List ℕ) → Said (List ℕ)
lane_of lanes words =
    if is_taken lanes words then Err causes.TwoLanes
    else if nat_le 64 (length lanes) then Err causes.TooManyLanes
    else view words

-- Why a line stands wrong, where the body lines below it have this text.
abbrev pub cause_of : Above → Kind → List ℕ → Option SessionCause
cause_of above kinds.Skipped text = None
cause_of above (kinds.Body bytes) text =
    cause_where_or (not above.in_phase) causes.NoPhase
    (cause_where_or (is_empty above.lanes) causes.NoLane
    (cause_where_or (not above.takes_body) causes.NoBody None))
cause_of above (kinds.Phase words) text = cause_where_or (not (is_empty words)) causes.BadWord None
cause_of above (kinds.Lane words) text =
    cause_where_or (not above.in_phase) causes.NoPhase (cause_in (lane_of above.lanes words))
cause_of above (kinds.Command word words) text =
    cause_where_or (not above.in_phase) causes.NoPhase
    (cause_where_or (is_empty above.lanes) causes.NoLane (cause_in (command_of word words text)))

-- the lanes with one more, where a line names one
abbrev pub with_lane : List (List ℕ) → Said (List ℕ) → List (List ℕ)
with_lane lanes (Ok name) = lanes ++ name ∷ []
with_lane lanes (Err cause) = lanes

-- whether body lines may stand under the command that a line says
abbrev pub body_follows : Said Command → Bool
body_follows (Ok command) = takes_body command
body_follows (Err cause) = false

-- what stands above the line after a line, where the body lines below it have this text
abbrev pub above_next : Above → Kind → List ℕ → Above
above_next above kinds.Skipped text = above
above_next above (kinds.Body bytes) text = above
above_next above (kinds.Phase words) text = record { in_phase = true; lanes = []; takes_body = false }
above_next above (kinds.Lane words) text =
    record above { lanes = with_lane above.lanes (view words); takes_body = false }
above_next above (kinds.Command word words) text =
    record above { takes_body = body_follows (command_of word words text) }

-- the error of the line with this number where it has a cause, else what follows
abbrev pub error_or : ℕ → Option SessionCause → Option SessionError → Option SessionError
error_or number (Some cause) later = Some (record { line = number; cause = cause })
error_or number None later = later

-- The first line that stands wrong, of lines above which so many others stand.
abbrev pub first_error : ℕ → Above → List Kind → Option SessionError
first_error before above [] = None
first_error before above (line ∷ lines) =
    error_or (before + 1) (cause_of above line (body_of lines))
    (first_error (before + 1) (above_next above line (body_of lines)) lines)

-- What is wrong with the lines of a text: the first line that stands wrong.
abbrev pub error_in : List Kind → Option SessionError
error_in lines = first_error 0 nothing lines

-- what was read, unless something is wrong
abbrev pub unless_wrong_line : Option SessionError → Session → Result Session SessionError
unless_wrong_line None session = Ok session
unless_wrong_line (Some error) session = Err error

-- A text read as a session: each line `phase` with the lanes behind it, each line `lane` with the commands behind it,
-- each command with the body lines after it; or the line that is wrong, counted from 1, with its cause.
abbrev pub session_of : List ℕ → Result Session SessionError
session_of text = unless_wrong_line (error_in (kinds_of text)) (record { phases = phases_of (kinds_of text) })
