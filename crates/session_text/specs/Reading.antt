-- How far lines were read, what stands above them, and what stands wrong.
use Rattle.std.specs.Prelude.{◌≡◌, ℕ, Bool, true, false, ◌+◌, ◌-◌, ◌<◌, ◌≤◌, Option, Some, None, Result, Ok, Err, List, [], ◌∷◌}
use Rattle.std.specs.Prelude.{drop, length, IsOk}
use Rattle.cc_names.specs.declared.memory.Or.{Or}
use Rattle.cc_names.specs.declared.memory.Or.TheVariants.{NoMemory, Is}
use Rattle.cc_names.specs.declared.refusals.SessionCause.{SessionCause}
use Rattle.cc_names.specs.declared.refusals.SessionError.{SessionError}
use Rattle.session_text.specs.declared.kinds.Kind.{Kind}
use Rattle.session_text.specs.declared.kinds.Kind.TheVariants as kinds
use Rattle.session_text.specs.Commands.{command_of}
use Rattle.session_text.specs.Kinds.{Rest, kinds_of}
use Rattle.session_text.specs.Sessions.{Above, above_next, cause_of, first_error, body_of, commands_of, lanes_of, phases_of}
use Rattle.session_text.specs.Shapes.{view}

-- bytes with which a text ends
pub record IsTextEnd (bytes text : List ℕ) : Type 0 where
  pub within : length bytes ≤ length text
  pub same : bytes ≡ drop (length text - length bytes) text

-- the next line, and what is left after it
pub record IsNextLine (old : Rest) (kind : Kind) (new : Rest) : Type 0 where
  pub kinds : kinds_of old.bytes ≡ kind ∷ kinds_of new.bytes
  pub number : new.number ≡ old.number + 1
  pub fewer : length new.bytes < length old.bytes
  pub end : IsTextEnd new.bytes old.bytes

-- no line is left
pub record HasNoLine (old new : Rest) : Type 0 where
  pub none : kinds_of old.bytes ≡ []
  pub same : new ≡ old

-- a fault with the number of its line
abbrev pub fault_of_line : ℕ → Or SessionCause → Or SessionError
fault_of_line number NoMemory = NoMemory
fault_of_line number (Is cause) = Is (record { line = number; cause = cause })

-- unless memory ran out, this is what stood wrong
abbrev pub IsWrong : Or SessionError → Option SessionError → Type 0
IsWrong NoMemory found = Unit {0}
IsWrong (Is error) found = found ≡ Some error

-- unless memory ran out, a line was added where it stands right, and else its cause was answered
abbrev pub StandsRight : {A : Type 0} → Result A (Or SessionCause) → Above → Kind → List ℕ → Above → Type 0
StandsRight (Ok done) old kind text new = (cause_of old kind text ≡ None) × (new ≡ above_next old kind text)
StandsRight (Err NoMemory) old kind text new = Unit {0}
StandsRight (Err (Is cause)) old kind text new = cause_of old kind text ≡ Some cause

-- lines that stand right, below whatever stands above them
pub record IsRight (lines : List Kind) : Type 0 where
  pub number : ℕ
  pub above : Above
  pub right : first_error number above lines ≡ None

-- a place in a text
pub record Place : Type 0 where
  pub text : List ℕ
  pub from : ℕ

-- the lines from a place on
abbrev pub lines_at : Place → List Kind
lines_at place = kinds_of (drop place.from place.text)

-- a line of this kind was found after others: where the lines stand right, so do those from it on
pub record FindsKind (old : Rest) (kind : Kind) (new : Rest) : Type 0 where
  pub end : IsTextEnd new.bytes old.bytes
  pub right : IsRight (kinds_of old.bytes) → IsRight (kind ∷ kinds_of new.bytes)

-- lines were passed that what is asked of them does not count
pub record PassesLines {X : Type 0} (of : List Kind → X) (old rest : Rest) : Type 0 where
  pub end : IsTextEnd rest.bytes old.bytes
  pub right : IsRight (kinds_of old.bytes) → IsRight (kinds_of rest.bytes)
  pub same : of (kinds_of old.bytes) ≡ of (kinds_of rest.bytes)

-- the next phase was found, whose line says these words after `phase`
pub record FindsPhase (old : Rest) (words : List (List ℕ)) (new : Rest) : Type 0 where
  pub found : FindsKind old (kinds.Phase words) new
  pub same : phases_of (kinds_of old.bytes) ≡ phases_of (kinds.Phase words ∷ kinds_of new.bytes)

-- the next lane was found, whose line says these words after `lane`
pub record FindsLane (old : Rest) (words : List (List ℕ)) (new : Rest) : Type 0 where
  pub found : FindsKind old (kinds.Lane words) new
  pub same : lanes_of (kinds_of old.bytes) ≡ lanes_of (kinds.Lane words ∷ kinds_of new.bytes)

-- the next command was found, whose line says this word and these words after it
pub record FindsCommand (old : Rest) (word : List ℕ) (words : List (List ℕ)) (new : Rest) : Type 0 where
  pub found : FindsKind old (kinds.Command word words) new
  pub same : commands_of (kinds_of old.bytes) ≡ commands_of (kinds.Command word words ∷ kinds_of new.bytes)

-- the first command was passed: where the lines stand right, so do those after it, and the other commands stand there
pub record IsPastCommand (old new : Rest) : Type 0 where
  pub end : IsTextEnd new.bytes old.bytes
  pub right : IsRight (kinds_of old.bytes) → IsRight (kinds_of new.bytes)
  pub others : IsRight (kinds_of old.bytes) → commands_of (kinds_of new.bytes) ≡ drop 1 (commands_of (kinds_of old.bytes))

-- the first command was passed, or there is none
abbrev pub PassesCommand : Bool → Rest → Rest → Type 0
PassesCommand true old new = IsPastCommand old new
PassesCommand false old new = commands_of (kinds_of old.bytes) ≡ []

-- words that name a lane
abbrev pub LaneNames : List (List ℕ) → Type 0
LaneNames words = IsOk (view words)

-- a word and the words after it say a command, with the lines after them
abbrev pub Says : List ℕ → List (List ℕ) → List Kind → Type 0
Says word words lines = IsOk (command_of word words (body_of lines))
