-- Steps of a check, line by line.
use Rattle.std.proofs.Common.{◌≡◌, ◌∙◌, ℕ, ◌+◌, Bool, true, false, not, Option, None, List, [], ◌∷◌, refl, sym, ap}
use Rattle.std.specs.Prelude.{Ok, Err}
use Rattle.cc_names.specs.Answers.{FaultIs}
use Rattle.cc_names.specs.declared.commands.Command.{Command}
use Rattle.cc_names.specs.declared.memory.Or.{Or}
use Rattle.cc_names.specs.declared.memory.Or.TheVariants.{NoMemory, Is}
use Rattle.cc_names.specs.declared.refusals.SessionCause.{SessionCause}
use Rattle.cc_names.specs.declared.refusals.SessionCause.TheVariants as causes
use Rattle.cc_names.specs.declared.refusals.SessionError.{SessionError}
use Rattle.session_text.specs.declared.kinds.Kind.{Kind}
use Rattle.session_text.specs.declared.kinds.Kind.TheVariants as kinds
use Rattle.session_text.specs.Commands.{command_of, takes_body}
use Rattle.session_text.specs.Kinds.{Rest, kinds_of}
use Rattle.session_text.specs.Reading.{IsNextLine, HasNoLine, IsWrong, StandsRight, fault_of_line}
use Rattle.session_text.specs.Sessions.{Above, is_empty, cause_where_or, cause_in, cause_of, above_next, body_follows, error_or}
use Rattle.session_text.specs.Sessions.{first_error, body_of}
use Rattle.session_text.specs.Words.{Said}
use Rattle.session_text.proofs.BodyLaws.{commands_alike}

-- the first error of lines, by the kind of the first of them
first_error-next : (n m : ℕ) (above : Above) (kind : Kind) (lines rest : List Kind) → lines ≡ kind ∷ rest → m ≡ n + 1
    → first_error n above lines ≡ error_or m (cause_of above kind (body_of rest))
    (first_error m (above_next above kind (body_of rest)) rest)
first_error-next n m above kind lines rest e h =
    ap (λ v. first_error n above v) e
    ∙ ap (λ v. error_or v (cause_of above kind (body_of rest)) (first_error v (above_next above kind (body_of rest)) rest))
    (sym h)

-- a line stands alike with each text of body lines after it
lines_alike : (above : Above) (kind : Kind) (text other : List ℕ) → (cause_of above kind text ≡ cause_of above kind other)
    × (above_next above kind text ≡ above_next above kind other)
lines_alike above kinds.Skipped text other = (refl, refl)
lines_alike above (kinds.Body bytes) text other = (refl, refl)
lines_alike above (kinds.Phase words) text other = (refl, refl)
lines_alike above (kinds.Lane words) text other = (refl, refl)
lines_alike above (kinds.Command word words) text other =
    let alike = commands_alike word words text other in (
      ap (λ v. cause_where_or (not above.in_phase) causes.NoPhase (cause_where_or (is_empty above.lanes) causes.NoLane v))
          alike.0,
      ap (λ v. record above { takes_body = v }) alike.1,
    )

-- a line that stands right without body lines
pub stands-right : (found : Option SessionError) (old new : Rest) (kind : Kind) (above after : Above)
    → found ≡ first_error old.number above (kinds_of old.bytes) → IsNextLine old kind new
    → cause_of above kind [] ≡ None → after ≡ above_next above kind []
    → found ≡ first_error new.number after (kinds_of new.bytes)
stands-right found old new kind above after e next right follows =
    let alike = lines_alike above kind (body_of (kinds_of new.bytes)) [] in
    e ∙ first_error-next old.number new.number above kind (kinds_of old.bytes) (kinds_of new.bytes) next.kinds next.number
    ∙ ap (λ v. error_or new.number v (first_error new.number (above_next above kind (body_of (kinds_of new.bytes)))
    (kinds_of new.bytes))) (alike.0 ∙ right)
    ∙ ap (λ v. first_error new.number v (kinds_of new.bytes)) (alike.1 ∙ sym follows)

-- a line that stands wrong without body lines
pub stands-wrong : (A : Type 0) (found : Option SessionError) (old new : Rest) (kind : Kind) (above after : Above)
    (fault : Or SessionCause)
    → found ≡ first_error old.number above (kinds_of old.bytes) → IsNextLine old kind new
    → StandsRight {A = A} (Err fault) above kind [] after
    → IsWrong (fault_of_line new.number fault) found
stands-wrong A found old new kind above after NoMemory e next stands = tt
stands-wrong A found old new kind above after (Is cause) e next stands =
    e ∙ first_error-next old.number new.number above kind (kinds_of old.bytes) (kinds_of new.bytes) next.kinds next.number
    ∙ ap (λ v. error_or new.number v (first_error new.number (above_next above kind (body_of (kinds_of new.bytes)))
    (kinds_of new.bytes))) ((lines_alike above kind (body_of (kinds_of new.bytes)) []).0 ∙ stands)

-- where no line is left, none stands wrong
pub all-stand : (found : Option SessionError) (old new : Rest) (above : Above)
    → found ≡ first_error old.number above (kinds_of old.bytes) → HasNoLine old new → found ≡ None
all-stand found old new above e end = e ∙ ap (λ v. first_error old.number above v) end.none

command_cause : (phase none : Bool) (said : Said Command) → phase ≡ true → none ≡ false
    → cause_where_or (not phase) causes.NoPhase (cause_where_or none causes.NoLane (cause_in said)) ≡ cause_in said
command_cause true false said p n = refl
command_cause true true said p n = cc
command_cause false none said p n = cc

-- a command below a lane
pub command-stands : (above after : Above) (word : List ℕ) (words : List (List ℕ)) (text : List ℕ) (command : Command)
    → above.in_phase ≡ true → is_empty above.lanes ≡ false → command_of word words text ≡ Ok command
    → after ≡ record above { takes_body = takes_body command }
    → (cause_of above (kinds.Command word words) text ≡ None) × (after ≡ above_next above (kinds.Command word words) text)
command-stands above after word words text command p n e a = (
  command_cause above.in_phase (is_empty above.lanes) (command_of word words text) p n ∙ ap cause_in e,
  a ∙ ap (λ v. record above { takes_body = body_follows v }) (sym e),
)

pub command-wrong : (A : Type 0) (above after : Above) (word : List ℕ) (words : List (List ℕ)) (text : List ℕ)
    (fault : Or SessionCause)
    → above.in_phase ≡ true → is_empty above.lanes ≡ false → FaultIs fault (command_of word words text)
    → StandsRight {A = A} (Err fault) above (kinds.Command word words) text after
command-wrong A above after word words text NoMemory p n e = tt
command-wrong A above after word words text (Is cause) p n e =
    command_cause above.in_phase (is_empty above.lanes) (command_of word words text) p n ∙ ap cause_in e
