-- What is known of lines that stand right.
use Rattle.std.proofs.Common.{◌≡◌, ◌∙◌, ℕ, ◌+◌, Bool, true, false, not, cond, Option, None, List, [], ◌∷◌, refl, sym, ap}
use Rattle.std.proofs.Common.{length, arith}
use Rattle.std.specs.Prelude.{Ok, Err, IsOk, nat_le}
use Rattle.cc_names.specs.declared.commands.Command.{Command}
use Rattle.cc_names.specs.declared.refusals.SessionCause.{SessionCause}
use Rattle.cc_names.specs.declared.refusals.SessionCause.TheVariants as causes
use Rattle.session_text.specs.declared.kinds.Kind.{Kind}
use Rattle.session_text.specs.declared.kinds.Kind.TheVariants as kinds
use Rattle.session_text.specs.Commands.{command_of}
use Rattle.session_text.specs.Kinds.{Rest, kinds_of}
use Rattle.session_text.specs.Reading.{IsNextLine, HasNoLine, IsRight, FindsKind, PassesLines, FindsCommand, LaneNames, Says}
use Rattle.session_text.specs.Sessions.{cause_where_or, cause_in, cause_of, above_next, is_empty, is_taken}
use Rattle.session_text.specs.Sessions.{first_error, body_of, before_commands, commands_of}
use Rattle.session_text.specs.Shapes.{view}
use Rattle.session_text.specs.Words.{Said}
use Rattle.session_text.proofs.Ends.{end-all, end-behind}
use Rattle.session_text.proofs.FormedReading.{no_error}

no_cause : (test : Bool) (cause : SessionCause) (later : Option SessionCause) → cause_where_or test cause later ≡ None
    → later ≡ None
no_cause true cause later e = cc
no_cause false cause later e = e

said_so : {X : Type 0} (said : Said X) → cause_in said ≡ None → IsOk said
said_so (Ok x) e = refl
said_so (Err cause) e = cc

-- the lines after one
pub right-behind : (kind : Kind) (lines : List Kind) → IsRight (kind ∷ lines) → IsRight lines
right-behind kind lines r = record {
  number = r.number + 1;
  above = above_next r.above kind (body_of lines);
  right = (no_error (r.number + 1) (cause_of r.above kind (body_of lines))
      (first_error (r.number + 1) (above_next r.above kind (body_of lines)) lines) r.right).1;
}

cause_none : (kind : Kind) (lines : List Kind) (r : IsRight (kind ∷ lines)) → cause_of r.above kind (body_of lines) ≡ None
cause_none kind lines r =
    (no_error (r.number + 1) (cause_of r.above kind (body_of lines))
    (first_error (r.number + 1) (above_next r.above kind (body_of lines)) lines) r.right).0

-- a command's line says one
pub right-command : (word : List ℕ) (words : List (List ℕ)) (lines : List Kind) → IsRight (kinds.Command word words ∷ lines)
    → Says word words lines
right-command word words lines r =
    let some = no_cause (not r.above.in_phase) causes.NoPhase _ (cause_none (kinds.Command word words) lines r) in
    said_so (command_of word words (body_of lines)) (no_cause (is_empty r.above.lanes) causes.NoLane _ some)

named : (taken many : Bool) (words : List (List ℕ)) → cause_in (cond taken (Err causes.TwoLanes)
    (cond many (Err causes.TooManyLanes) (view words))) ≡ None → LaneNames words
named true many words e = cc
named false true words e = cc
named false false words e = said_so (view words) e

-- a lane's line names it
pub right-lane : (words : List (List ℕ)) (lines : List Kind) → IsRight (kinds.Lane words ∷ lines) → LaneNames words
right-lane words lines r =
    named (is_taken r.above.lanes words) (nat_le 64 (length r.above.lanes)) words
    (no_cause (not r.above.in_phase) causes.NoPhase _ (cause_none (kinds.Lane words) lines r))

one_more : (said : Said Command) (commands : List Command) → IsOk said
    → length (before_commands said commands) ≡ 1 + length commands
one_more (Ok command) commands is = omega arith
one_more (Err cause) commands is = cc

-- a command that was found is one of those of its lane
pub counts-one : (old new : Rest) (word : List ℕ) (words : List (List ℕ)) → FindsCommand old word words new
    → IsRight (kinds_of old.bytes)
    → (length (commands_of (kinds_of old.bytes)) ≡ 1 + length (commands_of (kinds_of new.bytes))) × IsRight (kinds_of new.bytes)
counts-one old new word words found right =
    let all = found.found.right right in
    let says = right-command word words (kinds_of new.bytes) all in (
      ap length found.same ∙ one_more (command_of word words (body_of (kinds_of new.bytes))) (commands_of (kinds_of new.bytes))
          says,
      right-behind (kinds.Command word words) (kinds_of new.bytes) all,
    )

pub past-none : {X : Type 0} (of : List Kind → X) (old : Rest) → PassesLines of old old
past-none of old = record { end = end-all old.bytes; right = λ r. r; same = refl }

pub right_along : (lines other : List Kind) → lines ≡ other → IsRight lines → IsRight other
right_along lines other e r = record {
  number = r.number;
  above = r.above;
  right = ap (λ v. first_error r.number r.above v) (sym e) ∙ r.right;
}

-- the line after those passed was found
pub past-found : {X : Type 0} (of : List Kind → X) (old rest new : Rest) (kind : Kind) → PassesLines of old rest
    → IsNextLine rest kind new
    → FindsKind old kind new × (of (kinds_of old.bytes) ≡ of (kind ∷ kinds_of new.bytes))
past-found of old rest new kind past next = (
  record {
    end = end-behind old.bytes rest.bytes new.bytes past.end next.end;
    right = λ r. right_along (kinds_of rest.bytes) (kind ∷ kinds_of new.bytes) next.kinds (past.right r);
  },
  past.same ∙ ap of next.kinds,
)

-- the line after those passed does not count either
pub past-line : {X : Type 0} (of : List Kind → X) (old rest new : Rest) (kind : Kind) → PassesLines of old rest
    → IsNextLine rest kind new
    → of (kind ∷ kinds_of new.bytes) ≡ of (kinds_of new.bytes) → PassesLines of old new
past-line of old rest new kind past next skips =
    let found = past-found of old rest new kind past next in
    record { end = found.0.end; right = λ r. right-behind kind (kinds_of new.bytes) (found.0.right r); same = found.1 ∙ skips }

-- no line is left after those passed
pub past-all : {X : Type 0} (of : List Kind → X) (old rest : Rest) (new : Rest) → PassesLines of old rest → HasNoLine rest new
    → of (kinds_of old.bytes) ≡ of []
past-all of old rest new past end = past.same ∙ ap of end.none
