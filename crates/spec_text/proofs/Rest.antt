-- The rules of a text by what has been read of it and what is left.
use Rattle.std.proofs.Common.{◌≡◌, ℕ, ◌+◌, Result, Ok, Err, List, [], ◌∷◌, ◌++◌, refl, sym, ap, ◌∙◌, append_assoc, slice_get}
use Rattle.cc_names.specs.Answers.{FaultIs}
use Rattle.cc_names.specs.declared.memory.Or.{Or}
use Rattle.cc_names.specs.declared.memory.Or.TheVariants.{NoMemory, Is}
use Rattle.cc_names.specs.declared.refusals.SpecCause.{SpecCause}
use Rattle.cc_names.specs.declared.refusals.SpecError.{SpecError}
use Rattle.cc_names.specs.declared.selection.Rule.{Rule}
use Rattle.base_model.specs.ConfigSpecs.Lines.{line_of}
use Rattle.spec_text.specs.Reading.{State, no_rule_read, rules_after_line, after_read, at_line}
use Rattle.base_model.specs.ConfigSpecs.Specs.{before_rules, with_line, rules_from}
use Rattle.base_model.specs.declared.config_specs.Line.{Line}
use Rattle.base_model.specs.declared.config_specs.Line.TheVariants.{Skipped, BeginsBlock, EndsBlock, Gives}

-- rules and those that follow them
abbrev pub followed : List Rule → Result (List Rule) SpecError → Result (List Rule) SpecError
followed rules (Ok more) = Ok (rules ++ more)
followed rules (Err error) = Err error

followed_one : (rules : List Rule) (rule : Rule) (more : Result (List Rule) SpecError)
    → followed rules (before_rules rule more) ≡ followed (rules ++ rule ∷ []) more
followed_one rules rule (Ok more) = ap Ok (sym (append_assoc rules (rule ∷ []) more))
followed_one rules rule (Err error) = refl

-- what follows the rules so far, in what is left
abbrev pub rest_of : State → List (List ℕ) → ℕ → Result (List Rule) SpecError
rest_of state lines number = followed state.rules (rules_from lines number state.blocks)

-- before anything is read, that is all
pub rest_at_first : (lines : List (List ℕ)) → rules_from lines 1 [] ≡ rest_of no_rule_read lines 1
rest_at_first lines = by (rules_from lines 1 [])
  where
    by : (all : Result (List Rule) SpecError) → all ≡ followed [] all
    by (Ok rules) = refl
    by (Err error) = refl

goes_by : (line : Line) (rules : List Rule) (blocks : List ℕ) (after : State) (number : ℕ) (behind : List ℕ
    → Result (List Rule) SpecError) → rules_after_line line (record { rules = rules; blocks = blocks }) ≡ Ok after
    → followed rules (with_line number blocks (Ok line) behind) ≡ followed after.rules (behind after.blocks)
goes_by Skipped rules blocks after number behind e = let same : record { rules = rules; blocks = blocks } ≡ after = cc in
    ap (λ (state : State). followed state.rules (behind state.blocks)) same
goes_by (BeginsBlock moment) rules blocks after number behind e = let same : record { rules = rules; blocks = moment ∷ blocks }
    ≡ after = cc in ap (λ (state : State). followed state.rules (behind state.blocks)) same
goes_by EndsBlock rules [] after number behind e = cc
goes_by EndsBlock rules (innermost ∷ blocks) after number behind e = let same : record { rules = rules; blocks = blocks }
    ≡ after = cc in ap (λ (state : State). followed state.rules (behind state.blocks)) same
goes_by (Gives rule) rules blocks after number behind e =
    let same : record { rules = rules ++ rule ∷ []; blocks = blocks } ≡ after = cc in
    followed_one rules rule (behind blocks) ∙ ap (λ (state : State). followed state.rules (behind state.blocks)) same

ends_by : (line : Line) (rules : List Rule) (blocks : List ℕ) (cause : SpecCause) (number : ℕ) (behind : List ℕ
    → Result (List Rule) SpecError) → rules_after_line line (record { rules = rules; blocks = blocks }) ≡ Err cause
    → followed rules (with_line number blocks (Ok line) behind) ≡ Err (record { line = number; cause = cause })
ends_by Skipped rules blocks cause number behind e = cc
ends_by (BeginsBlock moment) rules blocks cause number behind e = cc
ends_by EndsBlock rules [] cause number behind e = cc
ends_by EndsBlock rules (innermost ∷ blocks) cause number behind e = cc
ends_by (Gives rule) rules blocks cause number behind e = cc

read_on : (said : Result Line SpecCause) (state after : State) (number : ℕ) (behind : List ℕ → Result (List Rule) SpecError)
    → after_read said state ≡ Ok after → followed state.rules (with_line number state.blocks said behind)
    ≡ followed after.rules (behind after.blocks)
read_on (Ok line) state after number behind e = goes_by line state.rules state.blocks after number behind e
read_on (Err cause) state after number behind e = cc

read_end : (said : Result Line SpecCause) (state : State) (cause : SpecCause) (number : ℕ) (behind : List ℕ
    → Result (List Rule) SpecError) → after_read said state ≡ Err cause
    → followed state.rules (with_line number state.blocks said behind) ≡ Err (record { line = number; cause = cause })
read_end (Ok line) state cause number behind e = ends_by line state.rules state.blocks cause number behind e
read_end (Err other) state cause number behind e = cc

-- a line that can be read
pub goes_on : (bytes : List ℕ) (lines : List (List ℕ)) (number : ℕ) (state after : State)
    → after_read (line_of number (slice_get state.blocks 0) bytes) state ≡ Ok after
    → rest_of state (bytes ∷ lines) number ≡ rest_of after lines (number + 1)
goes_on bytes lines number state after e =
    read_on (line_of number (slice_get state.blocks 0) bytes) state after number (rules_from lines (number + 1)) e

-- and one that cannot
pub ends_at : (bytes : List ℕ) (lines : List (List ℕ)) (number : ℕ) (state : State) (cause : SpecCause)
    → after_read (line_of number (slice_get state.blocks 0) bytes) state ≡ Err cause
    → rest_of state (bytes ∷ lines) number ≡ Err (record { line = number; cause = cause })
ends_at bytes lines number state cause e =
    read_end (line_of number (slice_get state.blocks 0) bytes) state cause number (rules_from lines (number + 1)) e

-- the same with want of memory, of which nothing is said
pub ends_at_fault : (fault : Or SpecCause) (bytes : List ℕ) (lines : List (List ℕ)) (number : ℕ) (state : State)
    → FaultIs fault (after_read (line_of number (slice_get state.blocks 0) bytes) state)
    → FaultIs (at_line number fault) (rest_of state (bytes ∷ lines) number)
ends_at_fault NoMemory bytes lines number state h = tt
ends_at_fault (Is cause) bytes lines number state h = ends_at bytes lines number state cause h
