-- The rules that a text spells, or its first line that fails and why.
use Rattle.std.specs.Prelude.{ℕ, ◌+◌, Result, Ok, Err, List, [], ◌∷◌, slice_get}
use Rattle.cc_names.specs.Cuts.{lines_of}
use Rattle.cc_names.specs.declared.refusals.SpecCause.{SpecCause}
use Rattle.cc_names.specs.declared.refusals.SpecCause.TheVariants.{NoBlock}
use Rattle.cc_names.specs.declared.refusals.SpecError.{SpecError}
use Rattle.cc_names.specs.declared.selection.Rule.{Rule}
use Rattle.base_model.specs.ConfigSpecs.Lines.{line_of}
use Rattle.base_model.specs.declared.config_specs.Line.{Line}
use Rattle.base_model.specs.declared.config_specs.Line.TheVariants.{Skipped, BeginsBlock, EndsBlock, Gives}

-- a rule before those that follow it, where these can be read
abbrev pub before_rules : Rule → Result (List Rule) SpecError → Result (List Rule) SpecError
before_rules rule (Ok rules) = Ok (rule ∷ rules)
before_rules rule (Err error) = Err error

-- the text fails at a line, by a cause
abbrev pub fails : ℕ → SpecCause → Result (List Rule) SpecError
fails line cause = Err (record { line = line; cause = cause })

-- what a line gives with the lines behind it. The times of the blocks that are open stand innermost first
abbrev pub with_line : ℕ → List ℕ → Result Line SpecCause → (List ℕ → Result (List Rule) SpecError) → Result (List Rule) SpecError
with_line line blocks (Err cause) behind = fails line cause
with_line line blocks (Ok Skipped) behind = behind blocks
with_line line blocks (Ok (BeginsBlock moment)) behind = behind (moment ∷ blocks)
with_line line [] (Ok EndsBlock) behind = fails line NoBlock
with_line line (innermost ∷ blocks) (Ok EndsBlock) behind = behind blocks
with_line line blocks (Ok (Gives rule)) behind = before_rules rule (behind blocks)

-- the rules on lines of which the first has this number, inside these blocks
abbrev pub rules_from : List (List ℕ) → ℕ → List ℕ → Result (List Rule) SpecError
rules_from [] line blocks = Ok []
rules_from (bytes ∷ lines) line blocks =
    with_line line blocks (line_of line (slice_get blocks 0) bytes) (rules_from lines (line + 1))

-- The rules of a config spec, in order. A block that is open at the end ends there.
abbrev pub rules_of : List ℕ → Result (List Rule) SpecError
rules_of text = rules_from (lines_of text) 1 []
