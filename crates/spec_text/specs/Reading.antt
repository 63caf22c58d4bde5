-- A config spec as it is read, line by line.
use Rattle.std.specs.Prelude.{ℕ, Result, Ok, Err, List, [], ◌∷◌, ◌++◌}
use Rattle.cc_names.specs.declared.memory.Or.{Or}
use Rattle.cc_names.specs.declared.memory.Or.TheVariants.{NoMemory, Is}
use Rattle.cc_names.specs.declared.refusals.SpecCause.{SpecCause}
use Rattle.cc_names.specs.declared.refusals.SpecCause.TheVariants.{NoBlock}
use Rattle.cc_names.specs.declared.refusals.SpecError.{SpecError}
use Rattle.cc_names.specs.declared.selection.Rule.{Rule}
use Rattle.base_model.specs.declared.config_specs.Line.{Line}
use Rattle.base_model.specs.declared.config_specs.Line.TheVariants.{Skipped, BeginsBlock, EndsBlock, Gives}

-- the rules so far, and the times of the blocks that are open, the innermost first
pub record State : Type 0 where
  pub rules : List Rule
  pub blocks : List ℕ

-- no rule and no open block
abbrev pub no_rule_read : State
no_rule_read = record { rules = []; blocks = [] }

-- the state when the innermost block has ended
abbrev pub state_after_block : List Rule → List ℕ → Result State SpecCause
state_after_block rules [] = Err NoBlock
state_after_block rules (innermost ∷ blocks) = Ok (record { rules = rules; blocks = blocks })

-- the state after a line
abbrev pub rules_after_line : Line → State → Result State SpecCause
rules_after_line Skipped state = Ok state
rules_after_line (BeginsBlock moment) state = Ok (record { rules = state.rules; blocks = moment ∷ state.blocks })
rules_after_line EndsBlock state = state_after_block state.rules state.blocks
rules_after_line (Gives rule) state = Ok (record { rules = state.rules ++ rule ∷ []; blocks = state.blocks })

-- the state after what a line says, where it says something
abbrev pub after_read : Result Line SpecCause → State → Result State SpecCause
after_read (Ok line) state = rules_after_line line state
after_read (Err cause) state = Err cause

-- a cause with the line on which it stands
abbrev pub at_line : ℕ → Or SpecCause → Or SpecError
at_line line NoMemory = NoMemory
at_line line (Is cause) = Is (record { line = line; cause = cause })
