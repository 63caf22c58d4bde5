-- What `run` answers.
use Rattle.std.specs.Prelude.{ℕ, Result, Ok, Err, List}
use Rattle.cc_names.specs.declared.memory.Or.{Or}
use Rattle.cc_names.specs.declared.memory.Or.TheVariants.{NoMemory, Is}
use Rattle.cc_names.specs.declared.refusals.ScriptFault.{ScriptFault}
use Rattle.script_grammar.specs.Run.{Ran}
use Rattle.script_grammar.specs.Parts.{IsGivenUpFor}
use Rattle.script_grammar.specs.declared.files.GivenUp.{GivenUp}
use Rattle.build_script.specs.declared.outcomes.Written.{Written}
use Rattle.build_script.specs.declared.outcomes.Ended.{Ended}

-- the outputs of a run, or its fault
abbrev pub outputs_in : Result Written ScriptFault → Result (List (List ℕ)) ScriptFault
outputs_in (Ok outcome) = Ok outcome.outputs
outputs_in (Err fault) = Err fault

-- what a run came to, as its definition says it
abbrev pub ran_of : Ended → Ran
ran_of ended = record { result = outputs_in ended.result; reads = ended.reads }

-- a run was given up for want of memory, or since the files broke
abbrev pub IsGivenUp : Or GivenUp → ℕ → ℕ → Type 0
IsGivenUp NoMemory old new = Unit {0}
IsGivenUp (Is cause) old new = IsGivenUpFor cause old new
