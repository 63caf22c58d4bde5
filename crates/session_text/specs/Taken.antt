-- What a call adds that reads words.
use Rattle.std.specs.Prelude.{◌≡◌, Result, Ok, Err}
use Rattle.cc_names.specs.declared.memory.Or.{Or}
use Rattle.cc_names.specs.declared.memory.Or.TheVariants.{NoMemory, Is}
use Rattle.cc_names.specs.declared.refusals.SessionCause.{SessionCause}
use Rattle.session_text.specs.Words.{Said}

-- unless memory ran out, the fault is the one that was said
abbrev pub SaidFaultIs : {X : Type 0} → Or SessionCause → Said X → Type 0
SaidFaultIs NoMemory said = Unit {0}
SaidFaultIs (Is cause) said = said ≡ Err cause

-- unless memory ran out, a call took in what words said
abbrev pub Takes : {X : Type 0} → Result (Unit {0}) (Or SessionCause) → Said X → X → Type 0
Takes (Ok _) said new = said ≡ Ok new
Takes (Err fault) said new = SaidFaultIs fault said
