-- What a reader of bytes answers, whose grammar is a function on lists of bytes.
use Rattle.std.specs.Prelude.{◌≡◌, Result, Ok, Err}
use Rattle.cc_names.specs.declared.memory.Or.{Or}
use Rattle.cc_names.specs.declared.memory.Or.TheVariants.{NoMemory, Is}

-- unless memory ran out, the fault is the one that reading gives
abbrev pub FaultIs : {X E : Type 0} → Or E → Result X E → Type 0
FaultIs NoMemory read = Unit {0}
FaultIs (Is fault) read = read ≡ Err fault

-- unless memory ran out, a call answered what reading gives: the same value, or the same fault
abbrev pub Gives : {X E : Type 0} → Result X (Or E) → Result X E → Type 0
Gives (Ok x) read = read ≡ Ok x
Gives (Err fault) read = FaultIs fault read
