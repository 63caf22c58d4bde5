-- What reading a source whole answers, cause by cause.
use Rattle.std.specs.Prelude.{Result, Ok, Err}
use Rattle.cc_names.specs.declared.memory.Or.{Or}
use Rattle.cc_names.specs.declared.memory.Or.TheVariants.{NoMemory, Is}
use Rattle.cc_outside.specs.declared.sources.Unread.{Unread}
use Rattle.cc_outside.specs.declared.sources.Unread.TheVariants.{Fault, TooLong}

-- a fact for the answer that the source failed
abbrev pub OnFault : {X : Type 0} → Result X (Or Unread) → Type 0 → Type 0
OnFault (Ok x) P = Unit {0}
OnFault (Err NoMemory) P = Unit {0}
OnFault (Err (Is Fault)) P = P
OnFault (Err (Is TooLong)) P = Unit {0}

-- a fact for the answer that the source gave too much
abbrev pub OnTooLong : {X : Type 0} → Result X (Or Unread) → Type 0 → Type 0
OnTooLong (Ok x) P = Unit {0}
OnTooLong (Err NoMemory) P = Unit {0}
OnTooLong (Err (Is Fault)) P = Unit {0}
OnTooLong (Err (Is TooLong)) P = P
