-- What is found of what a query asks about, or refused.
use Rattle.std.specs.Prelude.{◌≡◌, ℕ, Option, Some, None, Result, Ok, Err, List}
use Rattle.cc_names.specs.declared.memory.Or.{Or}
use Rattle.cc_names.specs.declared.memory.Or.TheVariants.{NoMemory, Is}
use Rattle.cc_names.specs.declared.refusals.Refusal.{Refusal}
use Rattle.cc_names.specs.declared.selection.Picked.{Picked}

-- the element that was found, and what was picked of it, is that of which a text answers, whatever it tells; where there is none
-- the refusal answers
abbrev pub FindsSelected : Result (ℕ × Picked) (Or Refusal) → ((ℕ → Picked → List ℕ) → Result (List ℕ) Refusal) → Type 0
FindsSelected (Ok found) answer = (text : ℕ → Picked → List ℕ) → answer text ≡ Ok (text found.0 found.1)
FindsSelected (Err (Is refusal)) answer = (text : ℕ → Picked → List ℕ) → answer text ≡ Err refusal
FindsSelected (Err NoMemory) answer = Unit {0}

-- the object that was found is the one of which the rest is told, whatever the rest is; where there is none the refusal answers
abbrev pub FindsObject : Result ℕ (Or Refusal) → ((ℕ → Result (List ℕ) Refusal) → Result (List ℕ) Refusal) → Type 0
FindsObject (Ok id) answer = (more : ℕ → Result (List ℕ) Refusal) → answer more ≡ more id
FindsObject (Err (Is refusal)) answer = (more : ℕ → Result (List ℕ) Refusal) → answer more ≡ Err refusal
FindsObject (Err NoMemory) answer = Unit {0}

-- the test is passed, or its refusal is answered, unless memory ran out
abbrev pub Tests : {A : Type 0} → Result A (Or Refusal) → Option Refusal → Type 0
Tests (Ok passed) test = test ≡ None
Tests (Err (Is refusal)) test = test ≡ Some refusal
Tests (Err NoMemory) test = Unit {0}
