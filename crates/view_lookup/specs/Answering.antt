-- What a call answers that answers a query.
use Rattle.std.specs.Prelude.{◌≡◌, ℕ, Result, Ok, Err, List}
use Rattle.cc_names.specs.declared.memory.Or.{Or}
use Rattle.cc_names.specs.declared.memory.Or.TheVariants.{NoMemory, Is}
use Rattle.cc_names.specs.declared.refusals.Refusal.{Refusal}

-- the text or the refusal that the model gives, unless memory ran out
abbrev pub AnswersAs : Result (List ℕ) (Or Refusal) → Result (List ℕ) Refusal → Type 0
AnswersAs (Ok text) answer = answer ≡ Ok text
AnswersAs (Err (Is refusal)) answer = answer ≡ Err refusal
AnswersAs (Err NoMemory) answer = Unit {0}
