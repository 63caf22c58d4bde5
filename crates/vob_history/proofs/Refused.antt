-- What answers a query about an element where none was found.
use Rattle.std.proofs.Common.{ℕ, List, Result, Err}
use Rattle.cc_names.specs.declared.memory.Or.{Or}
use Rattle.cc_names.specs.declared.memory.Or.TheVariants.{NoMemory, Is}
use Rattle.cc_names.specs.declared.refusals.Refusal.{Refusal}
use Rattle.cc_names.specs.declared.selection.Picked.{Picked}
use Rattle.view_lookup.specs.Answering.{AnswersAs}
use Rattle.vob_history.specs.Found.{FindsSelected}

-- the refusal, whatever the query tells
pub refused : (refusal : Or Refusal) (answer : (ℕ → Picked → List ℕ) → Result (List ℕ) Refusal) (text : ℕ → Picked → List ℕ)
    → FindsSelected (Err refusal) answer → AnswersAs (Err refusal) (answer text)
refused NoMemory answer text h = tt
refused (Is refusal) answer text h = h text
