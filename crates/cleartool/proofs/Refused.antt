-- What answers a query about a directory where none was found.
use Rattle.std.proofs.Common.{ℕ, List, Err}
use Rattle.cc_names.specs.declared.memory.Or.{Or}
use Rattle.cc_names.specs.declared.memory.Or.TheVariants.{NoMemory, Is}
use Rattle.cc_names.specs.declared.refusals.Refusal.{Refusal}
use Rattle.base_model.specs.Rows.{Base}
use Rattle.legal_history.specs.Queries.QueryLines.{ls_tests, answers_with}
use Rattle.view_lookup.specs.Answering.{AnswersAs}
use Rattle.cleartool.specs.Listed.{FindsDirectory}

-- the refusal, whatever the query tells
pub no_directory : (b : Base) (v path : List ℕ) (refusal : Or Refusal) (text : List ℕ) → FindsDirectory b v path (Err refusal)
    → AnswersAs (Err refusal) (answers_with (ls_tests b v path) text)
no_directory b v path NoMemory text h = tt
no_directory b v path (Is refusal) text h = h text
