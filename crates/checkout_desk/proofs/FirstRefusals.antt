-- The first refusal of some tests and of more after them.
use Rattle.std.proofs.Common.{◌≡◌, Option, Some, None, List, [], ◌∷◌, ◌++◌, refl}
use Rattle.cc_names.specs.declared.memory.Or.{Or}
use Rattle.cc_names.specs.declared.memory.Or.TheVariants.{NoMemory, Is}
use Rattle.cc_names.specs.declared.refusals.Refusal.{Refusal}
use Rattle.legal_history.specs.Commands.Decisions.{first_refusal}
use Rattle.checkout_desk.specs.Deciding.{IsOfTest}

-- the refusal of some tests is that of them and more
pub refused_first : (refusal : Or Refusal) (tests more : List (Option Refusal)) → IsOfTest refusal (first_refusal tests)
    → IsOfTest refusal (first_refusal (tests ++ more))
refused_first NoMemory tests more is = tt
refused_first (Is refusal) [] more is = absurd (cc is)
refused_first (Is refusal) (Some other ∷ tests) more is = is
refused_first (Is refusal) (None ∷ tests) more is = refused_first (Is refusal) tests more is

-- where some tests are passed, the refusal is that of those after them
pub passed_first : (tests more : List (Option Refusal)) → first_refusal tests ≡ None
    → first_refusal (tests ++ more) ≡ first_refusal more
passed_first [] more is = refl
passed_first (Some other ∷ tests) more is = absurd (cc is)
passed_first (None ∷ tests) more is = passed_first tests more is
