-- What is decided of a label on the versions that a record lists, by the tests of it.
use Rattle.std.proofs.Common.{◌≡◌, ap, sym, ◌∙◌, ℕ, Bool, false, ◌==◌, Option, Some, None, List, [], ◌∷◌, ◌++◌, length}
use Rattle.cc_names.specs.declared.memory.Or.{Or}
use Rattle.cc_names.specs.declared.memory.Or.TheVariants.{NoMemory, Is}
use Rattle.cc_names.specs.declared.refusals.Refusal.{Refusal}
use Rattle.cc_names.specs.declared.rows.Deed.TheVariants as deeds
use Rattle.cc_names.specs.declared.rows.Placed.{Placed}
use Rattle.base_model.specs.Rows.{Base}
use Rattle.legal_history.specs.Commands.Decisions.{Answers, Decision, Makes, Scene, first_refusal, needs_room, unless_refused}
use Rattle.legal_history.specs.Commands.LabelLines.{labels_free, labels_or_nothing, needs_label_free}
use Rattle.checkout_desk.specs.Deciding.{IsOfTest, RefusalIs}
use Rattle.checkout_desk.proofs.FirstRefusals.{passed_first, refused_first}

-- where the first test refuses, so do all of them
first_one : (refusal : Or Refusal) (test : Option Refusal) (tests : List (Option Refusal)) → IsOfTest refusal test
    → IsOfTest refusal (first_refusal (test ∷ tests))
first_one NoMemory test tests is = tt
first_one (Is refusal) None tests is = absurd (cc is)
first_one (Is refusal) (Some other) tests is = is

pub first_of : (b : Base) (replace : Bool) (label : List ℕ) (one : Placed) (more : List Placed) (refusal : Or Refusal)
    → IsOfTest refusal (needs_label_free b replace label one.element one.version) →
    IsOfTest refusal (first_refusal (labels_free b replace label (one ∷ more)))
first_of b replace label one more refusal is = first_one refusal (needs_label_free b replace label one.element one.version)
    (labels_free b replace label more) is

-- where it passes, the others refuse as all of them do
pub passed_one : (b : Base) (replace : Bool) (label : List ℕ) (one : Placed) (more : List Placed) (all : Option Refusal)
    → needs_label_free b replace label one.element one.version ≡ None →
    first_refusal (labels_free b replace label (one ∷ more)) ≡ all → first_refusal (labels_free b replace label more) ≡ all
passed_one b replace label one more all passes before = sym (ap (λ test. first_refusal (test ∷ labels_free b replace label more))
    passes) ∙ before

refused : (refusal : Or Refusal) (tests : List (Option Refusal)) (decision : Decision) → IsOfTest refusal (first_refusal tests)
    → RefusalIs refusal (unless_refused (first_refusal tests) decision)
refused NoMemory tests decision is = tt
refused (Is refusal) tests decision is = ap (λ test. unless_refused test decision) is

-- a test refuses, whatever the record lists
pub labels_refused : (s : Scene) (tests : List (Option Refusal)) (label : List ℕ) (places : List Placed) (refusal : Or Refusal)
    → IsOfTest refusal (first_refusal tests) → RefusalIs refusal (labels_or_nothing s tests label places)
labels_refused s tests label [] refusal is = refused refusal tests (Answers []) is
labels_refused s tests label (placed ∷ more) refusal is =
    refused refusal (tests ++ needs_room s 1 ∷ []) (Makes (deeds.Labels label (placed ∷ more)))
    (refused_first refusal tests (needs_room s 1 ∷ []) is)

-- else there is to be room for the row
pub labels_made : (s : Scene) (tests : List (Option Refusal)) (label : List ℕ) (places : List Placed) → first_refusal tests ≡ None
    → (length places == 0) ≡ false →
    labels_or_nothing s tests label places ≡ unless_refused (first_refusal (needs_room s 1 ∷ []))
    (Makes (deeds.Labels label places))
labels_made s tests label [] pass some = absurd (cc)
labels_made s tests label (placed ∷ more) pass some = ap (λ test. unless_refused test
    (Makes (deeds.Labels label (placed ∷ more)))) (passed_first tests (needs_room s 1 ∷ []) pass)
