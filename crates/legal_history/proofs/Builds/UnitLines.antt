-- The lines of a unit whose outcome agrees, and lines after lines.
use Rattle.std.proofs.Common.{◌≡◌, refl, ap, sym, ◌∙◌, ℕ, suc, ◌+◌, Some, List, [], ◌∷◌, ◌++◌, append_assoc, length}
use Rattle.std.proofs.Common.{arith}
use Rattle.std.specs.Prelude.{is_some}
use Rattle.cc_names.specs.declared.replies.UnitLine.{UnitLine}
use Rattle.cc_names.specs.declared.steps.UnitEnd.TheVariants.{Kept}
use Rattle.cc_names.specs.declared.units.Unit.{Unit}
use Rattle.base_model.specs.Rows.{Base}
use Rattle.legal_history.specs.Builds.Active.{Build, Came, Started, Concluded, Given, came_to, object_of}
use Rattle.legal_history.specs.Builds.Freshness.{Agrees}
use Rattle.legal_history.specs.Builds.Serials.{Outcome, Made, Without, Finished}
use Rattle.legal_history.specs.Builds.Replied.{digest_at, word_of_object, word_of_end, word_of_came, word_of_outcome}
use Rattle.legal_history.specs.Builds.Replied.{reported_targets, has_outputs, unit_lines_of, lines_from, finished_from}

-- the words are the same where the outcome agrees
same_word : (b : Base) (build : Build) (unit : Unit) (path : List ℕ) (came : Came) (outcome : Outcome)
    → Agrees b unit came outcome →
    Some (word_of_outcome b build path unit.targets (Some came) outcome) ≡ word_of_came b build path (Some came)
same_word b build unit path (Given id) (Made outputs) h = ap (λ o. Some (word_of_object b build (Some (Given id)) (digest_at o)))
    (sym (h.texts path))
same_word b build unit path (Given id) (Without end) h = absurd h
same_word b build unit path (Concluded end) (Without other) h = ap (λ e. Some (word_of_end b path e)) (sym h.0)
same_word b build unit path (Concluded (Kept id)) (Made outputs) h = ap
    (λ o. Some (word_of_object b build (Some (Concluded (Kept id))) (digest_at o))) (sym (h.texts path))
same_word b build unit path (Concluded end) (Made outputs) h = absurd h
same_word b build unit path Started outcome h = absurd h

-- a unit has an object exactly where it is made from nothing
made_same : (b : Base) (unit : Unit) (came : Came) (outcome : Outcome) → Agrees b unit came outcome
    → has_outputs outcome ≡ is_some (object_of (Some came))
made_same b unit (Given id) (Made outputs) h = refl
made_same b unit (Given id) (Without end) h = absurd h
made_same b unit (Concluded end) (Without other) h = sym (ap is_some h.1)
made_same b unit (Concluded (Kept id)) (Made outputs) h = refl
made_same b unit (Concluded end) (Made outputs) h = absurd h
made_same b unit Started outcome h = absurd h

-- the lines of unit n
pub same_lines : (b : Base) (build : Build) (n : ℕ) (unit : Unit) (outcome : Outcome) (came : Came) → came_to build n ≡ Some came
    → Agrees b unit came outcome →
    finished_from b build n (record { unit = unit; outcome = outcome } ∷ []) ≡ lines_from b build n (unit ∷ [])
same_lines b build n unit outcome came is h = λ i. unit_lines_of (λ path. word path i) (reported_targets (made i) unit.targets)
    ++ []
  where
    word : (path : List ℕ) → Some (word_of_outcome b build path unit.targets (came_to build n) outcome)
        ≡ word_of_came b build path (came_to build n)
    word path =
        ap (λ o. Some (word_of_outcome b build path unit.targets o outcome)) is ∙ same_word b build unit path came outcome h
        ∙ sym (ap (word_of_came b build path) is)

    made : has_outputs outcome ≡ is_some (object_of (came_to build n))
    made = made_same b unit came outcome h ∙ sym (ap (λ o. is_some (object_of o)) is)

-- lines after lines
pub finished_behind : (b : Base) (build : Build) (k : ℕ) (fs gs : List Finished)
    → finished_from b build k (fs ++ gs) ≡ finished_from b build k fs ++ finished_from b build (k + length fs) gs
finished_behind b build k [] gs = ap (λ m. finished_from b build m gs) here
  where
    here : k ≡ k + 0
    here = omega arith
finished_behind b build k (f ∷ fs) gs =
    ap (λ ls. own ++ ls) (finished_behind b build (k + 1) fs gs)
    ∙ sym (append_assoc own (finished_from b build (k + 1) fs) (finished_from b build ((k + 1) + length fs) gs))
    ∙ ap (λ m. (own ++ finished_from b build (k + 1) fs) ++ finished_from b build m gs) later
  where
    own : List UnitLine
    own = unit_lines_of (λ path. Some (word_of_outcome b build path f.unit.targets (came_to build k) f.outcome))
        (reported_targets (has_outputs f.outcome) f.unit.targets)

    later : (k + 1) + length fs ≡ k + suc (length fs)
    later = omega arith

pub lines_behind : (b : Base) (build : Build) (k : ℕ) (us vs : List Unit)
    → lines_from b build k (us ++ vs) ≡ lines_from b build k us ++ lines_from b build (k + length us) vs
lines_behind b build k [] vs = ap (λ m. lines_from b build m vs) here
  where
    here : k ≡ k + 0
    here = omega arith
lines_behind b build k (u ∷ us) vs =
    ap (λ ls. own ++ ls) (lines_behind b build (k + 1) us vs)
    ∙ sym (append_assoc own (lines_from b build (k + 1) us) (lines_from b build ((k + 1) + length us) vs))
    ∙ ap (λ m. (own ++ lines_from b build (k + 1) us) ++ lines_from b build m vs) later
  where
    own : List UnitLine
    own = unit_lines_of (λ path. word_of_came b build path (came_to build k))
        (reported_targets (is_some (object_of (came_to build k))) u.targets)

    later : (k + 1) + length us ≡ k + suc (length us)
    later = omega arith
