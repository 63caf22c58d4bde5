-- A build that agrees so far goes on to agree: when a row is added, and when a unit that waits comes to what agrees.
use Rattle.std.proofs.Common.{◌≡◌, refl, sym, subst, ◌∙◌, ℕ, Bool, true, false, ◌==◌, Some, None, List, ◌∷◌}
use Rattle.cc_names.specs.Formed.{Plain}
use Rattle.cc_names.specs.declared.steps.UnitEnd.TheVariants.{Kept}
use Rattle.cc_names.specs.declared.units.Unit.{Unit}
use Rattle.cc_names.proofs.Common.{same_number}
use Rattle.base_model.specs.Rows.{Base, first_rows}
use Rattle.legal_history.specs.Builds.Active.{Build, Came, Started, Concluded, Given, came_to, is_outcome, unit_at}
use Rattle.legal_history.specs.Builds.Freshness.{Agrees, HasOutputs, AgreesSoFar, outcome_in, early_from_nothing}
use Rattle.legal_history.specs.Builds.Serials.{Outcome, Made, Without}
use Rattle.legal_history.specs.Stories.Steps.{with_came}
use Rattle.base_model.proofs.Stay.{first_rows_stay, text_stays}
use Rattle.legal_history.proofs.Builds.ConsistentStays.{IsBegun, KeepsConsistent, begins_consistent, came_now, consistent_came}
use Rattle.legal_history.proofs.Builds.ConsistentStays.{consistent_faulted, consistent_row, none_came, is_object_stays}
use Rattle.legal_history.proofs.Builds.ConsistentStays.{same_unit}

-- an object keeps its outputs when a row is added
has_outputs_stays : (row : Plain) (b : Base) (unit : Unit) (id : ℕ) (outputs : List (List ℕ)) → HasOutputs b unit id outputs
    → HasOutputs (row ∷ b) unit id outputs
has_outputs_stays row b unit id outputs h = record {
  is_object = is_object_stays row b unit id h.is_object;
  texts = λ path. text_stays row b id path h.is_object.below ∙ h.texts path;
  whole = h.whole;
}

agrees_stays : (row : Plain) (b : Base) (unit : Unit) (came : Came) (outcome : Outcome) → Agrees b unit came outcome
    → Agrees (row ∷ b) unit came outcome
agrees_stays row b unit (Given id) (Made outputs) h = has_outputs_stays row b unit id outputs h
agrees_stays row b unit (Given id) (Without end) h = h
agrees_stays row b unit (Concluded end) (Without other) h = h
agrees_stays row b unit (Concluded (Kept id)) (Made outputs) h = has_outputs_stays row b unit id outputs h
agrees_stays row b unit (Concluded end) (Made outputs) h = h
agrees_stays row b unit Started (Made outputs) h = h
agrees_stays row b unit Started (Without end) h = h

pub row_added : (row : Plain) (b : Base) (build : Build) → AgreesSoFar b build → AgreesSoFar (row ∷ b) build
row_added row b build h =
    let same : first_rows build.rows b ≡ first_rows build.rows (row ∷ b) =
    sym (first_rows_stay row b build.rows h.consistent.rows) in
    record {
      consistent = consistent_row row b build h.consistent;
      runs = λ n unit is started. subst (λ rows. early_from_nothing rows build n unit ≡ None) same (h.runs n unit is started);
      agrees = λ n unit came is comes over.
          subst (λ rows. Agrees (row ∷ b) unit came (outcome_in rows build n unit)) same
          (agrees_stays row b unit came _ (h.agrees n unit came is comes over));
    }

pub begins_so : (b : Base) (build : Build) → IsBegun b build → AgreesSoFar b build
begins_so b build h = record {
  consistent = begins_consistent b build h;
  runs = λ n unit is started. absurd (let none = none_came b build n h in cc);
  agrees = λ n unit came is comes over. absurd (let none = none_came b build n h in cc);
}

-- what a unit that waits may come to
pub record MayCome (b : Base) (build : Build) (n : ℕ) (unit : Unit) (came : Came) : Type 0 where
  pub keeps : KeepsConsistent b build n unit came
  pub runs : came ≡ Started → early_from_nothing (first_rows build.rows b) build n unit ≡ None
  pub agrees : is_outcome (Some came) ≡ true → Agrees b unit came (outcome_in (first_rows build.rows b) build n unit)

pub came_so : (b : Base) (build : Build) (n : ℕ) (unit : Unit) (came : Came) → AgreesSoFar b build → MayCome b build n unit came
    → AgreesSoFar b (with_came build (Some n) came)
came_so b build n unit came h may = record {
  consistent = consistent_came b build n unit came h.consistent may.keeps;
  runs = λ m u is started. runs_at m u is started (m == n) refl;
  agrees = λ m u c is comes over. agrees_at m u c is comes over (m == n) refl;
}
  where
    runs_at : (m : ℕ) (u : Unit) → unit_at build m ≡ Some u → came_to (with_came build (Some n) came) m ≡ Some Started
        → (t : Bool) → (m == n) ≡ t → early_from_nothing (first_rows build.rows b) build m u ≡ None
    runs_at m u is started true e =
        let own : Some came ≡ Some Started = sym (came_now build n m came true e) ∙ started in
        subst (λ k. early_from_nothing (first_rows build.rows b) build k u ≡ None) (sym (same_number m n e))
        (subst (λ v. early_from_nothing (first_rows build.rows b) build n v ≡ None)
        (same_unit build n m unit u may.keeps.is_unit e is) (may.runs cc))
    runs_at m u is started false e = h.runs m u is (sym (came_now build n m came false e) ∙ started)

    agrees_at : (m : ℕ) (u : Unit) (c : Came) → unit_at build m ≡ Some u → came_to (with_came build (Some n) came) m ≡ Some c
        → is_outcome (Some c) ≡ true → (t : Bool) → (m == n) ≡ t →
        Agrees b u c (outcome_in (first_rows build.rows b) build m u)
    agrees_at m u c is comes over true e =
        let own : Some came ≡ Some c = sym (came_now build n m came true e) ∙ comes in
        let same : came ≡ c = cc in
        subst (λ k. Agrees b u c (outcome_in (first_rows build.rows b) build k u)) (sym (same_number m n e))
        (subst (λ v. Agrees b v c (outcome_in (first_rows build.rows b) build n v))
        (same_unit build n m unit u may.keeps.is_unit e is)
        (subst (λ d. Agrees b unit d (outcome_in (first_rows build.rows b) build n unit)) same
        (may.agrees (subst (λ d. is_outcome (Some d) ≡ true) (sym same) over))))
    agrees_at m u c is comes over false e = h.agrees m u c is (sym (came_now build n m came false e) ∙ comes) over

-- a build under which the disk failed
pub faulted_agrees : (b : Base) (build : Build) → AgreesSoFar b build → AgreesSoFar b (record build { faulted = true })
faulted_agrees b build h = record { consistent = consistent_faulted b build h.consistent; runs = h.runs; agrees = h.agrees }
