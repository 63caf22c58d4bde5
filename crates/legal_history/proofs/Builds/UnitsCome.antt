-- What a unit of an active build comes to by a lawful step agrees with the build from nothing.
use Rattle.std.proofs.Common.{◌≡◌, refl, ap, sym, subst, ◌∙◌, ℕ, false, Option, Some, None, Result, Ok, Err, List, ◌∷◌}
use Rattle.std.specs.Prelude.{is_some}
use Rattle.cc_names.specs.Formed.{Plain}
use Rattle.cc_names.specs.declared.refusals.ScriptFault.{ScriptFault}
use Rattle.cc_names.specs.declared.refusals.UnitFault.TheVariants as unit_faults
use Rattle.cc_names.specs.declared.rows.Tag.{Tag}
use Rattle.cc_names.specs.declared.steps.UnitEnd.{UnitEnd}
use Rattle.cc_names.specs.declared.steps.UnitEnd.TheVariants as ends
use Rattle.cc_names.specs.declared.units.Unit.{Unit}
use Rattle.script_grammar.specs.Lines.{script_of}
use Rattle.script_grammar.specs.declared.lines.Line.{Line}
use Rattle.base_model.specs.Rows.{Base, size, first_rows}
use Rattle.legal_history.specs.Builds.Active.{Build, Started, Concluded, Given, build_of, came_to, is_outcome, object_of, unit_at}
use Rattle.legal_history.specs.Builds.Choices.{here, visible}
use Rattle.base_model.specs.Texts.{text_of_row}
use Rattle.legal_history.specs.Builds.Fresh.{outcome_of_run, script_text}
use Rattle.legal_history.specs.Builds.Freshness.{Agrees, AgreesSoFar, early_from_nothing}
use Rattle.legal_history.specs.Builds.Consistency.{IsReady}
use Rattle.legal_history.specs.Stories.States.{State}
use Rattle.legal_history.specs.Stories.Steps.{came_by_starting, came_of_unit}
use Rattle.legal_history.specs.Builds.Turns.{early, came_by_start, unreadable, script_fault_of}
use Rattle.legal_history.proofs.Builds.FreshSeen.{early_same}
use Rattle.legal_history.proofs.Builds.AgreeStays.{MayCome}
use Rattle.legal_history.proofs.Builds.ConsistentStays.{keeps_with, keeps_without}
use Rattle.legal_history.proofs.Builds.Published.{IsPublish, given_agrees, published_object}
use Rattle.legal_history.proofs.Builds.ReadyUnits.{outcome_by_end, outcome_by_run, unreadable_fails}

-- a running unit was ready when it was started, and nothing ended it early
record IsUnderWay (b : Base) (build : Build) (n : ℕ) (unit : Unit) : Type 0 where
  ready : IsReady build unit
  early : early_from_nothing (first_rows build.rows b) build n unit ≡ None

under_way : (b : Base) (build : Build) (n : ℕ) (unit : Unit) → AgreesSoFar b build → unit_at build n ≡ Some unit
    → came_to build n ≡ Some Started → IsUnderWay b build n unit
under_way b build n unit h is started = record {
  ready = h.consistent.ready n unit is (ap is_some started);
  early = h.runs n unit is started;
}

-- what the start of an open unit comes to
pub start_came : (s : State) (tag : Tag) (n : ℕ) (build : Build) (unit : Unit) → build_of s.active tag.lane ≡ Some build
    → unit_at build n ≡ Some unit →
    came_by_starting (build_of s.active tag.lane) n ≡ came_by_start (unreadable unit)
start_came s tag n build unit is of_n = ap (λ o. came_by_starting o n) is ∙ ap came_of_unit of_n

-- which is no object
pub start_without : (fault : Option ScriptFault) → object_of (Some (came_by_start fault)) ≡ None
start_without None = refl
start_without (Some fault) = refl

pub start_may : (b : Base) (build : Build) (n : ℕ) (unit : Unit) → AgreesSoFar b build → unit_at build n ≡ Some unit
    → is_outcome (came_to build n) ≡ false → IsReady build unit →
    early_from_nothing (first_rows build.rows b) build n unit ≡ None → MayCome b build n unit (came_by_start (unreadable unit))
start_may b build n unit h is waits ready early = by (script_of (script_text unit.script)) refl
  where
    by : (r : Result (List Line) ScriptFault) → script_of (script_text unit.script) ≡ r
        → MayCome b build n unit (came_by_start (script_fault_of r))
    by (Ok lines) read = record {
      keeps = keeps_without b build n unit Started is waits ready refl;
      runs = λ e. early;
      agrees = λ over. absurd (cc);
    }
    by (Err fault) read = record {
      keeps = keeps_without b build n unit (Concluded (ends.Failed (unit_faults.Script fault))) is waits ready refl;
      runs = λ e. early;
      agrees = λ over. subst (Agrees b unit (Concluded (ends.Failed (unit_faults.Script fault))))
          (sym (outcome_by_run b build n unit h ready early
          ∙ ap outcome_of_run (unreadable_fails (script_text unit.script) unit.targets
          (λ path. text_of_row b path (visible b build n unit path)) fault read)))
          (refl, refl);
    }

-- a unit that ends early
pub early_may : (b : Base) (build : Build) (n : ℕ) (unit : Unit) (end : UnitEnd) → AgreesSoFar b build
    → unit_at build n ≡ Some unit → is_outcome (came_to build n) ≡ false → IsReady build unit →
    early b build unit ≡ Some end → object_of (Some (Concluded end)) ≡ None → MayCome b build n unit (Concluded end)
early_may b build n unit end h is waits ready ended plain = record {
  keeps = keeps_without b build n unit (Concluded end) is waits ready plain;
  runs = λ e. absurd (cc);
  agrees = λ over. subst (Agrees b unit (Concluded end))
      (sym (outcome_by_end (first_rows build.rows b) build n unit end (sym (early_same b build n unit h is ready) ∙ ended)))
      (refl, plain);
}

-- a unit whose run fails
pub fails_may : (b : Base) (build : Build) (n : ℕ) (unit : Unit) (fault : ScriptFault) → AgreesSoFar b build
    → unit_at build n ≡ Some unit → is_outcome (came_to build n) ≡ false → came_to build n ≡ Some Started →
    (here b build n unit).result ≡ Err fault → MayCome b build n unit (Concluded (ends.Failed (unit_faults.Script fault)))
fails_may b build n unit fault h is waits started fails =
    let way = under_way b build n unit h is started in
    record {
      keeps = keeps_without b build n unit (Concluded (ends.Failed (unit_faults.Script fault))) is waits way.ready refl;
      runs = λ e. absurd (cc);
      agrees = λ over. subst (Agrees b unit (Concluded (ends.Failed (unit_faults.Script fault))))
          (sym (outcome_by_run b build n unit h way.ready way.early ∙ ap outcome_of_run fails)) (refl, refl);
    }

pub given_may : (row : Plain) (b : Base) (build : Build) (n : ℕ) (unit : Unit) → AgreesSoFar b build → unit_at build n ≡ Some unit
    → is_outcome (came_to build n) ≡ false → came_to build n ≡ Some Started →
    IsPublish b build n unit row.deed → MayCome (row ∷ b) build n unit (Given (size b))
given_may row b build n unit h is waits started p =
    let way = under_way b build n unit h is started in
    record {
      keeps = keeps_with (row ∷ b) build n (size b) unit (Given (size b)) is waits way.ready refl
          (published_object row b build n unit p);
      runs = λ e. absurd (cc);
      agrees = λ over. given_agrees row b build n unit h way.ready way.early p;
    }
