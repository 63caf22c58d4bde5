-- What comes next for a unit of a lane's build, by what is kept of the build.
use Rattle.std.proofs.Common.{◌≡◌, ℕ, ◌<◌, inl, false, Option, Some, None, length, ap, sym, subst}
use Rattle.cc_names.specs.declared.refusals.ScriptFault.{ScriptFault}
use Rattle.cc_names.specs.declared.units.Unit.{Unit}
use Rattle.build_core.specs.UnitSteps as unit_steps
use Rattle.build_core.specs.UnitSteps.{IsUnitStep}
use Rattle.build_core.specs.declared.steps.UnitStep.{UnitStep}
use Rattle.build_core.specs.declared.steps.UnitStep.TheVariants as next
use Rattle.script_grammar.specs.Lines.{script_of}
use Rattle.script_grammar.specs.Run.{carried_out, run_of}
use Rattle.base_model.specs.Rows.{Base, first_rows}
use Rattle.base_model.specs.Texts.{text_of_row}
use Rattle.legal_history.specs.Builds.Active.{Build, build_of, came_to, is_outcome, unit_at}
use Rattle.legal_history.specs.Builds.Choices.{visible}
use Rattle.legal_history.specs.Builds.Fresh.{script_text, sees_file, sees_directory}
use Rattle.legal_history.specs.Builds.Consistency.{IsConsistent}
use Rattle.legal_history.specs.Builds.Serials.{standing_or_file}
use Rattle.legal_history.specs.Stories.States.{State, next_tag}
use Rattle.legal_history.specs.Builds.UnitTurns.{IsOpen, Waits}
use Rattle.legal_history.specs.Builds.Turns.{script_fault_of, standing_of_unit}
use Rattle.base_core.specs.Calls.BuildCalls.{MayStart, StepsTo}
use Rattle.base_core.specs.Calls.Building.{BuildInvariant}
use Rattle.base_core.proofs.Building.Closing.{build_is_by}
use Rattle.base_core.proofs.Building.UnitCalls.{early_is, early_concludes, awaits_earlier, awaits_needed}

-- a unit without an outcome waits
waiting_unit : (s : State) (lane n : ℕ) (build : Build) (unit : Unit) → BuildInvariant s lane build
    → build_of s.active lane ≡ Some build → unit_at build n ≡ Some unit → is_outcome (came_to build n) ≡ false
    → Waits s (next_tag s lane) n build unit
waiting_unit s lane n build unit kept active is waits = record {
  active = build_is_by s lane build active kept.tag;
  is_unit = is;
  waits = waits;
}

-- a unit that nothing ends is open
opens : (s : State) (lane n : ℕ) (build : Build) (unit : Unit) → BuildInvariant s lane build → build_of s.active lane ≡ Some build
    → unit_at build n ≡ Some unit → is_outcome (came_to build n) ≡ false
    → unit_steps.IsUnitOpen (first_rows build.rows s.base) build unit → IsOpen s (next_tag s lane) n build unit
opens s lane n build unit kept active is waits runs = record {
  waits = waiting_unit s lane n build unit kept active is waits;
  faultless = kept.faultless;
  ready = runs.ready;
  runs = runs.runs;
}

-- one that may reuse no object may be started
starts : (s : State) (lane n : ℕ) (build : Build) (unit : Unit) (fault : Option ScriptFault) → BuildInvariant s lane build
    → build_of s.active lane ≡ Some build → n < length build.units → unit_at build n ≡ Some unit
    → is_outcome (came_to build n) ≡ false → unit_steps.IsToRun s.base build n unit
    → fault ≡ script_fault_of (script_of (script_text unit.script)) → MayStart s lane n fault
starts s lane n build unit fault kept active within is waits to_run fault_is = record {
  build = build;
  active = active;
  within = within;
  kept = kept;
  unit = unit;
  open_unit = opens s lane n build unit kept active is waits to_run.open_unit;
  fresh = to_run.fresh;
  nothing = to_run.nothing;
  fault_is = fault_is;
}

-- what comes next, in the words of the calls
pub steps_so : (s : State) (b : Base) (lane n : ℕ) (build : Build) (step : UnitStep) → BuildInvariant s lane build
    → build_of s.active lane ≡ Some build → n < length build.units → IsConsistent s.base build → s.base ≡ b
    → IsUnitStep b build n step → StepsTo s lane n step
steps_so s b lane n build step kept active within consistent same h = here step
    (subst (λ c. IsUnitStep c build n step) (sym same) h)
  where
    here : (step : UnitStep) → IsUnitStep s.base build n step → StepsTo s lane n step
    here next.Concluded h = record { build = build; active = active; outcome = h }
    here (next.NotReady m) h = record {
      build = build;
      active = active;
      unit = h.unit;
      is_unit = h.is_unit;
      needed = awaits_needed build h.unit.prerequisites m h.next.first;
      waits = h.next.waits;
      earlier = awaits_earlier s.base build n m h.unit consistent h.is_unit h.next;
    }
    here (next.EndEarly end) h = record {
      build = build;
      active = active;
      within = within;
      kept = kept;
      waits = h.waits;
      concludes = early_concludes s (next_tag s lane) n end
          (early_is (sees_directory (first_rows build.rows s.base) build.view)
          (λ path. standing_or_file (sees_file (first_rows build.rows s.base) build.view path) (standing_of_unit build path))
          h.unit end h.next.ends)
          (record {
            build = build;
            unit = h.unit;
            waits = waiting_unit s lane n build h.unit kept active h.is_unit h.waits;
            faultless = kept.faultless;
            ready = h.next.ready;
            ends = h.next.ends;
          });
    }
    here (next.Keep id) h = record {
      build = build;
      active = active;
      within = within;
      kept = kept;
      waits = h.waits;
      concludes = record {
        build = build;
        unit = h.unit;
        open_unit = opens s lane n build h.unit kept active h.is_unit h.waits
            h.next.open_unit;
        chosen = h.next.chosen;
        holds = h.next.holds;
      };
    }
    here (next.Wink id) h = record {
      build = build;
      active = active;
      within = within;
      kept = kept;
      unit = h.unit;
      may = inl (opens s lane n build h.unit kept active h.is_unit h.waits h.next.open_unit);
      chosen = h.next.chosen;
      lacks = h.next.lacks;
    }
    here (next.Start script targets) h = (
      starts s lane n build h.unit None kept active within h.is_unit h.waits h.next.to_run
          (sym (ap script_fault_of h.next.script_is)),
      record {
        build = build;
        active = active;
        unit = h.unit;
        is_unit = h.is_unit;
        script_is = h.next.script_is;
        targets_are = h.next.targets_are;
      },
    )
    here (next.Unreadable fault) h = starts s lane n build h.unit (Some fault) kept active within h.is_unit h.waits h.next.to_run
        (sym (ap script_fault_of h.next.fault_is))
    here (next.Run script targets) h = record {
      has = record {
        build = build;
        active = active;
        unit = h.unit;
        is_unit = h.is_unit;
        script_is = h.next.script_is;
        targets_are = h.next.targets_are;
      };
      started = h.next.started;
    }
    here (next.Fail fault) h = record {
      build = build;
      active = active;
      within = within;
      kept = kept;
      waits = h.waits;
      concludes = record {
        build = build;
        unit = h.unit;
        running = record {
          waits = waiting_unit s lane n build h.unit kept active h.is_unit h.waits;
          faultless = kept.faultless;
          started = h.next.started;
        };
        fails = ap (λ read. (carried_out (λ path. text_of_row s.base path (visible s.base build n h.unit path))
            (run_of h.unit.targets read)).result) h.next.fault_is;
      };
    }
