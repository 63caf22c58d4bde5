-- The build that is found in a lane's slot: what is kept of it, and how a unit of it goes on.
use Rattle.std.proofs.Common.{◌≡◌, ℕ, inl, inr, true, false, Some, Result, Ok, Err, List, refl, ap, sym, subst, ◌∙◌}
use Rattle.std.specs.Prelude.{IfOk, Option, None, is_some, slice_get}
use Rattle.std.proofs.lemmas.Option.{slice_get_within}
use Rattle.cc_names.specs.declared.refusals.ScriptFault.{ScriptFault}
use Rattle.cc_names.specs.declared.refusals.UnitFault.TheVariants as faults
use Rattle.cc_names.specs.declared.steps.StoryStep.{StoryStep}
use Rattle.cc_names.specs.declared.steps.UnitEnd.{UnitEnd}
use Rattle.cc_names.specs.declared.steps.UnitEnd.TheVariants as ends
use Rattle.script_grammar.specs.Run.{Ran}
use Rattle.script_grammar.specs.declared.lines.Line.{Line}
use Rattle.legal_history.specs.Builds.Active.{Build, Came, Started, Concluded, Given, build_of, came_to, is_outcome}
use Rattle.legal_history.specs.Builds.Reuse.{reusable}
use Rattle.legal_history.specs.Builds.UnitTurns.{IsRunning}
use Rattle.legal_history.specs.Laws.FromNothing.{MayTake}
use Rattle.legal_history.specs.Laws.TakenLaws.{FoundAfterTheStartIsNotHeld}
use Rattle.legal_history.specs.Stories.Lawful.{Legal}
use Rattle.legal_history.specs.Stories.States.{State, next_tag}
use Rattle.legal_history.specs.Stories.Steps.{state_of}
use Rattle.clearmake.specs.Calls.{HasScript, IsCarried, IsRunOfUnit, IsStarted, StartsOnce, Tries}
use Rattle.base_core.specs.Calls.BuildCalls.{MayConclude, MayStart, MayWink, HasRun, Noted}
use Rattle.base_core.specs.Calls.Building.{BuildInvariant}
use Rattle.clearmake.specs.declared.turns.TurnEnd.{TurnEnd}
use Rattle.clearmake.specs.declared.turns.TurnEnd.TheVariants as turn_ends
use Rattle.clearmake.specs.declared.turns.UnitTurn.TheVariants as turns
use Rattle.clearmake.specs.Going.{BuildsOn, GoesOn, HasOutcome}
use Rattle.base_core.specs.Keeping.CoreInvariants.{CoreInvariant}
use Rattle.base_core.specs.Keeping.Lanes.{LaneState}
use Rattle.story_log.specs.Logging.Logs.{Logged}
use Rattle.base_core.proofs.Building.Closing.{build_is_by}
use Rattle.story_log.proofs.Cases.{some_same}

-- what holds of a value that was answered
pub if_ok : {A E : Type 0} (r : Result A E) (P Q : A → Type 0) → ((a : A) → P a → Q a) → IfOk r P → IfOk r Q
if_ok (Ok a) P Q f h = f a h
if_ok (Err e) P Q f h = h

-- the build of a lane is kept
pub build_preserved : (log : Logged) (lanes : List LaneState) (now : ℕ) (story : List StoryStep) (lane : ℕ) (build : Build)
    → log.story ≡ story → CoreInvariant log lanes now → build_of (state_of story).active lane ≡ Some build
    → BuildInvariant (state_of story) lane build
build_preserved log lanes now story lane build same h is = subst (λ t. BuildInvariant (state_of t) lane build) same
    (h.builds.kept lane build (ap (λ t. build_of (state_of t).active lane) same ∙ is))

-- a unit that had come to nothing, and whose script was started, has it still
pub started_has : (old new : List StoryStep) (lane n : ℕ) (script : List Line) (targets : List (List ℕ))
    → MayStart (state_of old) lane n None → HasScript (state_of old) lane n script targets → Noted old new lane n Started
    → GoesOn old new lane × IsStarted (state_of new) lane n script targets × StartsOnce old new lane n
started_has old new lane n script targets may has noted =
    let still : BuildsOn (state_of new) lane has.build = noted.goes.still has.build has.active in
    let units : noted.build.units ≡ has.build.units = ap (λ b. b.units) (some_same noted.build still.build (sym noted.active
    ∙ still.active)) ∙ still.units in (
      noted.goes,
      record {
        has = record {
          build = noted.build;
          active = noted.active;
          unit = has.unit;
          is_unit = ap (λ us. slice_get us n) units
              ∙ has.is_unit;
          script_is = has.script_is;
          targets_are = has.targets_are;
        };
        started = noted.came_to_it;
      },
      (λ build is some. absurd (let none : is_some (came_to build n) ≡ false = ap (λ b. is_some (came_to b n))
          (some_same build may.build (sym is ∙ may.active)) ∙ ap is_some may.fresh in cc)),
    )

-- a unit that may come to something by a step has no outcome
waits_still : (s : State) (lane n : ℕ) (build : Build) → build_of s.active lane ≡ Some build
    → is_outcome (came_to build n) ≡ false → HasOutcome s lane n → ⊥
waits_still s lane n build active waits has =
    let same : has.build ≡ build = some_same has.build build (sym has.active ∙ active) in
    let told : is_outcome (came_to build n) ≡ true = ap (λ b. is_outcome (came_to b n)) (sym same) ∙ has.outcome in
    cc

pub concludes_waiting : (s : State) (lane n : ℕ) (end : UnitEnd) → MayConclude s lane n end → HasOutcome s lane n → ⊥
concludes_waiting s lane n end may has = waits_still s lane n may.build may.active may.waits has

pub starts_waiting : (s : State) (lane n : ℕ) (fault : Option ScriptFault) → MayStart s lane n fault → HasOutcome s lane n → ⊥
starts_waiting s lane n fault may has = waits_still s lane n may.build may.active (ap is_outcome may.fresh) has

pub winks_waiting : (s : State) (lane n id : ℕ) → MayWink s lane n id → HasOutcome s lane n → ⊥
winks_waiting s lane n id may has = waits_still s lane n may.build may.active (by may.may) has
  where
    by : MayTake s (next_tag s lane) n may.build may.unit → is_outcome (came_to may.build n) ≡ false
    by (inl ready) = ready.waits.waits
    by (inr running) = running.waits.waits

-- a unit whose script was run is running
runs_so : (s : State) (lane n : ℕ) (ran : Ran) (h : HasRun s lane n ran) → IsRunning s (next_tag s lane) n h.build h.unit
runs_so s lane n ran h = record {
  waits = record {
    active = build_is_by s lane h.build h.active h.kept.tag;
    is_unit = h.is_unit;
    waits = ap is_outcome h.started;
  };
  faultless = h.kept.faultless;
  started = h.started;
}

-- where its run failed, it may be concluded so
pub fails_so : (s : State) (lane n : ℕ) (ran : Ran) (fault : ScriptFault) → HasRun s lane n ran → ran.result ≡ Err fault
    → MayConclude s lane n (ends.Failed (faults.Script fault))
fails_so s lane n ran fault h failed = record {
  build = h.build;
  active = h.active;
  within = slice_get_within h.build.units n h.unit h.is_unit;
  kept = h.kept;
  waits = ap is_outcome h.started;
  concludes = record {
    build = h.build;
    unit = h.unit;
    running = runs_so s lane n ran h;
    fails = ap (λ r. r.result) (sym h.run)
        ∙ failed;
  };
}

-- an object that it may reuse by now may be winked in, by the law that its view does not hold it
pub finds_so : (story : List StoryStep) (lane n object : ℕ) (ran : Ran) → Legal story → FoundAfterTheStartIsNotHeld
    → (h : HasRun (state_of story) lane n ran) → reusable (state_of story).base h.build n h.unit ≡ Some object
    → MayWink (state_of story) lane n object
finds_so story lane n object ran legal law h chosen =
    let runs = runs_so (state_of story) lane n ran h in
    record {
      build = h.build;
      active = h.active;
      within = slice_get_within h.build.units n h.unit h.is_unit;
      kept = h.kept;
      unit = h.unit;
      may = inr runs;
      chosen = chosen;
      lacks = law story (next_tag (state_of story) lane) n h.build h.unit object legal runs chosen;
    }

-- what a call found that did not fail
pub found_is : {A E : Type 0} (r : Result A E) (a : A) (P : A → Type 0) → r ≡ Ok a → IfOk r P → P a
found_is r a P is h = subst (λ r. IfOk r P) is h

-- what became of a unit that was tried, and whose outcome was at hand
pub carried_tries : (old new : List StoryStep) (lane n : ℕ) (end : TurnEnd) → IsCarried old new lane n end
    → Tries old new lane n (turns.End end)
carried_tries old new lane n turn_ends.Concluded h = h
carried_tries old new lane n (turn_ends.NotReady m) h = absurd h
carried_tries old new lane n turn_ends.Over h = h

-- a unit that was started and has no outcome is running
started_still : (came : Option Came) → is_some came ≡ true → is_outcome came ≡ false → came ≡ Some Started
started_still None some waits = absurd (cc)
started_still (Some Started) some waits = refl
started_still (Some (Concluded end)) some waits = absurd (cc)
started_still (Some (Given id)) some waits = absurd (cc)

-- and this is its run
pub has_run : (s : State) (lane n : ℕ) (ran : Ran) (build : Build) → IsRunOfUnit s lane n ran
    → build_of s.active lane ≡ Some build → BuildInvariant s lane build → is_outcome (came_to build n) ≡ false
    → HasRun s lane n ran
has_run s lane n ran build h active kept waits =
    let is : build ≡ h.build = some_same build h.build (sym active ∙ h.active) in
    record {
      build = h.build;
      active = h.active;
      unit = h.unit;
      is_unit = h.is_unit;
      started = started_still (came_to h.build n) h.started (subst (λ b. is_outcome (came_to b n) ≡ false) is waits);
      kept = subst (BuildInvariant s lane) is kept;
      run = h.run;
    }
