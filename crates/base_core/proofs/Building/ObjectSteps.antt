-- What is kept, and how the story went on, after a row that gives a unit of a lane's build an object.
use Rattle.std.proofs.Common.{◌≡◌, ℕ, true, Some, List, [], ◌∷◌, ◌++◌, refl, ap, sym, subst, ◌∙◌, arith}
use Rattle.std.proofs.lemmas.List.{append-nil}
use Rattle.cc_names.specs.Counts.{rises}
use Rattle.cc_names.specs.Formed.{Plain, IsFormed}
use Rattle.cc_names.specs.declared.rows.Tag.{Tag}
use Rattle.cc_names.specs.declared.steps.StoryStep.{StoryStep}
use Rattle.cc_names.specs.declared.steps.StoryStep.TheVariants as story_steps
use Rattle.disk_model.specs.DiskStates.{DiskState}
use Rattle.base_model.specs.Fits.{fits}
use Rattle.base_model.proofs.Tables.{find_put_same}
use Rattle.legal_history.specs.Builds.Active.{Build, Given, build_of, is_outcome}
use Rattle.legal_history.specs.Laws.BuildLaws.{BuildIsConsistent}
use Rattle.legal_history.specs.Stories.States.{State, start, ticks_of}
use Rattle.legal_history.specs.Stories.Steps.{after, state_of, with_came}
use Rattle.legal_history.proofs.Stories.ConsistentStories.{base_fits}
use Rattle.base_core.specs.Calls.BuildCalls.{GivesObject}
use Rattle.clearmake.specs.Going.{BuildsOn, GoesOn, HasOutcome}
use Rattle.base_core.specs.Keeping.CoreInvariants.{CoreInvariant}
use Rattle.base_core.specs.Keeping.Lanes.{LaneState, build_at, put_build}
use Rattle.story_log.specs.Stopping.Tails.{tail_after_row}
use Rattle.story_log.specs.Logging.Logs.{Logged, with_committed_row}
use Rattle.base_core.specs.Story.Replying.{in_lane, replies_of}
use Rattle.base_core.proofs.Acting.Fitting.{may_fits}
use Rattle.base_core.proofs.Building.Noting.{noted_preserved}
use Rattle.base_core.proofs.Building.UnitNotes.{outcome_noted}
use Rattle.base_core.proofs.Building.UnitRows.{Gives, given_state, gives_so}
use Rattle.story_log.proofs.Cases.{some_same}
use Rattle.base_core.proofs.Keeping.PreservedBuilds.{more_rows}
use Rattle.base_core.proofs.Keeping.PreservedSteps.{preserved_put}
use Rattle.base_core.proofs.Keeping.LaneSlots.{lane_slot}
use Rattle.base_core.proofs.Keeping.Reserving.{rows_for}
use Rattle.story_log.proofs.Story.Growing.{state_from-more}

-- the row in the log's own story
pub gives_here : (log : Logged) (lanes : List LaneState) (now : ℕ) (story : List StoryStep) (lane n : ℕ) (row : Plain)
    (object : ℕ) → log.story ≡ story → CoreInvariant log lanes now → GivesObject (state_of story) lane n row object
    → BuildIsConsistent → Gives (state_of log.story) lane n row object
gives_here log lanes now story lane n row object same h gives consistent =
    gives_so (state_of log.story) lane n row object (base_fits log.story h.story.legal) (h.builds.kept lane)
    (λ build is. consistent log.story lane build h.story.legal is)
    (subst (λ t. GivesObject (state_of t) lane n row object) (sym same) gives)

-- it fits the base
pub object_fits : (log : Logged) (lanes : List LaneState) (now lane n : ℕ) (row : Plain) (object : ℕ)
    → CoreInvariant log lanes now → Gives (state_of log.story) lane n row object → fits log.base row.deed ≡ true
object_fits log lanes now lane n row object h g = subst (λ b. fits b row.deed ≡ true) h.story.base
    (may_fits log.story row h.story.legal g.may)

-- what is kept then
pub preserved_object : (log : Logged) (lanes more : List LaneState) (now lane n : ℕ) (row : Plain) (object tick : ℕ)
    (ghost_state : DiskState) → rises (ticks_of (state_of log.story).opened (state_of log.story).ends) tick ≡ true
    → CoreInvariant log lanes now → Gives (state_of log.story) lane n row object
    → ((build : Build) → build_at lanes lane ≡ Some build → more ≡ put_build lanes lane
    (Some (with_came build (Some n) (Given object)))) → IsFormed row
    → CoreInvariant (with_committed_row log row tick ghost_state) more now
preserved_object log lanes more now lane n row object tick ghost_state ticked h g set_so formed =
    let slot = lane_slot log lanes now lane g.build h g.active in
    subst (λ ls. CoreInvariant (with_committed_row log row tick ghost_state) ls now) (sym (set_so g.build slot.held))
    (preserved_put log lanes now x (row ∷ log.base) ghost_state (tail_after_row log.tail row) lane (with_came g.build (Some n) (Given object)) h slot.from
    slot.upto
    (record {
      lawful = record { may = g.may; ticked = ticked };
      names = formed;
      leads = ap (λ t. t.base) leaves
          ∙ ap (λ b. row ∷ b) h.story.base;
    })
    (record {
      same = record { phase = ap (λ t. t.phase) leaves; number = ap (λ t. t.number) leaves; moment = ap (λ t. t.moment) leaves };
      rows = more_rows s (after s x) row (ap (λ t. t.base) leaves);
      active = ap (λ t. t.active) leaves;
      done = ap (λ t. t.done) leaves;
      said = λ l. ap (λ o. replies_of log.story l ++ in_lane l row.tag o) g.silent ∙ append-nil (replies_of log.story l);
      kept = noted_preserved s lane g.build n (Given object) (h.builds.kept lane g.build g.active);
      room = omega (arith, h.builds.reserves, ap rows_for g.active);
    }))
  where
    s : State
    s = state_of log.story

    x : StoryStep
    x = story_steps.Commit row tick

    leaves : after s x ≡ given_state s lane n g.build row object tick
    leaves = g.leaves tick

-- how the story went on
object_goes : (story : List StoryStep) (lane n : ℕ) (row : Plain) (object tick : ℕ) → Gives (state_of story) lane n row object
    → GoesOn story (story ++ story_steps.Commit row tick ∷ []) lane × HasOutcome
    (state_of (story ++ story_steps.Commit row tick ∷ [])) lane n
object_goes story lane n row object tick g = (
  record {
    steps = x ∷ [];
    grows = refl;
    one = ap (λ (t : Tag). Some t.lane) g.of_tag;
    phase = record { phase = ap (λ t. t.phase) state; number = ap (λ t. t.number) state; moment = ap (λ t. t.moment) state };
    done = ap (λ t. t.done) state;
    still = λ build is. still build (some_same g.build build (sym g.active ∙ is));
  },
  record { build = given; active = active; outcome = ap is_outcome (find_put_same n (Given object) g.build.comes) },
)
  where
    s : State
    s = state_of story

    x : StoryStep
    x = story_steps.Commit row tick

    given : Build
    given = with_came g.build (Some n) (Given object)

    state : state_of (story ++ x ∷ []) ≡ given_state s lane n g.build row object tick
    state = state_from-more start story x ∙ g.leaves tick

    active : build_of (state_of (story ++ x ∷ [])).active lane ≡ Some given
    active = ap (λ t. build_of t.active lane) state ∙ find_put_same lane given s.active

    still : (build : Build) → g.build ≡ build → BuildsOn (state_of (story ++ x ∷ [])) lane build
    still build e = subst (λ b. BuildsOn (state_of (story ++ x ∷ [])) lane b) e
        (record {
          build = given;
          active = active;
          units = refl;
          outcomes = λ m over. outcome_noted g.build n m (Given object)
              g.waits over;
        })

pub object_so : (log : Logged) (story : List StoryStep) (lane n : ℕ) (row : Plain) (object tick : ℕ) (ghost_state : DiskState)
    → log.story ≡ story → Gives (state_of log.story) lane n row object
    → GoesOn story (with_committed_row log row tick ghost_state).story lane
    × HasOutcome (state_of (with_committed_row log row tick ghost_state).story) lane n
object_so log story lane n row object tick ghost_state same g =
    subst (λ t. GoesOn t (log.story ++ story_steps.Commit row tick ∷ []) lane
    × HasOutcome (state_of (log.story ++ story_steps.Commit row tick ∷ [])) lane n) same
    (object_goes log.story lane n row object tick g)
