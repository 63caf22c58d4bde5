-- What is kept, and how the story went on, where a build begins, and where a command is refused.
use Rattle.std.proofs.Common.{◌≡◌, ℕ, Some, Ok, List, [], ◌∷◌, ◌++◌, length, refl, ap, sym, subst, ◌∙◌, arith}
use Rattle.std.specs.Ordering.{nat_cmp}
use Rattle.std.specs.FinMap.Entries.{put}
use Rattle.cc_names.specs.declared.occasions.Done.TheVariants as dones
use Rattle.cc_names.specs.declared.rows.Tag.{Tag}
use Rattle.cc_names.specs.declared.steps.StoryStep.{StoryStep}
use Rattle.cc_names.specs.declared.steps.StoryStep.TheVariants as story_steps
use Rattle.base_model.specs.Rows.{size}
use Rattle.base_model.proofs.Tables.{find_put_same}
use Rattle.legal_history.specs.Builds.Active.{Build, build_of}
use Rattle.legal_history.specs.Commands.Decisions.{Begins}
use Rattle.legal_history.specs.Stories.States.{State, start, done_of, with_done, next_tag}
use Rattle.legal_history.specs.Stories.Steps.{after, build_begun_by, state_of, with_build}
use Rattle.legal_history.proofs.Stories.LaterSteps.{own_done}
use Rattle.base_core.specs.Calls.Acting.{Acts, IsStepOf}
use Rattle.clearmake.specs.Calls.{IsBuilding}
use Rattle.base_core.specs.Calls.Building.{IsNextBuild}
use Rattle.clearmake.specs.Going.{GoesOn, Finishes, lane_of}
use Rattle.base_core.specs.Keeping.CoreInvariants.{CoreInvariant}
use Rattle.base_core.specs.Keeping.Lanes.{LaneState, put_build}
use Rattle.story_log.specs.Logging.Logs.{Logged, with_step}
use Rattle.story_log.proofs.Story.Growing.{state_from-more}
use Rattle.base_core.proofs.Keeping.Idle.{decided_is_free, not_both}
use Rattle.base_core.proofs.Keeping.LaneCounts.{done_other}
use Rattle.base_core.proofs.Building.BuildBegins.{preserved_begin}

-- what is kept where a build begins
pub preserved_opened : (log : Logged) (lanes : List LaneState) (now rows count : ℕ) (story : List StoryStep) (tag : Tag)
    (build : Build) → log.story ≡ story → CoreInvariant log lanes now → IsNextBuild (state_of story) build → tag ≡ build.tag
    → rows ≡ build.rows → count ≡ length build.units
    → CoreInvariant (with_step log (story_steps.Begin tag rows count)) (put_build lanes tag.lane (Some build)) now
preserved_opened log lanes now rows count story tag build same h next tagged at_rows counted =
    let s = state_of log.story in
    let here : IsNextBuild s build = subst (λ t. IsNextBuild (state_of t) build) (sym same) next in
    subst (λ t. CoreInvariant (with_step log (story_steps.Begin t rows count)) (put_build lanes t.lane (Some build)) now) (sym tagged)
    (subst (λ r. CoreInvariant (with_step log (story_steps.Begin build.tag r count)) (put_build lanes build.tag.lane (Some build)) now)
    (sym (at_rows ∙ here.at_rows))
    (subst (λ c. CoreInvariant (with_step log (story_steps.Begin build.tag (size s.base) c))
    (put_build lanes build.tag.lane (Some build)) now) (sym counted)
    (preserved_begin log lanes now build.tag build h here.of_next.from (omega (arith, here.of_next.upto, h.replies.count))
    here.made here.begins here.kept here.room)))

-- how the story went on
pub opened_so : (log : Logged) (rows count : ℕ) (story : List StoryStep) (tag : Tag) (build : Build) → log.story ≡ story
    → IsNextBuild (state_of story) build → tag ≡ build.tag → GoesOn story (with_step log (story_steps.Begin tag rows count)).story
    build.tag.lane × IsBuilding (state_of (with_step log (story_steps.Begin tag rows count)).story) build.tag.lane (length build.units)
opened_so log rows count story tag build same next tagged = (
  record {
    steps = x ∷ [];
    grows = ap (λ t. t ++ x ∷ []) same;
    one = ap (λ (t : Tag). Some t.lane) tagged;
    phase = record { phase = ap (λ t. t.phase) state; number = ap (λ t. t.number) state; moment = ap (λ t. t.moment) state };
    done = ap (λ t. t.done) state;
    still = λ other is. absurd (not_both (build_of s.active build.tag.lane) other
        (decided_is_free s build.tag (Ok (Begins build.units)) next.made) is);
  },
  record {
    build = build;
    active = ap (λ t. build_of t.active build.tag.lane) state
        ∙ find_put_same build.tag.lane build s.active;
    of_units = refl;
    few = next.kept.formed.few;
  },
)
  where
    s : State
    s = state_of story

    x : StoryStep
    x = story_steps.Begin tag rows count

    state : state_of (log.story ++ x ∷ []) ≡ record s { active = put nat_cmp build.tag.lane build s.active }
    state = ap (λ t. state_of (t ++ x ∷ [])) same ∙ state_from-more start story x
        ∙ ap (λ t. record s { active = with_build s.active t.lane (build_begun_by s t) }) tagged
        ∙ ap (λ o. record s { active = with_build s.active build.tag.lane o }) next.begins

-- a step that finishes a command of a lane, and leaves the last phase and its other lanes as they are
step_finishes : (old new : List StoryStep) (lane : ℕ) (step : StoryStep) → new ≡ old ++ step ∷ [] → lane_of step ≡ Some lane
    → (after (state_of old) step).phase ≡ (state_of old).phase → (after (state_of old) step).number ≡ (state_of old).number
    → (after (state_of old) step).moment ≡ (state_of old).moment → (after (state_of old) step).done
    ≡ with_done (state_of old).done lane → Finishes old new lane
step_finishes old new lane step e own phase number moment done =
    let state : state_of new ≡ after (state_of old) step = ap state_of e ∙ state_from-more start old step in
    record {
      steps = step ∷ [];
      grows = e;
      one = own;
      phase = record {
        phase = ap (λ t. t.phase) state ∙ phase;
        number = ap (λ t. t.number) state
            ∙ number;
        moment = ap (λ t. t.moment) state ∙ moment;
      };
      done = ap (λ t. done_of t.done lane) state ∙ ap (λ d. done_of d lane) done ∙ own_done (state_of old).done lane;
      others = λ other differs. ap (λ t. done_of t.done other) state ∙ ap (λ d. done_of d other) done
          ∙ done_other (state_of old).done lane other differs;
    }

-- a lane's command that was refused is finished
pub refused_finishes : (old new : List StoryStep) (lane : ℕ) → Acts old new lane dones.Refused → Finishes old new lane
refused_finishes old new lane acts = by acts.step acts.grows acts.is
  where
    by : (step : StoryStep) → new ≡ old ++ step ∷ [] → IsStepOf (state_of old) (next_tag (state_of old) lane) dones.Refused step
        → Finishes old new lane
    by (story_steps.Refused tag refusal) e is = step_finishes old new lane
        (story_steps.Refused tag refusal) e (ap (λ (t : Tag). Some t.lane) is.0) refl refl refl
        (ap (λ t. with_done (state_of old).done t.lane) is.0)
    by step e is = absurd is
