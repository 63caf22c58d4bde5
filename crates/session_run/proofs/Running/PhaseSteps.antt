-- A phase that begins, and the story that goes on within it.
use Rattle.std.proofs.Common.{◌≡◌, ℕ, inr, true, List, [], ◌∷◌, ◌++◌, refl, ap, ◌∙◌}
use Rattle.std.specs.Prelude.{Result, Ok, Err, OnOk, OnErr}
use Rattle.std.proofs.lemmas.List.{append-nil}
use Rattle.cc_names.specs.declared.commands.Phase.{Phase}
use Rattle.cc_names.specs.declared.steps.StoryStep.{StoryStep}
use Rattle.cc_names.specs.declared.steps.StoryStep.TheVariants as story_steps
use Rattle.legal_history.specs.Stories.States.{start, all_done}
use Rattle.legal_history.specs.Stories.Steps.{after, state_of}
use Rattle.legal_history.proofs.Stories.Prefixes.{state_goes_on}
use Rattle.base_core.specs.Story.Replying.{no_replies, replies_after}
use Rattle.session_run.specs.Running.Phases.{Goes, GoesInPhase, RunsPhase, LeavesPhase}
use Rattle.session_run.specs.Story.Begun.{phases_begun, moments_begun, first_step, is_opened}
use Rattle.session_run.specs.Story.Rendered.{earlier_phases, last_ended_phase, replies_over}
use Rattle.session_run.proofs.Story.MoreSteps.{phases_more, moments_more, closed_more, first_more}

ends_opened : (story : List StoryStep) (x : StoryStep) → is_opened (story ++ x ∷ []) ≡ true
ends_opened [] x = refl
ends_opened (y ∷ story) x = refl

-- a phase that begins
pub phase_begins : (old new : List StoryStep) (phase : Phase) (moment : ℕ) → new ≡ old ++ story_steps.PhaseBegun phase moment ∷ []
    → GoesInPhase phase moment old new
phase_begins old new phase moment is =
    let x = story_steps.PhaseBegun phase moment in
    let state : state_of new ≡ after (state_of old) x = ap state_of is ∙ state_goes_on start old (x ∷ []) in
    record {
      phases = ap phases_begun is ∙ phases_more old (x ∷ []);
      moments = ap moments_begun is ∙ moments_more old (x ∷ []);
      is_last = ap (λ s. s.phase) state;
      number = ap (λ s. s.number) state;
      first = λ before. ap first_step is ∙ first_more old (x ∷ []) before;
      opened = ap is_opened is ∙ ends_opened old x;
      earlier = ap (λ story. earlier_phases story) is ∙ closed_more replies_after start no_replies old (x ∷ [])
          ∙ ap (λ ps. earlier_phases old ++ ps) (append-nil (last_ended_phase (state_of old)
          (replies_over replies_after start no_replies old)));
    }

-- and it goes on
phase_goes_on : (old now new : List StoryStep) (phase : Phase) (moment : ℕ) → GoesInPhase phase moment old now → Goes now new
    → GoesInPhase phase moment old new
phase_goes_on old now new phase moment begun goes = record {
  phases = goes.phases ∙ begun.phases;
  moments = goes.moments ∙ begun.moments;
  is_last = goes.phase ∙ begun.is_last;
  number = goes.number ∙ begun.number;
  first = λ before. goes.first ∙ begun.first before;
  opened = goes.opened ∙ begun.opened;
  earlier = goes.earlier ∙ begun.earlier;
}

phase_runs : (old now new : List StoryStep) (phase : Phase) (moment : ℕ) → now ≡ old ++ story_steps.PhaseBegun phase moment ∷ []
    → Goes now new → all_done (state_of new) ≡ true → RunsPhase phase moment old new
phase_runs old now new phase moment is goes finished =
    record { goes = phase_goes_on old now new phase moment (phase_begins old now phase moment is) goes; finished = finished }

phase_leaves : (old now new : List StoryStep) (phase : Phase) (moment : ℕ) → now ≡ old ++ story_steps.PhaseBegun phase moment ∷ []
    → Goes now new → LeavesPhase phase moment old new
phase_leaves old now new phase moment is goes =
    inr (phase_goes_on old now new phase moment (phase_begins old now phase moment is) goes)

-- by what running the lanes answered
pub runs_by : {A E : Type 0} (result : Result A E) (old now new : List StoryStep) (phase : Phase) (moment : ℕ)
    → now ≡ old ++ story_steps.PhaseBegun phase moment ∷ [] → Goes now new → OnOk result (all_done (state_of new) ≡ true)
    → OnOk result (RunsPhase phase moment old new)
runs_by (Ok a) old now new phase moment is goes finished = phase_runs old now new phase moment is goes finished
runs_by (Err fault) old now new phase moment is goes finished = tt

pub leaves_by : {A E : Type 0} (result : Result A E) (old now new : List StoryStep) (phase : Phase) (moment : ℕ)
    → now ≡ old ++ story_steps.PhaseBegun phase moment ∷ [] → Goes now new → OnErr result (LeavesPhase phase moment old new)
leaves_by (Ok a) old now new phase moment is goes = tt
leaves_by (Err fault) old now new phase moment is goes = phase_leaves old now new phase moment is goes
