-- How a story goes on within its last phase, and what a phase does to it.
use Rattle.std.specs.Prelude.{◌≡◌, ℕ, ◌+◌, true, ◌⊎◌, List, [], ◌∷◌, ◌++◌}
use Rattle.cc_names.specs.declared.commands.Phase.{Phase}
use Rattle.cc_names.specs.declared.steps.StoryStep.{StoryStep}
use Rattle.legal_history.specs.Stories.States.{all_done}
use Rattle.legal_history.specs.Stories.Steps.{state_of}
use Rattle.session_run.specs.Story.Begun.{phases_begun, moments_begun, first_step, is_opened}
use Rattle.session_run.specs.Story.Rendered.{earlier_phases, ended_phases}

-- a story that goes on within its last phase
pub record Goes (old new : List StoryStep) : Type 0 where
  pub phases : phases_begun new ≡ phases_begun old
  pub moments : moments_begun new ≡ moments_begun old
  pub phase : (state_of new).phase ≡ (state_of old).phase
  pub number : (state_of new).number ≡ (state_of old).number
  pub earlier : earlier_phases new ≡ earlier_phases old
  pub first : first_step new ≡ first_step old
  pub opened : is_opened new ≡ is_opened old

-- a phase began at a moment, and the story went on within it
pub record GoesInPhase (phase : Phase) (moment : ℕ) (old new : List StoryStep) : Type 0 where
  pub phases : phases_begun new ≡ phases_begun old ++ phase ∷ []
  pub moments : moments_begun new ≡ moments_begun old ++ moment ∷ []
  pub is_last : (state_of new).phase ≡ phase
  pub number : (state_of new).number ≡ (state_of old).number + 1
  pub first : is_opened old ≡ true → first_step new ≡ first_step old
  pub opened : is_opened new ≡ true
  pub earlier : earlier_phases new ≡ ended_phases old

-- a phase began, and all its commands are finished
pub record RunsPhase (phase : Phase) (moment : ℕ) (old new : List StoryStep) : Type 0 where
  pub goes : GoesInPhase phase moment old new
  pub finished : all_done (state_of new) ≡ true

-- memory ran out before a phase began, or in it
abbrev pub LeavesPhase : Phase → ℕ → List StoryStep → List StoryStep → Type 0
LeavesPhase phase moment old new = (new ≡ old) ⊎ GoesInPhase phase moment old new
