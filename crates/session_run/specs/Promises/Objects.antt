-- What the headline says of the objects of a history: which of them a scrub takes, and that those that views hold are live.
use Rattle.std.specs.Prelude.{◌≡◌, ℕ, true, Some, is_some, List, ◌∷◌, ◌++◌}
use Rattle.cc_names.specs.Formed.{Plain}
use Rattle.cc_names.specs.References.{held_at}
use Rattle.cc_names.specs.declared.rows.Deed.TheVariants as deeds
use Rattle.cc_names.specs.declared.steps.StoryStep.{StoryStep}
use Rattle.cc_names.specs.declared.steps.StoryStep.TheVariants as story_steps
use Rattle.base_model.specs.Changes.{objects_held, live_row}
use Rattle.legal_history.specs.Laws.Dues.{AreDue}
use Rattle.legal_history.specs.Stories.Steps.{state_of}

-- *Scrubs*: each scrub that the history commits is of its lane's next command and lists exactly the objects that are due there,
-- each once, the oldest first.
pub record ScrubsListWhatIsDue (story : List StoryStep) : Type 0 where
  pub each : (prefix rest : List StoryStep) (row : Plain) (tick : ℕ) (objects : List ℕ)
      → story ≡ prefix ++ story_steps.Commit row tick ∷ rest → row.deed ≡ deeds.Scrub objects
      → AreDue (state_of prefix) row.tag objects

-- *Held objects*: at each step of the history every object that a view holds at a path is live.
pub record HeldObjectsAreLive (story : List StoryStep) : Type 0 where
  pub each : (prefix rest : List StoryStep) (v path : List ℕ) (id : ℕ)
      → story ≡ prefix ++ rest → held_at (objects_held (state_of prefix).base) v path ≡ Some id
      → is_some (live_row (state_of prefix).base id) ≡ true
