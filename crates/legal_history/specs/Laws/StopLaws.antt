-- What a stop leaves of a legal story. Each is promised by a function of `laws::stops`.
use Rattle.std.specs.Prelude.{◌≡◌, ℕ, List, ◌∷◌, ◌++◌, Some, true}
use Rattle.cc_names.specs.Formed.{Plain}
use Rattle.cc_names.specs.declared.rows.Tag.{Tag}
use Rattle.cc_names.specs.declared.steps.StoryStep.{StoryStep}
use Rattle.cc_names.specs.declared.steps.StoryStep.TheVariants as story_steps
use Rattle.base_model.specs.Rows.{Base}
use Rattle.base_model.specs.Fits.{is_base}
use Rattle.legal_history.specs.Builds.Values.{IsSound}
use Rattle.legal_history.specs.Laws.Stops.{IsLeftByStop}
use Rattle.legal_history.specs.Stories.States.{Opening}
use Rattle.legal_history.specs.Stories.Steps.{state_of}
use Rattle.legal_history.specs.Stories.Lawful.{Legal}

-- Whatever a stop leaves of a legal story is a base: each of its rows fits those below it.
abbrev pub StopLeavesABase : Type 0
StopLeavesABase = (story : List StoryStep) (b : Base) → Legal story
    → IsLeftByStop (state_of story) b → is_base b ≡ true

-- It is sound where the base was sound as it was opened: the row that was in flight, or that a fault left after them, may be an
-- object, and then this object is true.
abbrev pub StopLeavesABaseSound : Type 0
StopLeavesABaseSound = (story : List StoryStep) (opening : Opening) (b : Base) → Legal story
    → (state_of story).opened ≡ Some opening → IsSound opening.base
    → IsLeftByStop (state_of story) b → IsSound b

-- At each fault of a legal story that leaves a row, be it the one that was to be committed or what the fault directly before
-- left, the rows committed so far are sound with that row on top, where the base was sound as it was opened.
abbrev pub FaultLeavesABaseSound : Type 0
FaultLeavesABaseSound = (prefix rest : List StoryStep) (tag : Tag) (row : Plain)
    (before faults tick : ℕ) (opening : Opening)
    → Legal (prefix ++ story_steps.Fault tag (Some row) before faults tick ∷ rest)
    → (state_of prefix).opened ≡ Some opening → IsSound opening.base
    → IsSound (row ∷ (state_of prefix).base)
