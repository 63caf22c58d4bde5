-- What worked stories share: their first step, a phase of one lane, and what a build has come to.
use Rattle.std.proofs.Common.{ℕ, true, Option, List, [], ◌∷◌}
use Rattle.std.specs.Prelude.{codes, take, option_map}
use Rattle.cc_names.specs.declared.commands.Command.{Command}
use Rattle.cc_names.specs.declared.commands.Phase.{Phase}
use Rattle.cc_names.specs.declared.steps.StoryStep.{StoryStep}
use Rattle.cc_names.specs.declared.steps.StoryStep.TheVariants as story_steps
use Rattle.legal_history.specs.Builds.Active.{Came}
use Rattle.legal_history.specs.Stories.States.{build_by}
use Rattle.legal_history.specs.Stories.Steps.{state_of}
use Rattle.legal_history.specs.Worked.{tag}

-- a phase of one lane
abbrev pub one_lane : List Command → Phase
one_lane commands = record { lanes = record { name = codes "a"; commands = commands } ∷ [] }

abbrev pub opened : StoryStep
opened = story_steps.Opened [] (record { ticks = 0; faults = 0 }) true

-- what the units of a command's build have come to after so many steps
abbrev pub comes_after : ℕ → ℕ → List StoryStep → Option (List (ℕ × Came))
comes_after steps command story = option_map (λ build. build.comes) (build_by (state_of (take steps story)) (tag 1 1 command))
