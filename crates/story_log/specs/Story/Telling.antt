-- How the steps of a story are told, and the rows that they name.
use Rattle.std.specs.Prelude.{Option, List, [], ◌∷◌, ◌++◌}
use Rattle.cc_names.specs.Formed.{Plain}
use Rattle.cc_names.specs.declared.steps.StoryStep.{StoryStep}
use Rattle.cc_names.specs.declared.steps.StoryStep.TheVariants as story_steps
use Rattle.story_log.specs.Logging.Leaving.{left_row}
use Rattle.story_log.specs.declared.step.Fault.{Fault}
use Rattle.story_log.specs.declared.step.Step.{Step}
use Rattle.story_log.specs.declared.step.Step.TheVariants as steps

-- the step of a story that is told so
abbrev pub told : Step → StoryStep
told (steps.PhaseBegun phase moment) = story_steps.PhaseBegun phase.value moment
told (steps.Commit row tick) = story_steps.Commit row.value tick
told (steps.Refused tag refusal) = story_steps.Refused tag refusal.value
told (steps.Answer tag text) = story_steps.Answer tag text.value
told (steps.Begin tag rows units) = story_steps.Begin tag rows units
told (steps.Start tag n) = story_steps.Start tag n
told (steps.Concluded tag n outcome) = story_steps.Concluded tag n outcome.value
told (steps.End tag) = story_steps.End tag

-- and a fault, by the row that was left before it
abbrev pub told_fault : Option Plain → Fault → StoryStep
told_fault earlier fault =
    story_steps.Fault fault.row.value.tag (left_row earlier fault.row.value fault.left) fault.before fault.after.faults
    fault.after.ticks

-- the rows of a story, in their order: those of the base that was opened, and that of each commit
abbrev pub rows_named : List StoryStep → List Plain
rows_named [] = []
rows_named (story_steps.Opened rows counts tells ∷ story) = rows ++ rows_named story
rows_named (story_steps.Commit row tick ∷ story) = row ∷ rows_named story
rows_named (step ∷ story) = rows_named story
