-- Steps that leave the base, how it was opened, and the ends.
use Rattle.std.specs.Prelude.{Bool, true, false}
use Rattle.cc_names.specs.declared.steps.StoryStep.{StoryStep}
use Rattle.cc_names.specs.declared.steps.StoryStep.TheVariants as story_steps

-- whether a step opens no base, begins no phase, commits no row and is no fault of the disk
abbrev pub is_quiet : StoryStep → Bool
is_quiet (story_steps.Opened rows counts tells) = false
is_quiet (story_steps.PhaseBegun phase moment) = false
is_quiet (story_steps.Commit row tick) = false
is_quiet (story_steps.Fault tag left before faults tick) = false
is_quiet step = true
