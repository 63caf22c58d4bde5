-- How contracts see a core: its story, how its disk was seen, and its journal's tail.
use Rattle.std.specs.Prelude.{List}
use Rattle.cc_names.specs.declared.steps.StoryStep.{StoryStep}
use Rattle.disk_model.specs.DiskStates.{DiskState}
use Rattle.story_log.specs.Stopping.Tails.{Tail}

-- a core: its story, oldest step first, its disk's counts and device, and its journal's tail
pub record Shown : Type 0 where
  pub story : List StoryStep
  pub ghost_state : DiskState
  pub tail : Tail
