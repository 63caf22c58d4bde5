-- What becomes of a lane's turn.
use Rattle.std.specs.Prelude.{◌≡◌, ◌<◌, ◌≤◌, ℕ, Some, List}
use Rattle.cc_names.specs.declared.occasions.Next.TheVariants as nexts
use Rattle.cc_names.specs.declared.steps.StoryStep.{StoryStep}
use Rattle.legal_history.specs.Stories.Commanded.{next_command_of}
use Rattle.legal_history.specs.Stories.States.{done_of}
use Rattle.legal_history.specs.Stories.Steps.{state_of}
use Rattle.clearmake.specs.Nexts.{jobs_of, next_of_lane}
use Rattle.clearmake.specs.Passes.{IsLaneDone}
use Rattle.clearmake.specs.declared.lanes.LaneTurn.{LaneTurn}
use Rattle.clearmake.specs.declared.lanes.LaneTurn.TheVariants as turn

-- What became of a lane's turn, in the phase of this number: it has nothing left to do, or its next command is to be built, as
-- many units at once as it asks for.
abbrev pub IsLaneTurn : LaneTurn → List StoryStep → ℕ → ℕ → Type 0
IsLaneTurn turn.Acted story lane number = Unit {0}
IsLaneTurn (turn.Build tag jobs) story lane number =
    (next_of_lane (state_of story) lane ≡ nexts.Build tag) × (tag.lane ≡ lane)
    × (jobs_of (next_command_of (state_of story) lane) ≡ Some jobs)
    × (1 ≤ jobs) × (jobs ≤ 64)
IsLaneTurn turn.Done story lane number = IsLaneDone story lane number
IsLaneTurn turn.OutOfMemory story lane number = Unit {0}

-- a turn in which a lane acted finished commands of the lane
abbrev pub HasActed : LaneTurn → List StoryStep → List StoryStep → ℕ → Type 0
HasActed turn.Acted old new lane = done_of (state_of old).done lane < done_of (state_of new).done lane
HasActed became old new lane = Unit {0}
