-- How far the lanes of the last phase have come.
use Rattle.std.specs.Prelude.{◌≡◌, ℕ, ◌≤◌, Option, Some, None, length}
use Rattle.cc_names.specs.Commands.{lane_at}
use Rattle.cc_names.specs.declared.commands.Lane.{Lane}
use Rattle.legal_history.specs.Stories.States.{State, done_of}

-- how many commands a lane has
abbrev pub count_of : Option Lane → ℕ
count_of None = 0
count_of (Some lane) = length lane.commands

-- a lane has finished no more commands than it has
abbrev pub IsWithin : State → ℕ → Type 0
IsWithin s lane = done_of s.done lane ≤ count_of (lane_at s.phase lane)

-- a lane has finished all of its commands
abbrev pub IsFinished : State → ℕ → Type 0
IsFinished s lane = done_of s.done lane ≡ count_of (lane_at s.phase lane)
