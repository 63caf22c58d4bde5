-- What a lane has to do next.
use Rattle.std.specs.Prelude.{◌≡◌, ◌<◌, ◌+◌, ℕ, Bool, true, false, Option, Some, None, List, slice_index_or}
use Rattle.cc_names.specs.declared.commands.Command.{Command}
use Rattle.cc_names.specs.declared.commands.Command.TheVariants as commands
use Rattle.cc_names.specs.declared.occasions.Next.{Next}
use Rattle.cc_names.specs.declared.occasions.Next.TheVariants.{Act, Build, Done}
use Rattle.cc_names.specs.declared.rows.Tag.{Tag}
use Rattle.legal_history.specs.Stories.Commanded.{next_command_of}
use Rattle.legal_history.specs.Stories.States.{State, next_tag}

-- a command builds or acts; without a command the lane is done
abbrev pub next_by : Option Command → Tag → Next
next_by None tag = Done
next_by (Some (commands.Build asked)) tag = Build tag
next_by (Some command) tag = Act

-- What the lane has to do next. A build that began is active as long as its command is the one to build.
abbrev pub next_of_lane : State → ℕ → Next
next_of_lane s lane = next_by (next_command_of s lane) (next_tag s lane)

-- whether what a lane has to do next is to build
abbrev pub is_build : Next → Bool
is_build (Build tag) = true
is_build other = false

abbrev pub builds_next : State → ℕ → Bool
builds_next s lane = is_build (next_of_lane s lane)

-- one of the first lanes, so many, that is not set aside builds next; lanes count from 1, and what is set aside from 0
abbrev pub AnyBuilds : State → ℕ → List Bool → Type 0
AnyBuilds s lanes aside =
    (index : ℕ) × (index < lanes) × (slice_index_or aside index true ≡ false) × (builds_next s (index + 1) ≡ true)

-- how many units at once a command asks to have built
abbrev pub jobs_of : Option Command → Option ℕ
jobs_of (Some (commands.Build asked)) = Some asked.jobs
jobs_of command = None
