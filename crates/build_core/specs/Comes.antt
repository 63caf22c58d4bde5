-- What the units of an active build have come to, as the program keeps it and as the model sees it.
use Rattle.std.specs.Prelude.{ℕ, Option, option_map, List, map}
use Rattle.legal_history.specs.Builds.Active as model
use Rattle.build_core.specs.Slots.{numbered_slots}
use Rattle.build_core.specs.declared.active.Came.{Came}
use Rattle.build_core.specs.declared.active.Came.TheVariants.{Started, Concluded, Given}

-- what a unit has come to
abbrev pub came_of : Came → model.Came
came_of Started = model.Started
came_of (Concluded end) = model.Concluded end
came_of (Given id) = model.Given id

-- what each unit has come to, if to anything
abbrev pub cames_of : List (Option Came) → List (Option model.Came)
cames_of slots = map (option_map came_of) slots

-- what the units have come to, by their numbers
abbrev pub comes_of : List (Option Came) → List (ℕ × model.Came)
comes_of slots = numbered_slots 0 (cames_of slots)
