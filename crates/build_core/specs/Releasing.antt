-- Which units can be driven to their outcomes.
use Rattle.std.specs.Prelude.{ℕ, Bool, false, not, ◌&&◌, unwrap_or, option_map}
use Rattle.legal_history.specs.Builds.Active.{Build, came_to, is_outcome, unit_at}
use Rattle.legal_history.specs.Builds.Turns.{is_unit_ready}

-- whether a unit can be driven: it has no outcome, and is ready
abbrev pub can_be_driven : Build → ℕ → Bool
can_be_driven build n = not (is_outcome (came_to build n)) && unwrap_or (option_map (is_unit_ready build) (unit_at build n)) false
