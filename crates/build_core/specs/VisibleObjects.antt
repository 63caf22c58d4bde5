-- The objects that the script of a unit sees.
use Rattle.std.specs.Prelude.{◌≡◌, ℕ, Bool, Option, option_and_then, List}
use Rattle.cc_names.specs.declared.units.Unit.{Unit}
use Rattle.make_graph.specs.Waits.{closure_of, is_in, is_marked}
use Rattle.base_model.specs.Rows.{only_where}
use Rattle.legal_history.specs.Builds.Active.{Build, came_to, object_of, unit_with}
use Rattle.legal_history.specs.Builds.Choices.{members_before, object_among, unit_of_member}
use Rattle.legal_history.specs.Builds.Consistency.{InOrder}
use Rattle.legal_history.specs.Builds.Serials.{needed_units}

-- the object at a path of the units below a number that make one of these paths, and of those that these need in turn
abbrev pub object_before : Build → List (List ℕ) → ℕ → List ℕ → Option ℕ
object_before build paths n path = object_among path (needed_units unit_of_member paths (members_before build n))

-- the units that unit n stands on are marked
abbrev pub AreMarked : List Unit → ℕ → List Bool → Type 0
AreMarked units n marks = (m : ℕ) → is_marked marks m ≡ is_in (closure_of units n) m

-- the units that unit n of a build stands on are marked, and the build's units are in order
pub record AreNeeds (build : Build) (n : ℕ) (marks : List Bool) : Type 0 where
  pub in_order : InOrder build.units
  pub needed : AreMarked build.units n marks

-- the object that the unit of a path was given or kept, where that unit is marked
abbrev pub object_marked : Build → List Bool → List ℕ → Option ℕ
object_marked build marks path =
    option_and_then (λ m. only_where (is_marked marks m) (object_of (came_to build m))) (unit_with build path)
