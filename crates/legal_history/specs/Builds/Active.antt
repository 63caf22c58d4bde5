-- The active builds, and the state of their units.
use Rattle.std.specs.Prelude.{ℕ, ◌+◌, Bool, true, false, Option, Some, None, option_map, List, [], ◌∷◌, length, find, bytes_eq}
use Rattle.std.specs.Prelude.{slice_get}
use Rattle.std.specs.Ordering.{nat_cmp}
use Rattle.std.specs.FinMap.Entries.{find as find_key}
use Rattle.cc_names.specs.declared.rows.Tag.{Tag}
use Rattle.cc_names.specs.declared.steps.UnitEnd.{UnitEnd}
use Rattle.cc_names.specs.declared.steps.UnitEnd.TheVariants.{Kept}
use Rattle.cc_names.specs.declared.units.Unit.{Unit}
use Rattle.base_model.specs.Closures.{is_path_among}

-- what a unit has come to: its script was started, it ended without a row, or it was given an object by a row
pub data Came : Type 0 where
  Started : Came
  Concluded : UnitEnd → Came
  Given : ℕ → Came

-- A build: the command that it carries out, its view, its reference rows and its options; its units, what they have come
-- to by their numbers, and whether the disk failed under it.
pub record Build : Type 0 where
  pub tag : Tag
  pub view : List ℕ
  pub rows : ℕ
  pub own_only : Bool
  pub rebuild : Bool
  pub units : List Unit
  pub comes : List (ℕ × Came)
  pub faulted : Bool

-- the active builds by their lanes
abbrev pub Active : Type 0
Active = List (ℕ × Build)

-- the active build of a lane
abbrev pub build_of : Active → ℕ → Option Build
build_of active lane = find_key nat_cmp lane active

-- whether a build is one of the view
abbrev pub is_of_view : List ℕ → ℕ × Build → Bool
is_of_view v entry = bytes_eq entry.1.view v

-- the command of a build
abbrev pub build_tag : ℕ × Build → Tag
build_tag entry = entry.1.tag

-- the command that builds in the view
abbrev pub building : Active → List ℕ → Option Tag
building active v = option_map build_tag (find (is_of_view v) active)

-- one row for each unit of the active builds
abbrev pub rows_reserved : Active → ℕ
rows_reserved [] = 0
rows_reserved (entry ∷ active) = length entry.1.units + rows_reserved active

-- the unit of this number
abbrev pub unit_at : Build → ℕ → Option Unit
unit_at build n = slice_get build.units n

-- what the unit of this number has come to, if to anything
abbrev pub came_to : Build → ℕ → Option Came
came_to build n = find_key nat_cmp n build.comes

-- whether a unit has its outcome
abbrev pub is_outcome : Option Came → Bool
is_outcome None = false
is_outcome (Some Started) = false
is_outcome (Some (Concluded end)) = true
is_outcome (Some (Given id)) = true

-- the object that a unit was given or kept
abbrev pub object_of : Option Came → Option ℕ
object_of (Some (Given id)) = Some id
object_of (Some (Concluded (Kept id))) = Some id
object_of _ = None

-- the number of the unit that has this target, counted from n on
abbrev pub number_from : ℕ → List ℕ → List Unit → Option ℕ
number_from n path [] = None
number_from n path (unit ∷ units) = elim (is_path_among path unit.targets) [
  | true ↦ Some n
  | false ↦
      number_from (n + 1) path units
]

-- the number of the unit that has this target
abbrev pub unit_with : Build → List ℕ → Option ℕ
unit_with build path = number_from 0 path build.units

-- the first of some targets
abbrev pub unit_with_first : Build → List (List ℕ) → Option ℕ
unit_with_first build [] = None
unit_with_first build (target ∷ targets) = unit_with build target
