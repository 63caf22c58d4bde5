-- What holds of every active build of a legal story, whatever base was opened and whatever the state of its units.
use Rattle.std.specs.Prelude.{◌≡◌, ℕ, ◌<◌, ◌≤◌, true, Some, is_some, List, slice_get}
use Rattle.cc_names.specs.declared.units.Unit.{Unit}
use Rattle.base_model.specs.Rows.{Base, size, first_rows}
use Rattle.legal_history.specs.Builds.Active.{Build, came_to, is_outcome, object_of, number_from, unit_at}
use Rattle.base_model.specs.Changes.{targets_of}
use Rattle.base_model.specs.Closures.{is_path_among}
use Rattle.base_model.specs.Fits.{is_base}
use Rattle.legal_history.specs.Builds.Serials.{makes}

-- units in order: a target is of one unit, and a prerequisite that is a unit's target is one of an earlier unit
pub record InOrder (units : List Unit) : Type 0 where
  pub one : (n : ℕ) (unit : Unit) (path : List ℕ) → slice_get units n ≡ Some unit → makes path unit ≡ true
      → number_from 0 path units ≡ Some n
  pub earlier : (n m : ℕ) (unit : Unit) (path : List ℕ) → slice_get units n ≡ Some unit
      → is_path_among path unit.prerequisites ≡ true → number_from 0 path units ≡ Some m → m < n

-- each unit that this one has as a prerequisite has its outcome
abbrev pub IsReady : Build → Unit → Type 0
IsReady build unit = (m : ℕ) (path : List ℕ) → is_path_among path unit.prerequisites ≡ true
    → number_from 0 path build.units ≡ Some m → is_outcome (came_to build m) ≡ true

-- an object is a row of the base with a unit's targets
pub record IsObjectOf (b : Base) (unit : Unit) (id : ℕ) : Type 0 where
  pub below : id < size b
  pub targets : targets_of b id ≡ unit.targets

-- A build is consistent with a base: its reference rows are a base within this one, its units are in order, each unit that has
-- come to anything has its prerequisites over, and each object that a unit was given or kept is one of the unit.
pub record IsConsistent (b : Base) (build : Build) : Type 0 where
  pub rows : build.rows ≤ size b
  pub base : is_base (first_rows build.rows b) ≡ true
  pub in_order : InOrder build.units
  pub ready : (n : ℕ) (unit : Unit) → unit_at build n ≡ Some unit → is_some (came_to build n) ≡ true → IsReady build unit
  pub objects : (n : ℕ) (unit : Unit) (id : ℕ) → unit_at build n ≡ Some unit → object_of (came_to build n) ≡ Some id
      → IsObjectOf b unit id
