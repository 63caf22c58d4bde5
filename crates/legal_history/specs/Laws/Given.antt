-- What a view holds of the objects that a build has given to its units, and what a unit sees of them.
use Rattle.std.specs.Prelude.{◌≡◌, ℕ, ◌<◌, true, Some, List, is_some}
use Rattle.cc_names.specs.References.{held_at}
use Rattle.cc_names.specs.declared.units.Unit.{Unit}
use Rattle.base_model.specs.Rows.{Base, first_rows}
use Rattle.legal_history.specs.Builds.Active.{Build, came_to, object_of, unit_at}
use Rattle.base_model.specs.Changes.{objects_held, live_row}
use Rattle.base_model.specs.Closures.{is_path_among}
use Rattle.base_model.specs.Seen.{file_at}
use Rattle.legal_history.specs.Builds.Serials.{makes}

-- An object that unit n of a build was given is live, and the build's view holds it at every target of the unit, of which
-- there is one at least.
pub record IsHeld (b : Base) (build : Build) (n id : ℕ) : Type 0 where
  pub unit : Unit
  pub is_unit : unit_at build n ≡ Some unit
  pub lives : is_some (live_row b id) ≡ true
  pub target : List ℕ
  pub is_target : makes target unit ≡ true
  pub holds : (path : List ℕ) → makes path unit ≡ true → held_at (objects_held b) build.view path ≡ Some id

-- Each object that a build has given is live and held by the build's view.
pub record HoldsGiven (b : Base) (build : Build) : Type 0 where
  pub given : (n id : ℕ) → object_of (came_to build n) ≡ Some id → IsHeld b build n id

-- a unit of a build makes one of some paths
pub record MakesOne (build : Build) (paths : List (List ℕ)) (m : ℕ) : Type 0 where
  pub unit : Unit
  pub is_unit : unit_at build m ≡ Some unit
  pub path : List ℕ
  pub among : is_path_among path paths ≡ true
  pub is_target : makes path unit ≡ true

-- a unit is needed for some paths: it makes one of them, or one that a unit which is needed for them has as a prerequisite
pub data IsNeeded (build : Build) (paths : List (List ℕ)) : ℕ → Type 0 where
  AtOnce : (m : ℕ) → MakesOne build paths m → IsNeeded build paths m
  Through : (k m : ℕ) (between : Unit) → IsNeeded build paths k → unit_at build k ≡ Some between
      → MakesOne build between.prerequisites m → IsNeeded build paths m

-- an object was given to a unit that stands before unit n, is needed for some paths, and makes this path
pub record GivenBefore (build : Build) (n : ℕ) (paths : List (List ℕ)) (path : List ℕ) (id : ℕ) : Type 0 where
  pub m : ℕ
  pub before : m < n
  pub wanted : IsNeeded build paths m
  pub unit : Unit
  pub is_unit : unit_at build m ≡ Some unit
  pub is_target : makes path unit ≡ true
  pub given : object_of (came_to build m) ≡ Some id

-- What unit n of a build sees at a path is an object that the build gave to an earlier unit that makes the path and that
-- this one needs, directly or through others; or it is the file of the view at the build's reference rows.
pub data SeenBy (b : Base) (build : Build) (n : ℕ) (unit : Unit) (path : List ℕ) (row : ℕ) : Type 0 where
  ByUnit : GivenBefore build n unit.prerequisites path row → SeenBy b build n unit path row
  ByFile : file_at (first_rows build.rows b) build.view path ≡ Some row → SeenBy b build n unit path row
