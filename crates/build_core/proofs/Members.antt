-- The walk back over the units that a unit needs.
use Rattle.std.proofs.Common.{◌≡◌, ℕ, suc, ◌+◌, ◌<◌, Bool, true, false, List, [], ◌∷◌, ◌++◌, length, take, get_or, ap, sym, ◌∙◌}
use Rattle.std.proofs.Common.{arith, add-one}
use Rattle.std.proofs.Math.Seq.{take-suc}
use Rattle.std.proofs.lemmas.List.{length-take-le}
use Rattle.std.specs.List.{list_any}
use Rattle.std.specs.Option.{option_or}
use Rattle.cc_names.specs.declared.units.Unit.{Unit}
use Rattle.base_model.specs.Rows.{only_where}
use Rattle.legal_history.specs.Builds.Active.{Build, came_to, object_of}
use Rattle.legal_history.specs.Builds.Choices.{Member, unit_of_member, members_from, members_before, object_among}
use Rattle.base_model.specs.Closures.{is_path_among}
use Rattle.legal_history.specs.Builds.Serials.{needed_units, makes}
use Rattle.build_core.specs.VisibleObjects.{object_before}

-- a unit with what its number has come to
abbrev member : Build → ℕ → Unit → Member
member build n unit = record { unit = unit; came = came_to build n }

last_member : (build : Build) (k : ℕ) (units : List Unit) (unit : Unit) (earlier : List Member) →
    members_from build k (units ++ unit ∷ []) earlier ≡ member build (k + length units) unit ∷ members_from build k units earlier
last_member build k [] unit earlier =
    let e : k ≡ k + 0 = omega arith in
    ap (λ n. member build n unit ∷ earlier) e
last_member build k (first ∷ units) unit earlier =
    let e : (k + 1) + length units ≡ k + suc (length units) = omega arith in
    last_member build (k + 1) units unit (member build k first ∷ earlier)
    ∙ ap (λ n. member build n unit ∷ members_from build (k + 1) units (member build k first ∷ earlier)) e

-- the unit before is the last of those before
before : (build : Build) (n : ℕ) (unit : Unit) → n < length build.units → unit ≡ get_or build.units n unit →
    members_before build (n + 1) ≡ member build n unit ∷ members_before build n
before build n unit h e =
    let whole : take (n + 1) build.units ≡ take n build.units ++ unit ∷ [] =
    ap (λ k. take k build.units) (add-one n) ∙ take-suc build.units n unit h ∙ ap (λ u. take n build.units ++ u ∷ []) (sym e)
    in
    let size : length (take n build.units) ≡ n = length-take-le n build.units (omega arith) in
    let count : 0 + length (take n build.units) ≡ n = omega arith in
    ap (λ units. members_from build 0 units []) whole
    ∙ last_member build 0 (take n build.units) unit []
    ∙ ap (λ k. member build k unit ∷ members_before build n) count

-- whether a unit makes one of some paths
abbrev makes_any : Unit → List (List ℕ) → Bool
makes_any unit paths = list_any (λ path. makes path unit) paths

-- a unit that makes none of what is wanted is passed over
step_past : (paths : List (List ℕ)) (a : Member) (earlier : List Member) → makes_any a.unit paths ≡ false →
    needed_units unit_of_member paths (a ∷ earlier) ≡ needed_units unit_of_member paths earlier
step_past paths a earlier e =
    ap (λ (b : Bool). elim b as (λ _. List Member) [
      | true ↦ a ∷ needed_units unit_of_member (paths ++ a.unit.prerequisites)
          earlier
      | false ↦ needed_units unit_of_member paths earlier
    ]) e

step_taken : (paths : List (List ℕ)) (a : Member) (earlier : List Member) → makes_any a.unit paths ≡ true →
    needed_units unit_of_member paths (a ∷ earlier) ≡ a ∷ needed_units unit_of_member (paths ++ a.unit.prerequisites) earlier
step_taken paths a earlier e =
    ap (λ (b : Bool). elim b as (λ _. List Member) [
      | true ↦ a ∷ needed_units unit_of_member (paths ++ a.unit.prerequisites)
          earlier
      | false ↦ needed_units unit_of_member paths earlier
    ]) e

pub passed : (build : Build) (paths : List (List ℕ)) (n : ℕ) (path : List ℕ) (unit : Unit) → n < length build.units
    → unit ≡ get_or build.units n unit →
    makes_any unit paths ≡ false → object_before build paths (n + 1) path ≡ object_before build paths n path
passed build paths n path unit h at e =
    ap (λ members. object_among path (needed_units unit_of_member paths members)) (before build n unit h at)
    ∙ ap (object_among path) (step_past paths (member build n unit) (members_before build n) e)

pub taken : (build : Build) (paths : List (List ℕ)) (n : ℕ) (path : List ℕ) (unit : Unit) → n < length build.units
    → unit ≡ get_or build.units n unit →
    makes_any unit paths ≡ true →
    object_before build paths (n + 1) path ≡ option_or (only_where (is_path_among path unit.targets)
    (object_of (came_to build n))) (object_before build (paths ++ unit.prerequisites) n path)
taken build paths n path unit h at e =
    ap (λ members. object_among path (needed_units unit_of_member paths members)) (before build n unit h at)
    ∙ ap (object_among path) (step_taken paths (member build n unit) (members_before build n) e)
