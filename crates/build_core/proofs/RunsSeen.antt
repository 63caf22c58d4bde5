-- What a unit of a build sees: rows of the base alone, and no file at the root.
use Rattle.std.proofs.Common.{◌≡◌, refl, ap, sym, subst, ◌∙◌, ℕ, zero, suc, ◌<◌, ◌||◌, Bool, true, false, Option, Some, None}
use Rattle.std.proofs.Common.{List, [], ◌∷◌, ◌++◌, map, bytes_eq, arith, length-append}
use Rattle.std.proofs.lemmas.Slice.Eq.{bytes_eq-Decides}
use Rattle.std.specs.List.{AllByRecursion, list_any}
use Rattle.std.specs.Option.{option_or}
use Rattle.cc_names.specs.Formed.{IsBelowRoot, AreTargets}
use Rattle.cc_names.specs.Paths.{root, is_root}
use Rattle.cc_names.specs.declared.selection.Picked.{Picked}
use Rattle.cc_names.specs.declared.units.Unit.{Unit}
use Rattle.base_model.specs.Rows.{Base, size, first_rows, only_where}
use Rattle.legal_history.specs.Builds.Active.{Build, object_of, unit_at}
use Rattle.legal_history.specs.Builds.Choices.{Member, unit_of_member, members_before, object_among, visible}
use Rattle.base_model.specs.Closures.{is_path_among}
use Rattle.base_model.specs.Fits.{is_base}
use Rattle.base_model.specs.Seen.{as_seen, file_at, file_seen, row_of_file, selection_at}
use Rattle.legal_history.specs.Builds.Serials.{makes, needed_units}
use Rattle.base_model.proofs.FilesBelow.{beyond, file_is_below}
use Rattle.legal_history.proofs.Builds.Pairs.{member_of, pairs_before, with_pair, members_paired}
use Rattle.base_model.proofs.RootRow.{root_is_directory}
use Rattle.build_core.specs.Publishing.{HasObjects}

pub no_file_at_root : (b : Base) (v : List ℕ) → file_at b v root ≡ None
no_file_at_root b v = by (selection_at b v 0 [])
  where
    by : (o : Option Picked) → file_seen b (as_seen 0 o) ≡ None
    by None = refl
    by (Some picked) = ap (row_of_file picked) (root_is_directory b)

-- targets are below the root
root_among : (paths : List (List ℕ)) → AllByRecursion IsBelowRoot paths → is_path_among root paths ≡ false
root_among [] h = refl
root_among (path ∷ paths) h = by (bytes_eq root path) refl (root_among paths h.1)
  where
    by : (t : Bool) → bytes_eq root path ≡ t → is_path_among root paths ≡ false → (t || is_path_among root paths) ≡ false
    by true same rest = absurd (let at = ap is_root ((bytes_eq-Decides root path).0 same) in let below = h.0.1 in cc)
    by false other rest = rest

pub makes_no_root : (unit : Unit) → AreTargets unit.targets → makes root unit ≡ false
makes_no_root unit h = root_among unit.targets h.0.1

-- a unit without a target at the root, and an object of the base alone
record Fits (b : Base) (member : Member) : Type 0 where
  rootless : makes root member.unit ≡ false
  below : (id : ℕ) → object_of member.came ≡ Some id → id < size b

pairs_fit : (rows b : Base) (build : Build) (n : ℕ) → HasObjects b build
    → AllByRecursion (Fits b) (map member_of (pairs_before rows build n))
pairs_fit rows b build zero h = tt
pairs_fit rows b build (suc n) h = by (unit_at build n) refl (pairs_fit rows b build n h)
  where
    by : (o : Option Unit) → unit_at build n ≡ o → AllByRecursion (Fits b) (map member_of (pairs_before rows build n))
        → AllByRecursion (Fits b) (map member_of (with_pair rows build n o (pairs_before rows build n)))
    by None is rest = rest
    by (Some unit) is rest = (record { rootless = h.rootless n unit is; below = λ id. h.below n unit id is }, rest)

members_fit : (b : Base) (build : Build) (n : ℕ) → HasObjects b build → AllByRecursion (Fits b) (members_before build n)
members_fit b build n h = subst (AllByRecursion (Fits b)) (sym (members_paired b build n)) (pairs_fit b b build n h)

needed_fit : (b : Base) (paths : List (List ℕ)) (members : List Member) → AllByRecursion (Fits b) members
    → AllByRecursion (Fits b) (needed_units unit_of_member paths members)
needed_fit b paths [] h = tt
needed_fit b paths (member ∷ members) h =
    elim (list_any (λ path. makes path member.unit) paths) as (λ (t : Bool). AllByRecursion (Fits b)
    (elim t as (λ (x : Bool). List Member) [
      | true ↦ member ∷ needed_units unit_of_member (paths ++ member.unit.prerequisites) members
      | false ↦ needed_units unit_of_member paths members
    ])) [
      | true ↦ (h.0, needed_fit b (paths ++ member.unit.prerequisites) members h.1)
      | false ↦ needed_fit b paths members h.1
    ]

-- the objects that some of them were given
object_below : (b : Base) (path : List ℕ) (id : ℕ) (members : List Member) → AllByRecursion (Fits b) members
    → object_among path members ≡ Some id → id < size b
object_below b path id [] h is = absurd (cc)
object_below b path id (member ∷ members) h is = by (makes path member.unit) (object_of member.came) h.0.below is
    (object_below b path id members h.1)
  where
    by : (t : Bool) (o : Option ℕ) → ((other : ℕ) → o ≡ Some other → other < size b)
        → option_or (only_where t o) (object_among path members) ≡ Some id →
        (object_among path members ≡ Some id → id < size b) → id < size b
    by true (Some other) low is rest = low id is
    by true None low is rest = rest is
    by false o low is rest = rest is

object_at_root : (b : Base) (members : List Member) → AllByRecursion (Fits b) members → object_among root members ≡ None
object_at_root b [] h = refl
object_at_root b (member ∷ members) h =
    ap (λ t. option_or (only_where t (object_of member.came)) (object_among root members)) h.0.rootless
    ∙ object_at_root b members h.1

first_below : (b : Base) (t r : ℕ) → r < size (first_rows t b) → r < size b
first_below b t r low =
    let more = beyond b t in
    subst (λ (c : Base). r < size c) (sym more.is) (omega (arith, length-append more.more (first_rows t b)))

-- A unit sees rows of the base alone.
pub seen_is_below : (b : Base) (build : Build) (n : ℕ) (unit : Unit) (path : List ℕ) (row : ℕ)
    → is_base (first_rows build.rows b) ≡ true → HasObjects b build → visible b build n unit path ≡ Some row → row < size b
seen_is_below b build n unit path row base h is =
    by (object_among path members) (file_at (first_rows build.rows b) build.view path)
    (λ id. object_below b path id members (needed_fit b unit.prerequisites (members_before build n) (members_fit b build n h)))
    (λ r of_file. first_below b build.rows r (file_is_below (first_rows build.rows b) build.view path r base of_file)) is
  where
    members : List Member
    members = needed_units unit_of_member unit.prerequisites (members_before build n)

    by : (o file : Option ℕ) → ((id : ℕ) → o ≡ Some id → id < size b) → ((r : ℕ) → file ≡ Some r → r < size b)
        → option_or o file ≡ Some row → row < size b
    by (Some id) file objects files is = objects row is
    by None file objects files is = files row is

-- A unit sees nothing at the root.
pub nothing_at_root : (b : Base) (build : Build) (n : ℕ) (unit : Unit) → HasObjects b build → visible b build n unit root ≡ None
nothing_at_root b build n unit h =
    ap (λ o. option_or o (file_at (first_rows build.rows b) build.view root))
    (object_at_root b (needed_units unit_of_member unit.prerequisites (members_before build n))
    (needed_fit b unit.prerequisites (members_before build n) (members_fit b build n h)))
    ∙ no_file_at_root (first_rows build.rows b) build.view
