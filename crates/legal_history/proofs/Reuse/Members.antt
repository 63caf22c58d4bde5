-- What a unit of a build sees: an object that a unit which it needs was given, or a file of the view.
use Rattle.std.proofs.Common.{◌≡◌, refl, ap, sym, ◌∙◌, ℕ, zero, suc, Bool, true, false, Option, Some, None, List, ◌∷◌, ◌++◌, map}
use Rattle.std.proofs.Common.{arith}
use Rattle.std.specs.List.{list_any}
use Rattle.std.specs.Option.{option_or}
use Rattle.cc_names.specs.declared.units.Unit.{Unit}
use Rattle.base_model.specs.Rows.{Base, first_rows, only_where}
use Rattle.legal_history.specs.Builds.Active.{Build, came_to, object_of, unit_at}
use Rattle.legal_history.specs.Builds.Choices.{unit_of_member, members_before, object_among, visible}
use Rattle.base_model.specs.Closures.{is_path_among}
use Rattle.legal_history.specs.Builds.Freshness.{outcome_in}
use Rattle.base_model.specs.Seen.{file_at}
use Rattle.legal_history.specs.Builds.Serials.{makes, needed_units}
use Rattle.legal_history.proofs.Builds.Pairs.{Pair, unit_in, member_of, with_pair, pairs_before, members_paired, needed_mapped}
use Rattle.legal_history.proofs.Builds.NeededAgree.{some_made, among_both}
use Rattle.legal_history.specs.Laws.Given.{MakesOne, IsNeeded, AtOnce, Through, GivenBefore, SeenBy, ByUnit, ByFile}

-- each unit that makes one of some paths is needed
abbrev pub AreWanted : Build → List (List ℕ) → List (List ℕ) → Type 0
AreWanted build first paths = (m : ℕ) → MakesOne build paths m → IsNeeded build first m

-- so are those that make a prerequisite of a needed unit
wanted_on : (build : Build) (first paths : List (List ℕ)) (n : ℕ) (u : Unit) → AreWanted build first paths
    → IsNeeded build first n → unit_at build n ≡ Some u → AreWanted build first (paths ++ u.prerequisites)
wanted_on build first paths n u wanted one is = λ m made. by m made (among_both made.path paths u.prerequisites made.among)
  where
    by_test : (m : ℕ) (made : MakesOne build (paths ++ u.prerequisites) m) (t : Bool) → is_path_among made.path paths ≡ t
        → ((t ≡ false) → is_path_among made.path u.prerequisites ≡ true) → IsNeeded build first m
    by_test m made true here there = wanted m (record {
      unit = made.unit;
      is_unit = made.is_unit;
      path = made.path;
      among = here;
      is_target = made.is_target;
    })
    by_test m made false here there =
        Through n m u one is (record {
          unit = made.unit;
          is_unit = made.is_unit;
          path = made.path;
          among = there refl;
          is_target = made.is_target;
        })

    by : (m : ℕ) (made : MakesOne build (paths ++ u.prerequisites) m) → (t : Bool) × (is_path_among made.path paths ≡ t)
        × ((t ≡ false) → is_path_among made.path u.prerequisites ≡ true) → IsNeeded build first m
    by m made r = by_test m made r.0 r.1 r.2

-- one more unit
given_later : (build : Build) (n : ℕ) (paths : List (List ℕ)) (path : List ℕ) (id : ℕ) → GivenBefore build n paths path id
    → GivenBefore build (suc n) paths path id
given_later build n paths path id g =
    record {
      m = g.m;
      before = let low = g.before in omega arith;
      wanted = g.wanted;
      unit = g.unit;
      is_unit = g.is_unit;
      is_target = g.is_target;
      given = g.given;
    }

-- an object that is found among the needed units was given to one of them
given_before : (rows : Base) (build : Build) (first : List (List ℕ)) (n : ℕ) (paths : List (List ℕ)) (path : List ℕ) (id : ℕ)
    → AreWanted build first paths →
    object_among path (map member_of (needed_units unit_in paths (pairs_before rows build n))) ≡ Some id
    → GivenBefore build n first path id
given_before rows build first zero paths path id wanted found = absurd (cc)
given_before rows build first (suc n) paths path id wanted found =
    by (unit_at build n) refl found (λ more wanted found. given_later build n first path id
    (given_before rows build first n more path id wanted found))
  where
    by_object : (u : Unit) (t : Bool) (o others : Option ℕ) → unit_at build n ≡ Some u → IsNeeded build first n → makes path u ≡ t
        → object_of (came_to build n) ≡ o →
        option_or (only_where t o) others ≡ Some id → (others ≡ Some id → GivenBefore build (suc n) first path id)
        → GivenBefore build (suc n) first path id
    by_object u true (Some k) others is one made own found rest = record {
      m = n;
      before = omega arith;
      wanted = one;
      unit = u;
      is_unit = is;
      is_target = made;
      given = own ∙ found;
    }
    by_object u true None others is one made own found rest = rest found
    by_object u false o others is one made own found rest = rest found

    by_unit : (u : Unit) (t : Bool) → unit_at build n ≡ Some u → list_any (λ path. makes path u) paths ≡ t →
        object_among path (map member_of (elim t as (λ x. List Pair) [
          | true ↦ record { unit = u; came = came_to build n; outcome = outcome_in rows build n u }
              ∷ needed_units unit_in (paths ++ u.prerequisites) (pairs_before rows build n)
          | false ↦ needed_units unit_in paths (pairs_before rows build n)
        ])) ≡ Some id →
        ((more : List (List ℕ)) → AreWanted build first more → object_among path
        (map member_of (needed_units unit_in more (pairs_before rows build n))) ≡ Some id
        → GivenBefore build (suc n) first path id) →
        GivenBefore build (suc n) first path id
    by_unit u true is test found rest =
        let made = some_made u paths test in
        let one = wanted n (record { unit = u; is_unit = is; path = made.0; among = made.1; is_target = made.2 }) in
        by_object u (makes path u) (object_of (came_to build n)) (object_among path
        (map member_of (needed_units unit_in (paths ++ u.prerequisites) (pairs_before rows build n))))
        is one refl refl found (rest (paths ++ u.prerequisites) (wanted_on build first paths n u wanted one is))
    by_unit u false is test found rest = rest paths wanted found

    by : (o : Option Unit) → unit_at build n ≡ o → object_among path (map member_of
        (needed_units unit_in paths (with_pair rows build n o (pairs_before rows build n)))) ≡ Some id →
        ((more : List (List ℕ)) → AreWanted build first more → object_among path
        (map member_of (needed_units unit_in more (pairs_before rows build n))) ≡ Some id
        → GivenBefore build (suc n) first path id) →
        GivenBefore build (suc n) first path id
    by None is found rest = rest paths wanted found
    by (Some u) is found rest = by_unit u (list_any (λ path. makes path u) paths) is refl found rest

pub seen_by : (b : Base) (build : Build) (n : ℕ) (unit : Unit) (path : List ℕ) (row : ℕ) → visible b build n unit path ≡ Some row
    → SeenBy b build n unit path row
seen_by b build n unit path row is = by (object_among path (needed_units unit_of_member unit.prerequisites
    (members_before build n))) refl is
  where
    paired : needed_units unit_of_member unit.prerequisites (members_before build n)
        ≡ map member_of (needed_units unit_in unit.prerequisites (pairs_before (first_rows build.rows b) build n))
    paired = ap (needed_units unit_of_member unit.prerequisites) (members_paired (first_rows build.rows b) build n)
        ∙ needed_mapped member_of unit_of_member unit.prerequisites (pairs_before (first_rows build.rows b) build n)

    by : (o : Option ℕ) → object_among path (needed_units unit_of_member unit.prerequisites (members_before build n)) ≡ o →
        option_or o (file_at (first_rows build.rows b) build.view path) ≡ Some row → SeenBy b build n unit path row
    by (Some id) found is = ByUnit (given_before (first_rows build.rows b) build unit.prerequisites n unit.prerequisites path row
        AtOnce (sym (ap (object_among path) paired) ∙ found ∙ is))
    by None found is = ByFile is
