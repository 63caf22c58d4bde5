-- The name of the version that the next row of a base makes, given by the rows that are there.
use Rattle.std.proofs.Common.{◌≡◌, refl, ap, ap₂, sym, subst, ◌∙◌, ℕ, suc, ◌+◌, ◌<◌, ◌≤◌, ◌==◌, Bool, true, false, cond, Option}
use Rattle.std.proofs.Common.{Some, None, List, [], ◌∷◌, ◌++◌, length, append-nil, append_assoc, arith}
use Rattle.std.specs.Prelude.{codes, decimal, find, option_and_then, option_map}
use Rattle.std.specs.Option.{option_map_or}
use Rattle.std.proofs.lemmas.Bool.Decides.{nat_tests}
use Rattle.cc_names.specs.Branches.{branch_of_version, names_of_branch}
use Rattle.cc_names.specs.Formed.{Plain}
use Rattle.cc_names.specs.Versions.{Version, branch_of_change, change_at, element_by, element_of_branch, latest, version_id}
use Rattle.cc_names.specs.Versions.{version_id_of, put_if, row_of_change, version_at, version_of_change, versions_on}
use Rattle.cc_names.specs.declared.changes.VersionId.{VersionId}
use Rattle.cc_names.specs.declared.changes.TreeChange.{TreeChange}
use Rattle.cc_names.specs.declared.changes.TreeChange.TheVariants.{ElementMade, BranchMade, VersionMade}
use Rattle.cc_names.specs.declared.rows.Kind.TheVariants.{Directory}
use Rattle.view_lookup.specs.Naming.{names_above, name_on, name_of_new}
use Rattle.base_model.specs.Changes.{tree}
use Rattle.base_model.specs.Rows.{Base, size}
use Rattle.legal_history.specs.Queries.VersionNames.{behind_slashes, version_name, name_of_version_id}
use Rattle.base_model.proofs.Below.{Within, within, older_change}
use Rattle.base_model.proofs.TreesStay.{Adds, Nothing, One, adds_row}
use Rattle.base_model.proofs.VersionsStay.{apart_below, find_older}

-- ---- the newest version of a branch

-- the newest version of a branch stands on it, and is numbered by those below it
pub record IsNewest (changes : List TreeChange) (branch : ℕ) (v : Version) : Type 0 where
  pub on : v.branch ≡ branch
  pub number : v.number + 1 ≡ length (versions_on changes branch)

newest_is : (changes : List TreeChange) (branch : ℕ) (v : Version) (rest : List Version) → versions_on changes branch ≡ v ∷ rest
    → IsNewest changes branch v
newest_is [] branch v rest h = absurd (cc)
newest_is (change ∷ older) branch v rest h = by (branch_of_change change == branch) refl (newest_is older branch v rest)
  where
    by : (is : Bool) → (branch_of_change change == branch) ≡ is → (versions_on older branch ≡ v ∷ rest → IsNewest older branch v)
        → IsNewest (change ∷ older) branch v
    by true test below =
        let all : versions_on (change ∷ older) branch ≡ version_of_change change (length (versions_on older branch))
        ∷ versions_on older branch = ap (λ is. put_if is (version_of_change change (length (versions_on older branch)))
        (versions_on older branch)) test in
        let same : v ≡ version_of_change change (length (versions_on older branch)) = cc in
        let on : branch_of_change change ≡ branch = grind (arith, nat_tests, test) in
        record {
          on = ap (λ v. v.branch) same ∙ on;
          number = ap (λ v. v.number + 1) same ∙ grind (arith, all);
        }
    by false test below =
        let all : versions_on (change ∷ older) branch ≡ versions_on older branch =
        ap (λ is. put_if is (version_of_change change (length (versions_on older branch))) (versions_on older branch)) test in
        let before = below (sym all ∙ h) in
        record { on = before.on; number = before.number ∙ ap length (sym all) }

-- a version is found by its row as before, where a change after it is by another row
found_before : (n : ℕ) (change : TreeChange) (before : List TreeChange) (r : ℕ) (v : Version) → row_of_change change ≡ n
    → Within n before → version_at before r ≡ Some v → version_at (change ∷ before) r ≡ Some v
found_before n change before r v number low e = by (change_at before r) refl e
  where
    by : (o : Option TreeChange) → change_at before r ≡ o → option_and_then
        (λ c. find (λ v. v.row == r) (versions_on before (branch_of_change c))) o ≡ Some v
        → version_at (change ∷ before) r ≡ Some v
    by None is e = absurd (cc)
    by (Some c) is e =
        let apart : (row_of_change change == r) ≡ false = apart_below (row_of_change change) n r number (low.numbers r c is) in
        ap (option_and_then (λ c. find (λ v. v.row == r) (versions_on (change ∷ before) (branch_of_change c))))
        (older_change change before r apart ∙ is)
        ∙ find_older change before r (branch_of_change c) apart ∙ e

-- the version that a change makes is found by its row
found_now : (change : TreeChange) (before : List TreeChange) → version_at (change ∷ before) (row_of_change change)
    ≡ Some (version_of_change change (length (versions_on before (branch_of_change change))))
found_now change before =
    let row : (row_of_change change == row_of_change change) ≡ true = grind (arith, nat_tests) in
    let branch : (branch_of_change change == branch_of_change change) ≡ true = grind (arith, nat_tests) in
    ap (λ is. option_and_then (λ c. find (λ v. v.row == row_of_change change)
    (versions_on (change ∷ before) (branch_of_change c))) (cond is (Some change) (change_at before (row_of_change change))))
    row
    ∙ ap (λ is. find (λ v. v.row == row_of_change change) (put_if is (version_of_change change
    (length (versions_on before (branch_of_change change)))) (versions_on before (branch_of_change change)))) branch
    ∙ ap (λ is. cond is (Some (version_of_change change (length (versions_on before (branch_of_change change)))))
    (find (λ v. v.row == row_of_change change) (versions_on before (branch_of_change change)))) row

newest_by : (n : ℕ) (change : TreeChange) (before : List TreeChange) (branch : ℕ) (v : Version) (rest : List Version)
    → row_of_change change ≡ n → Within n before →
    ((rest : List Version) → versions_on before branch ≡ v ∷ rest → version_at before v.row ≡ Some v)
    → versions_on (change ∷ before) branch ≡ v ∷ rest → version_at (change ∷ before) v.row ≡ Some v
newest_by n change before branch v rest number low found h = by (branch_of_change change == branch) refl
  where
    by : (is : Bool) → (branch_of_change change == branch) ≡ is → version_at (change ∷ before) v.row ≡ Some v
    by true test =
        let all : versions_on (change ∷ before) branch ≡ version_of_change change (length (versions_on before branch))
        ∷ versions_on before branch = ap (λ is. put_if is (version_of_change change (length (versions_on before branch)))
        (versions_on before branch)) test in
        let on : branch_of_change change ≡ branch = grind (arith, nat_tests, test) in
        let same : v ≡ version_of_change change (length (versions_on before (branch_of_change change))) = cc in
        subst (λ v. version_at (change ∷ before) v.row ≡ Some v) (sym same) (found_now change before)
    by false test =
        let all : versions_on (change ∷ before) branch ≡ versions_on before branch =
        ap (λ is. put_if is (version_of_change change (length (versions_on before branch))) (versions_on before branch)) test
        in
        found_before n change before v.row v number low (found rest (sym all ∙ h))

no_changes : Within 0 []
no_changes = record { numbers = λ r c e. absurd (cc); branches = λ r c e. absurd (cc) }

-- the newest version of a branch is found by its row
newest_found : (b : Base) (branch : ℕ) (v : Version) (rest : List Version) → versions_on (tree b) branch ≡ v ∷ rest
    → version_at (tree b) v.row ≡ Some v
newest_found [] branch v rest h = newest_by 0 (ElementMade 0 0 Directory) [] branch v rest refl no_changes (λ rest e. absurd (cc))
    h
newest_found (row ∷ older) branch v rest h = by (adds_row older row.moment row.deed (tree older)) (newest_found older branch v) h
  where
    by : {after : List TreeChange} → Adds (size older) (tree older) after
        → ((rest : List Version) → versions_on (tree older) branch ≡ v ∷ rest → version_at (tree older) v.row ≡ Some v) →
        versions_on after branch ≡ v ∷ rest → version_at after v.row ≡ Some v
    by (Nothing same) found h = subst (λ cs. version_at cs v.row ≡ Some v) (sym same)
        (found rest (ap (λ cs. versions_on cs branch) (sym same) ∙ h))
    by (One change number same) found h =
        subst (λ cs. version_at cs v.row ≡ Some v) (sym same)
        (newest_by (size older) change (tree older) branch v rest number (within older) found
        (ap (λ cs. versions_on cs branch) (sym same) ∙ h))

-- What is known of the newest version of a branch: how many there are, by its version id, and the element, if any.
pub data Newest (b : Base) (branch : ℕ) : Option ℕ → Option VersionId → Type 0 where
  Empty : versions_on (tree b) branch ≡ [] → Newest b branch None None
  Stands : (row : ℕ) (p : VersionId) → p.number + 1 ≡ length (versions_on (tree b) branch)
      → element_of_branch (tree b) branch ≡ Some p.element → Newest b branch (Some row) (Some p)
  Alone : (row : ℕ) → element_of_branch (tree b) branch ≡ None → Newest b branch (Some row) None

pub newest_of : (b : Base) (branch : ℕ) → Newest b branch (latest (tree b) branch None)
    (option_and_then (version_id (tree b)) (latest (tree b) branch None))
newest_of b branch = by (versions_on (tree b) branch) refl
  where
    owned : (v : Version) (rest : List Version) → versions_on (tree b) branch ≡ v ∷ rest → (o : Option ℕ)
        → element_of_branch (tree b) branch ≡ o →
        Newest b branch (Some v.row) (option_map (version_id_of v) o)
    owned v rest is None none = Alone v.row none
    owned v rest is (Some e) some = Stands v.row (version_id_of v e) (newest_is (tree b) branch v rest is).number some

    by : (versions : List Version) → versions_on (tree b) branch ≡ versions
        → Newest b branch (latest (tree b) branch None) (option_and_then (version_id (tree b)) (latest (tree b) branch None))
    by [] is = rw is (Empty is)
    by (v ∷ rest) is =
        let row : latest (tree b) branch None ≡ Some v.row = rw is refl in
        let at : version_id (tree b) v.row ≡ option_map (version_id_of v) (element_of_branch (tree b) branch) =
        ap (option_and_then (λ v. option_map (version_id_of v) (element_of_branch (tree b) v.branch)))
        (newest_found b branch v rest is)
        ∙ ap (λ n. option_map (version_id_of v) (element_of_branch (tree b) n)) (newest_is (tree b) branch v rest is).on in
        rw (row, at) (owned v rest is (element_of_branch (tree b) branch) refl)

-- ---- the version that a checkin makes

-- a version is made on a branch that is there
pub version_next : (row : Plain) (b : Base) (branch moment : ℕ) → branch < size b
    → tree (row ∷ b) ≡ VersionMade (size b) moment branch ∷ tree b →
    version_name (row ∷ b) (size b) ≡ name_on (tree b) branch (element_of_branch (tree b) branch)
version_next row b branch moment low made = by (element_of_branch (tree b) branch) refl
  where
    new : TreeChange
    new = VersionMade (size b) moment branch

    count : ℕ
    count = length (versions_on (tree b) branch)

    apart : (size b == branch) ≡ false
    apart = grind (arith, nat_tests, low)

    owner : element_of_branch (tree (row ∷ b)) branch ≡ element_of_branch (tree b) branch
    owner = ap (λ cs. element_of_branch cs branch) made ∙ ap (option_and_then element_by) (older_change new (tree b) branch apart)

    version : version_at (tree (row ∷ b)) (size b) ≡ Some (version_of_change new count)
    version = ap (λ cs. version_at cs (size b)) made ∙ found_now new (tree b)

    names : names_of_branch (tree (row ∷ b)) branch ≡ names_of_branch (tree b) branch
    names = ap (λ cs. names_of_branch cs branch) made ∙ ap (λ is. elim is as (λ x. List (List ℕ)) [
      | true ↦ []
      | false ↦
          names_of_branch (tree b) branch
    ]) apart

    stands : version_id (tree (row ∷ b)) (size b) ≡ option_map (version_id_of (version_of_change new count))
        (element_of_branch (tree b) branch)
    stands = ap (option_and_then (λ v. option_map (version_id_of v) (element_of_branch (tree (row ∷ b)) v.branch))) version
        ∙ ap (option_map (version_id_of (version_of_change new count))) owner

    by : (o : Option ℕ) → element_of_branch (tree b) branch ≡ o → version_name (row ∷ b) (size b) ≡ name_on (tree b) branch o
    by None is = ap (λ p. option_map_or (name_of_version_id (row ∷ b)) p []) (stands
        ∙ ap (option_map (version_id_of (version_of_change new count))) is)
    by (Some e) is = ap (λ p. option_map_or (name_of_version_id (row ∷ b)) p []) (stands
        ∙ ap (option_map (version_id_of (version_of_change new count))) is)
        ∙ ap (λ names. behind_slashes (codes "main" ∷ names) ++ 47 ∷ decimal count) names

-- a row that makes no change has made no version
pub no_version : (row : Plain) (b : Base) → tree (row ∷ b) ≡ tree b → version_name (row ∷ b) (size b) ≡ []
no_version row b same = by (change_at (tree b) (size b)) refl
  where
    by : (o : Option TreeChange) → change_at (tree b) (size b) ≡ o → version_name (row ∷ b) (size b) ≡ []
    by None is =
        ap (λ p. option_map_or (name_of_version_id (row ∷ b)) p []) (ap (λ cs. version_id cs (size b)) same
        ∙ ap (λ o. option_and_then (λ v. option_map (version_id_of v) (element_of_branch (tree b) v.branch))
        (option_and_then (λ c. find (λ v. v.row == size b) (versions_on (tree b) (branch_of_change c))) o)) is)
    by (Some c) is = let low = (within b).numbers (size b) c is in absurd (omega arith)

-- no version stands on a branch that no row made yet
none_by : (n branch : ℕ) (before : List TreeChange) {after : List TreeChange} → suc n ≤ branch → Adds n before after
    → Within (suc n) after → versions_on before branch ≡ [] → versions_on after branch ≡ []
none_by n branch before past (Nothing same) low none = ap (λ cs. versions_on cs branch) same ∙ none
none_by n branch before past (One change number same) low none =
    let first : (row_of_change change == row_of_change change) ≡ true = grind (arith, nat_tests) in
    let made : change_at (change ∷ before) (row_of_change change) ≡ Some change =
    ap (λ is. cond is (Some change) (change_at before (row_of_change change))) first in
    let below : branch_of_change change < suc n = low.branches (row_of_change change) change
    (ap (λ cs. change_at cs (row_of_change change)) same ∙ made) in
    let apart : (branch_of_change change == branch) ≡ false = grind (arith, nat_tests, below, past) in
    ap (λ cs. versions_on cs branch) same
    ∙ ap (λ is. put_if is (version_of_change change (length (versions_on before branch))) (versions_on before branch)) apart
    ∙ none

pub none_on : (b : Base) (branch : ℕ) → size b ≤ branch → versions_on (tree b) branch ≡ []
none_on [] branch past =
    let apart : (0 == branch) ≡ false = grind (arith, nat_tests, past) in
    ap (λ is. put_if is (version_of_change (ElementMade 0 0 Directory) 0) []) apart
none_on (row ∷ older) branch past =
    none_by (size older) branch (tree older) past (adds_row older row.moment row.deed (tree older)) (within (row ∷ older))
    (none_on older branch (omega (arith, past)))

-- ---- the version with which a branch begins

pub version_first : (row : Plain) (b : Base) (moment e origin : ℕ) (name : List ℕ)
    → tree (row ∷ b) ≡ BranchMade (size b) moment e origin name ∷ tree b →
    version_name (row ∷ b) (size b) ≡ name_of_new (tree b) (branch_of_version (tree b) origin) name
version_first row b moment e origin name made =
    ap (λ p. option_map_or (name_of_version_id (row ∷ b)) p []) stands
    ∙ ap₂ (λ names n. behind_slashes (codes "main" ∷ names) ++ 47 ∷ decimal n) names
    (ap length (none_on b (size b) (omega arith)))
  where
    new : TreeChange
    new = BranchMade (size b) moment e origin name

    count : ℕ
    count = length (versions_on (tree b) (size b))

    same : (size b == size b) ≡ true
    same = grind (arith, nat_tests)

    owner : element_of_branch (tree (row ∷ b)) (size b) ≡ Some e
    owner = ap (λ cs. element_of_branch cs (size b)) made ∙ ap (λ is. option_and_then element_by
        (cond is (Some new) (change_at (tree b) (size b)))) same

    version : version_at (tree (row ∷ b)) (size b) ≡ Some (version_of_change new count)
    version = ap (λ cs. version_at cs (size b)) made ∙ found_now new (tree b)

    names : names_of_branch (tree (row ∷ b)) (size b) ≡ names_above (tree b) (branch_of_version (tree b) origin) ++ name ∷ []
    names = ap (λ cs. names_of_branch cs (size b)) made
        ∙ ap (λ is. elim is as (λ x. List (List ℕ)) [
          | true ↦ names_above (tree b) (branch_of_version (tree b) origin) ++ name
              ∷ []
          | false ↦ names_of_branch (tree b) (size b)
        ]) same

    stands : version_id (tree (row ∷ b)) (size b) ≡ Some (version_id_of (version_of_change new count) e)
    stands = ap (option_and_then (λ v. option_map (version_id_of v) (element_of_branch (tree (row ∷ b)) v.branch))) version
        ∙ ap (option_map (version_id_of (version_of_change new count))) owner

-- ---- how many versions there may be

few_versions : (changes : List TreeChange) (branch : ℕ) → length (versions_on changes branch) ≤ length changes
few_versions [] branch = omega arith
few_versions (change ∷ older) branch = by (branch_of_change change == branch) (few_versions older branch)
  where
    by : (is : Bool) → length (versions_on older branch) ≤ length older
        → length (put_if is (version_of_change change (length (versions_on older branch))) (versions_on older branch))
        ≤ suc (length older)
    by true few = omega (arith, few)
    by false few = omega (arith, few)

few_changes : (b : Base) → length (tree b) ≤ size b
few_changes [] = omega arith
few_changes (row ∷ older) = by (adds_row older row.moment row.deed (tree older)) (few_changes older)
  where
    by : {after : List TreeChange} → Adds (size older) (tree older) after → length (tree older) ≤ size older
        → length after ≤ suc (size older)
    by (Nothing same) few = let count = ap length same in omega (arith, few, count)
    by (One change number same) few = let count = ap length same in omega (arith, few, count)

pub few_on : (b : Base) (branch : ℕ) → length (versions_on (tree b) branch) ≤ size b
few_on b branch = let versions = few_versions (tree b) branch in let changes = few_changes b in omega (arith, versions, changes)

-- ---- slashes

pub slashes_more : (names : List (List ℕ)) (name : List ℕ) → behind_slashes (names ++ name ∷ []) ≡ behind_slashes names ++ 47
    ∷ name
slashes_more [] name = ap (λ bytes. 47 ∷ bytes) (append-nil name)
slashes_more (first ∷ names) name = ap (λ bytes. 47 ∷ (first ++ bytes)) (slashes_more names name)
    ∙ ap (λ bytes. 47 ∷ bytes) (sym (append_assoc first (behind_slashes names) (47 ∷ name)))

-- the branch of a version lies below the next row
pub branch_below : (b : Base) (version branch : ℕ) → branch_of_version (tree b) version ≡ Some branch → branch < size b
branch_below b version branch is = by (change_at (tree b) version) refl is
  where
    by : (o : Option TreeChange) → change_at (tree b) version ≡ o → option_map branch_of_change o ≡ Some branch → branch < size b
    by None at is = absurd (cc)
    by (Some c) at is = let same : branch_of_change c ≡ branch = cc in
        subst (λ n. n < size b) same ((within b).branches version c at)
