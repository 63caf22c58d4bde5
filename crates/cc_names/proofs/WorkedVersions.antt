-- Worked trees of versions, checked by computation.
use Rattle.std.proofs.Common.{◌≡◌, Some, None, List, [], ◌∷◌, refl}
use Rattle.std.specs.Prelude.{codes, map}
use Rattle.cc_names.specs.Versions.{of_first_rows, versions_on, versions_of, row_of_version, version_id, latest}
use Rattle.cc_names.specs.Versions.{version_of_number, kind_of}
use Rattle.cc_names.specs.Branches.{origin_of, name_of_branch, branch_named, branch_behind, names_of_branch}
use Rattle.cc_names.specs.declared.rows.Kind.TheVariants.{File, Directory}
use Rattle.cc_names.specs.declared.changes.TreeChange.{TreeChange}
use Rattle.cc_names.specs.declared.changes.TreeChange.TheVariants.{ElementMade, BranchMade, VersionMade}

-- the root alone, which row 0 makes
abbrev root : List TreeChange
root = ElementMade 0 0 Directory ∷ []

-- A directory with the two files of a small build: rows 3 and 6 make `Makefile` and `in`, rows 5, 8 and 9 check in
-- `Makefile`, `in` and the root. Then row 17 checks in `in` again.
abbrev checked_in : List TreeChange
checked_in =
    VersionMade 17 20 6 ∷ VersionMade 9 10 0 ∷ VersionMade 8 10 6 ∷ ElementMade 6 10 File ∷ VersionMade 5 10 3
    ∷ ElementMade 3 10 File ∷ root

-- the same, with a branch `fix` of `in` that leaves at row 8, and one version more on it
abbrev branched : List TreeChange
branched = VersionMade 21 30 19 ∷ BranchMade 19 30 6 8 (codes "fix") ∷ checked_in

newest_of_in : latest checked_in 6 None ≡ Some 17
newest_of_in = refl

newest_before_row_17 : latest (of_first_rows 17 checked_in) 6 None ≡ Some 8
newest_before_row_17 = refl

-- a moment that equals the limit is not before it
newest_before_moment : latest checked_in 6 (Some 20) ≡ Some 8
newest_before_moment = refl

none_before_all : latest checked_in 6 (Some 10) ≡ None
none_before_all = refl

numbers_of_in : map row_of_version (versions_on checked_in 6) ≡ 17 ∷ 8 ∷ 6 ∷ []
numbers_of_in = refl

third_of_in : version_of_number checked_in 6 2 ≡ Some 17
third_of_in = refl

no_fourth : version_of_number checked_in 6 3 ≡ None
no_fourth = refl

version_id_of_17 : version_id checked_in 17 ≡ Some (record { element = 6; branch = 6; number = 2 })
version_id_of_17 = refl

no_version_id : version_id checked_in 10 ≡ None
no_version_id = refl

kinds : (kind_of checked_in 6 ≡ Some File) × (kind_of checked_in 0 ≡ Some Directory) × (kind_of checked_in 5 ≡ None)
kinds = (refl, refl, refl)

-- the branch begins with its own version 0, and `main` stays as it was
on_the_branch : version_id branched 21 ≡ Some (record { element = 6; branch = 19; number = 1 })
on_the_branch = refl

first_on_the_branch : version_id branched 19 ≡ Some (record { element = 6; branch = 19; number = 0 })
first_on_the_branch = refl

newest_on_main : latest branched 6 None ≡ Some 17
newest_on_main = refl

named : branch_named branched 6 (codes "fix") ≡ Some 19
named = refl

named_too_early : branch_named (of_first_rows 19 branched) 6 (codes "fix") ≡ None
named_too_early = refl

not_of_another : branch_named branched 3 (codes "fix") ≡ None
not_of_another = refl

behind_main : (branch_behind branched 6 (codes "fix" ∷ []) ≡ Some 19) × (branch_behind branched 6 [] ≡ Some 6)
behind_main = (refl, refl)

names_and_origins : (name_of_branch branched 19 ≡ Some (codes "fix")) × (origin_of branched 19 ≡ Some 8)
    × (origin_of branched 6 ≡ None)
names_and_origins = (refl, refl, refl)

names_behind_main : (names_of_branch branched 19 ≡ codes "fix" ∷ []) × (names_of_branch branched 6 ≡ [])
names_behind_main = (refl, refl)

all_of_in : map row_of_version (versions_of branched 6) ≡ 21 ∷ 19 ∷ 17 ∷ 8 ∷ 6 ∷ []
all_of_in = refl
