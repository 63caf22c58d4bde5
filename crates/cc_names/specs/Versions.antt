-- The trees of versions of all elements, given by the list of their changes, the newest first. An element and its branch
-- `main` are named by the row that made the element, any other branch and every version by its own row.
use Rattle.std.specs.Prelude.{ℕ, Bool, true, false, ◌==◌, nat_lt, Option, Some, None, option_map, option_and_then, List, [], ◌∷◌}
use Rattle.std.specs.Prelude.{length, filter, find}
use Rattle.cc_names.specs.declared.rows.Kind.{Kind}
use Rattle.cc_names.specs.declared.changes.VersionId.{VersionId}
use Rattle.cc_names.specs.declared.changes.TreeChange.{TreeChange}
use Rattle.cc_names.specs.declared.changes.TreeChange.TheVariants.{ElementMade, BranchMade, VersionMade}

-- the row that made a change
abbrev pub row_of_change : TreeChange → ℕ
row_of_change (ElementMade row moment kind) = row
row_of_change (BranchMade row moment element origin name) = row
row_of_change (VersionMade row moment branch) = row

-- when a change was made
abbrev pub moment_of_change : TreeChange → ℕ
moment_of_change (ElementMade row moment kind) = moment
moment_of_change (BranchMade row moment element origin name) = moment
moment_of_change (VersionMade row moment branch) = moment

-- the branch on which a change made a version: each change makes one
abbrev pub branch_of_change : TreeChange → ℕ
branch_of_change (ElementMade row moment kind) = row
branch_of_change (BranchMade row moment element origin name) = row
branch_of_change (VersionMade row moment branch) = branch

-- the changes that the first rows of a base made: a row is among the first `rows` where its number is below that
abbrev pub of_first_rows : ℕ → List TreeChange → List TreeChange
of_first_rows rows changes = filter (λ change. nat_lt (row_of_change change) rows) changes

-- what a row made
abbrev pub change_at : List TreeChange → ℕ → Option TreeChange
change_at changes row = find (λ change. row_of_change change == row) changes

-- one version: the row that made it, when, on which branch, and its number there
pub record Version : Type 0 where
  pub row : ℕ
  pub moment : ℕ
  pub branch : ℕ
  pub number : ℕ

-- the version that a change made, where the branch had so many before
abbrev pub version_of_change : TreeChange → ℕ → Version
version_of_change change number = record {
  row = row_of_change change;
  moment = moment_of_change change;
  branch = branch_of_change change;
  number = number;
}

-- one more at the head of a list, where a test holds
abbrev pub put_if : {A : Type 0} → Bool → A → List A → List A
put_if true a rest = a ∷ rest
put_if false a rest = rest

-- The versions on a branch, the newest first. The number of each is how many the branch had before it.
abbrev pub versions_on : List TreeChange → ℕ → List Version
versions_on [] b = []
versions_on (change ∷ older) b =
    put_if (branch_of_change change == b) (version_of_change change (length (versions_on older b))) (versions_on older b)

-- the element that a row made with its branch `main`, or made a branch of
abbrev pub element_by : TreeChange → Option ℕ
element_by (ElementMade row moment kind) = Some row
element_by (BranchMade row moment element origin name) = Some element
element_by (VersionMade row moment branch) = None

-- the element of a branch
abbrev pub element_of_branch : List TreeChange → ℕ → Option ℕ
element_of_branch changes b = option_and_then element_by (change_at changes b)

-- whether there is a number and it is this one
abbrev pub is_number : ℕ → Option ℕ → Bool
is_number n None = false
is_number n (Some m) = n == m

-- all versions of an element on all its branches, the newest first
abbrev pub versions_of : List TreeChange → ℕ → List Version
versions_of [] e = []
versions_of (change ∷ older) e =
    put_if (is_number e (element_of_branch (change ∷ older) (branch_of_change change)))
    (version_of_change change (length (versions_on older (branch_of_change change))))
    (versions_of older e)

-- the row that made a version
abbrev pub row_of_version : Version → ℕ
row_of_version version = version.row

-- the number of a version on its branch
abbrev pub number_of_version : Version → ℕ
number_of_version version = version.number

-- the version that a row made
abbrev pub version_at : List TreeChange → ℕ → Option Version
version_at changes r =
    option_and_then (λ change. find (λ v. v.row == r) (versions_on changes (branch_of_change change))) (change_at changes r)

-- the id of a version, once its element is found
abbrev pub version_id_of : Version → ℕ → VersionId
version_id_of version element = record { element = element; branch = version.branch; number = version.number }

-- the element, the branch and the number of the version that a row made
abbrev pub version_id : List TreeChange → ℕ → Option VersionId
version_id changes r =
    option_and_then (λ v. option_map (version_id_of v) (element_of_branch changes v.branch)) (version_at changes r)

-- whether a moment is before another one, where there is another one
abbrev pub is_before : Option ℕ → ℕ → Bool
is_before None moment = true
is_before (Some limit) moment = nat_lt moment limit

-- the last version on a branch that was made before a moment
abbrev pub latest : List TreeChange → ℕ → Option ℕ → Option ℕ
latest changes b before = option_map row_of_version (find (λ v. is_before before v.moment) (versions_on changes b))

-- the version with a number on a branch
abbrev pub version_of_number : List TreeChange → ℕ → ℕ → Option ℕ
version_of_number changes b number = option_map row_of_version (find (λ v. v.number == number) (versions_on changes b))

-- what kind of element a row made
abbrev pub kind_by : TreeChange → Option Kind
kind_by (ElementMade row moment kind) = Some kind
kind_by _ = None

-- what kind an element is of
abbrev pub kind_of : List TreeChange → ℕ → Option Kind
kind_of changes e = option_and_then kind_by (change_at changes e)
