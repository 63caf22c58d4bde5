-- The branches of an element beside `main`: their names and where they leave.
use Rattle.std.specs.Prelude.{ℕ, Bool, true, false, ◌==◌, ◌&&◌, Option, Some, None, option_map, option_and_then, List, [], ◌∷◌}
use Rattle.std.specs.Prelude.{◌++◌, find, if◌then◌else◌}
use Rattle.std.specs.Option.{option_map_or}
use Rattle.std.specs.Str.{bytes_eq}
use Rattle.cc_names.specs.Versions.{row_of_change, branch_of_change, change_at, is_number}
use Rattle.cc_names.specs.declared.changes.TreeChange.{TreeChange}
use Rattle.cc_names.specs.declared.changes.TreeChange.TheVariants.{BranchMade}

-- the version at which a row's branch leaves
abbrev pub origin_by : TreeChange → Option ℕ
origin_by (BranchMade row moment element origin name) = Some origin
origin_by _ = None

-- the version at a branch's point; `main` has none
abbrev pub origin_of : List TreeChange → ℕ → Option ℕ
origin_of changes b = option_and_then origin_by (change_at changes b)

-- the name that a row gave to its branch
abbrev pub name_by : TreeChange → Option (List ℕ)
name_by (BranchMade row moment element origin name) = Some name
name_by _ = None

-- the name of a branch; `main` has none of its own
abbrev pub name_of_branch : List TreeChange → ℕ → Option (List ℕ)
name_of_branch changes b = option_and_then name_by (change_at changes b)

-- whether a change made the element's branch of a name
abbrev pub makes_branch : ℕ → List ℕ → TreeChange → Bool
makes_branch e name (BranchMade row moment element origin own) = (e == element) && bytes_eq name own
makes_branch e name _ = false

-- the element's branch of a name, wherever it leaves
abbrev pub branch_named : List TreeChange → ℕ → List ℕ → Option ℕ
branch_named changes e name = option_map row_of_change (find (makes_branch e name) changes)

-- the branch on which a row's version stands
abbrev pub branch_of_version : List TreeChange → ℕ → Option ℕ
branch_of_version changes r = option_map branch_of_change (change_at changes r)

-- the branch on which a branch leaves its element's tree; `main` has none
abbrev pub branch_above : List TreeChange → ℕ → Option ℕ
branch_above changes b = option_and_then (branch_of_version changes) (origin_of changes b)

-- a branch where it leaves another one
abbrev pub if_above : List TreeChange → ℕ → ℕ → Option ℕ
if_above changes b below = if is_number b (branch_above changes below) then Some below else None

-- the branch to which names lead from a branch of the element, one branch leaving the other
abbrev pub branch_from : List TreeChange → ℕ → ℕ → List (List ℕ) → Option ℕ
branch_from changes e b [] = Some b
branch_from changes e b (name ∷ names) =
    option_and_then (λ next. branch_from changes e next names) (option_and_then (if_above changes b)
    (branch_named changes e name))

-- the element's branch whose names after `main` are these; no names lead to `main` itself
abbrev pub branch_behind : List TreeChange → ℕ → List (List ℕ) → Option ℕ
branch_behind changes e names = branch_from changes e e names

-- the names of a branch made by a change, given the names of older branches
abbrev pub branch_names_by : (ℕ → List (List ℕ)) → List TreeChange → TreeChange → List (List ℕ)
branch_names_by names older (BranchMade row moment element origin name) =
    option_map_or names (branch_of_version older origin) [] ++ name ∷ []
branch_names_by names older _ = []

-- the names after `main` that lead to a branch
abbrev pub names_of_branch : List TreeChange → ℕ → List (List ℕ)
names_of_branch [] b = []
names_of_branch (change ∷ older) b = elim (row_of_change change == b) [
  | true ↦ branch_names_by (names_of_branch older) older change
  | false ↦ names_of_branch older b
]
