-- The fields of a `Tree`: what contracts see of them, and how they are in step.
use Rattle.std.specs.Prelude.{◌≡◌, ℕ, ◌-◌, ◌==◌, min, nat_lt, Option, List, [], ◌∷◌, map, reverse, find, vec_len, vec_capacity}
use Rattle.cc_names.specs.Versions.{row_of_change, versions_on, put_if}
use Rattle.cc_names.specs.Falling.{IsAbove, Falls}
use Rattle.version_tree.specs.Forest.{Forest}
use Rattle.version_tree.specs.Branches.{versions_by}
use Rattle.cc_names.specs.declared.changes.TreeChange.{TreeChange}
use Rattle.version_tree.specs.declared.changes.Made.{Made}
use Rattle.version_tree.specs.declared.branches.Branch.{Branch}
use Rattle.version_tree.specs.declared.Tree.TheInside.{Inside}

-- the change alone
abbrev pub change_alone : Made → TreeChange
change_alone made = made.change

-- the changes alone
abbrev pub changes_of : List Made → List TreeChange
changes_of made = map change_alone made

-- the row of a change
abbrev pub row_of_made : Made → ℕ
row_of_made made = row_of_change made.change

-- the row of a branch
abbrev pub row_of_branch : Branch → ℕ
row_of_branch branch = branch.row

-- the branches that have room for one more version
abbrev pub ready_branches : List Branch → List ℕ
ready_branches [] = []
ready_branches (branch ∷ branches) =
    put_if (nat_lt (vec_len branch.later) (vec_capacity branch.later)) branch.row (ready_branches branches)

-- what contracts see
abbrev pub forest_of : Inside → Forest
forest_of inside = record {
  changes = changes_of (reverse inside.made.items);
  room = min (vec_capacity inside.made - vec_len inside.made) (vec_capacity inside.branches - vec_len inside.branches);
  ready = ready_branches inside.branches.items;
}

-- the branch that a row made, where the newest branch is given first
abbrev pub branch_at : List Branch → ℕ → Option Branch
branch_at branches b = find (λ branch. branch.row == b) branches

-- The fields are in step: the changes and the branches, each newest first.
pub record InStep (made : List Made) (branches : List Branch) : Type 0 where
  pub falls : Falls (map row_of_made made)
  pub branches_fall : Falls (map row_of_branch branches)
  pub branches_made : (row : ℕ) → IsAbove row (map row_of_made made) → IsAbove row (map row_of_branch branches)
  pub kept : (b : ℕ) → versions_on (changes_of made) b ≡ versions_by (branch_at branches b)

-- the fields of a tree are in step
abbrev pub IsInStep : Inside → Type 0
IsInStep inside = InStep (reverse inside.made.items) (reverse inside.branches.items)
