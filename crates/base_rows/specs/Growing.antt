-- What a row adds to the trees of versions, and how code tells it.
use Rattle.std.specs.Prelude.{ℕ, ◌<◌, IsTrue, IsSome, Option, Some, None, option_map, List, ◌∷◌}
use Rattle.cc_names.specs.Branches.{branch_of_version}
use Rattle.cc_names.specs.Versions.{latest}
use Rattle.cc_names.specs.declared.changes.TreeChange.{TreeChange}
use Rattle.cc_names.specs.declared.changes.TreeChange.TheVariants.{ElementMade, BranchMade, VersionMade}
use Rattle.cc_names.specs.declared.rows.Deed.{Deed}
use Rattle.cc_names.specs.declared.rows.Deed.TheVariants as deeds
use Rattle.base_model.specs.Changes.{tree}
use Rattle.base_model.specs.Rows.{Base, size}
use Rattle.base_model.specs.Views.{Checkout, out}
use Rattle.version_tree.specs.Forest.{Forest, has_room}
use Rattle.base_rows.specs.declared.growth.Growth.{Growth}
use Rattle.base_rows.specs.declared.growth.Growth.TheVariants.{Same, Element, Branch, Version}

-- the version that a checkin makes in row n, where there is a checkout and its origin stands on a branch
abbrev pub version_made : ℕ → ℕ → List TreeChange → Option Checkout → Option TreeChange
version_made n moment changes None = None
version_made n moment changes (Some checkout) = option_map (VersionMade n moment) (branch_of_version changes checkout.origin)

-- what the next row adds to the trees
abbrev pub tree_change : Base → ℕ → Deed → Option TreeChange
tree_change older moment (deeds.Mkelem v directory name kind taken) = Some (ElementMade (size older) moment kind)
tree_change older moment (deeds.Branch v e origin name taken) = Some (BranchMade (size older) moment e origin name)
tree_change older moment (deeds.Checkin v e) = version_made (size older) moment (tree older) (out older v e)
tree_change older moment deed = None

-- the trees with one more change, where there is one
abbrev pub with_change : Option TreeChange → List TreeChange → List TreeChange
with_change None changes = changes
with_change (Some change) changes = change ∷ changes

-- the change that code tells, where row n makes it
abbrev pub change_of : ℕ → ℕ → Growth → Option TreeChange
change_of n moment Same = None
change_of n moment (Element kind) = Some (ElementMade n moment kind)
change_of n moment (Branch e origin name) = Some (BranchMade n moment e origin name)
change_of n moment (Version branch) = Some (VersionMade n moment branch)

-- a version is made on a branch that there is
abbrev pub IsRooted : List TreeChange → Growth → Type 0
IsRooted changes (Version branch) = IsSome (latest changes branch None)
IsRooted changes growth = Unit {0}

-- There is room for what a row adds: the branch of a version has room for it.
abbrev pub HasPlace : Forest → Growth → Type 0
HasPlace trees Same = Unit {0}
HasPlace trees (Element kind) = 0 < trees.room
HasPlace trees (Branch e origin name) = 0 < trees.room
HasPlace trees (Version branch) = (0 < trees.room) × IsTrue (has_room trees branch)
