-- What contracts see of a `Tree`: the changes of the trees of all elements.
use Rattle.std.specs.Prelude.{◌≡◌, ℕ, ◌+◌, ◌≤◌, ◌==◌, Bool, false, IsTrue, List, ◌∷◌}
use Rattle.std.specs.List.{list_any}
use Rattle.cc_names.specs.declared.changes.TreeChange.{TreeChange}
use Rattle.cc_names.specs.declared.changes.TreeChange.TheVariants.{VersionMade}

-- the changes, newest first; and room, of which nothing is promised but where it is named
pub record Forest : Type 0 where
  pub changes : List TreeChange
  pub room : ℕ  -- how many more elements, branches or versions
  pub ready : List ℕ  -- the branches that have room for one more version

-- whether a branch has room for one more version
abbrev pub has_room : Forest → ℕ → Bool
has_room forest branch = list_any (λ b. b == branch) forest.ready

-- whether a change uses a branch's room for one more version
abbrev pub uses_room : TreeChange → ℕ → Bool
uses_room (VersionMade row moment branch) b = branch == b
uses_room _ b = false

-- one change more, for which there was room; all branches but its own keep theirs
pub record AddsChange (old new : Forest) (change : TreeChange) : Type 0 where
  pub changes : new.changes ≡ change ∷ old.changes
  pub room : old.room ≤ new.room + 1
  pub ready : (b : ℕ) → uses_room change b ≡ false → IsTrue (has_room old b) → IsTrue (has_room new b)

-- nothing is changed but room, of which there is no less
pub record KeepsAll (old new : Forest) : Type 0 where
  pub changes : new.changes ≡ old.changes
  pub room : old.room ≤ new.room
