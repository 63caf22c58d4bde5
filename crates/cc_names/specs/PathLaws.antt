-- How the parent, the last name and the join of paths belong together.
use Rattle.std.specs.Prelude.{◌≡◌, ℕ, false, Some, Ok, List}
use Rattle.cc_names.specs.Names.{IsName}
use Rattle.cc_names.specs.Paths.{is_root, IsPath, parent_of, last_of, join_of}

-- a path that is joined from a directory and a name has that parent and that last name
abbrev pub JoinHasParts : Type 0
JoinHasParts =
    (directory name path : List ℕ) → IsPath directory → IsName name → join_of directory name ≡ Ok path
    → (parent_of path ≡ Some directory) × (last_of path ≡ Some name)

-- a path below the root is the join of its parent and its last name
abbrev pub PartsJoin : Type 0
PartsJoin =
    (path : List ℕ) → IsPath path → is_root path ≡ false
    → (directory : List ℕ) × (name : List ℕ) × (parent_of path ≡ Some directory) × (last_of path ≡ Some name)
    × (join_of directory name ≡ Ok path)
