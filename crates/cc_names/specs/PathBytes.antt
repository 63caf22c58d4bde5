-- How a path keeps its bytes, and what its parts are.
use Rattle.std.specs.Prelude.{ℕ, Some, List, ◌≡◌}
use Rattle.cc_names.specs.Names.{IsName}
use Rattle.cc_names.specs.Paths.{IsPath, parent_of, last_of}
use Rattle.cc_names.specs.declared.paths.PathText.{PathText}
use Rattle.cc_names.specs.declared.paths.PathText.TheVariants.{Short, Long}

-- the bytes of a path that keeps them so
abbrev pub bytes_of : PathText → List ℕ
bytes_of (Short bytes) = bytes
bytes_of (Long bytes) = bytes

-- these are the parts of a path below the root
pub record PartsAre (path directory name : List ℕ) : Type 0 where
  pub parent : parent_of path ≡ Some directory
  pub last : last_of path ≡ Some name
  pub is_path : IsPath directory
  pub is_name : IsName name
