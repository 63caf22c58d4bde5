-- The words of a line as paths below the root.
use Rattle.std.specs.Prelude.{ℕ, Bool, Option, Some, None, List, [], ◌∷◌, ◌++◌, fold, slice_get, if◌then◌else◌}
use Rattle.std.specs.List.{list_any}
use Rattle.std.specs.Result.{result_ok}
use Rattle.std.specs.Str.{bytes_eq}
use Rattle.cc_names.specs.Paths.{path_of, is_root, paths_read}
use Rattle.make_grammar.specs.Lines.{is_byte}

-- a path that is not the root
abbrev pub unless_root : Option (List ℕ) → Option (List ℕ)
unless_root None = None
unless_root (Some path) = if is_root path then None else Some path

-- a word as a path below the root, where it is one
abbrev pub path_below_root : List ℕ → Option (List ℕ)
path_below_root word = unless_root (result_ok (path_of word))

-- words as paths below the root, where all of them are so
abbrev pub paths_below_root : List (List ℕ) → Option (List (List ℕ))
paths_below_root words = paths_read path_below_root words

-- a path after paths, unless it stands there
abbrev pub with_path_once : List (List ℕ) → List ℕ → List (List ℕ)
with_path_once paths path = if list_any (bytes_eq path) paths then paths else paths ++ path ∷ []

-- paths, each of them once
abbrev pub each_once : List (List ℕ) → List (List ℕ)
each_once paths = fold with_path_once [] paths

-- lists of paths put together, each path once
abbrev pub once_joined : List (List (List ℕ)) → List (List ℕ)
once_joined parts = fold (fold with_path_once) [] parts

-- a `.` at the start
abbrev pub begins_with_period : List ℕ → Bool
begins_with_period path = is_byte 46 (slice_get path 0)
