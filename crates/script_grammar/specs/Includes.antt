-- Which lines include a file, and where it is looked for.
use Rattle.std.specs.Prelude.{ℕ, ◌-◌, Bool, Option, Some, None, List, [], ◌∷◌, ◌++◌, length, take, drop, nat_eq, codes}
use Rattle.std.specs.Prelude.{if◌then◌else◌}
use Rattle.std.specs.List.{starts_with, ends_with, filter_map}
use Rattle.cc_names.specs.Paths.{is_root}
use Rattle.script_grammar.specs.Lines.{path_in}

-- a line without the newline that may end it
abbrev pub without_newline : List ℕ → List ℕ
without_newline line = if ends_with nat_eq line (10 ∷ []) then take (length line - 1) line else line

-- what an include line begins with, before its path and a `"`
abbrev pub include_start : List ℕ
include_start = codes "#include " ++ 34 ∷ []

-- the path between this beginning and a last `"`, where both are there and a path is between them
abbrev pub quoted_path : List ℕ → Option (List ℕ)
quoted_path bytes = if ends_with nat_eq bytes (34 ∷ []) then path_in (take (length bytes - 1) bytes) else None

-- the path of a line without its newline
abbrev pub include_of_bare : List ℕ → Option (List ℕ)
include_of_bare line = if starts_with nat_eq line include_start then quoted_path (drop (length include_start) line) else None

-- The path that a line includes: the line is exactly `#include "`, a path and `"`, and the newline that may end it.
abbrev pub include_of : List ℕ → Option (List ℕ)
include_of line = include_of_bare (without_newline line)

-- a path under a directory; none where it would be longer than a path may be
abbrev pub under : List ℕ → List ℕ → Option (List ℕ)
under path directory = if is_root directory then Some path else path_in (directory ++ 47 ∷ path)

-- Where an included path is looked for: at itself, and then under each directory. The root is under none.
abbrev pub probes_of : List (List ℕ) → List ℕ → List (List ℕ)
probes_of directories path = path ∷ (if is_root path then [] else filter_map (under path) directories)
