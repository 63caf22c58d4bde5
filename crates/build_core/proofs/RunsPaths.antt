-- The paths that a script has.
use Rattle.std.proofs.Common.{ℕ, Result, Ok, Err, List, [], ◌∷◌}
use Rattle.std.specs.List.{flat_map}
use Rattle.cc_names.specs.declared.refusals.ScriptFault.{ScriptFault}
use Rattle.script_grammar.specs.Run.{Part, Says, TextOf, Preprocessed, parts_of}
use Rattle.script_grammar.specs.declared.lines.Line.{Line}
use Rattle.script_grammar.specs.declared.lines.Line.TheVariants.{Empty, Makes, Fail}

-- of a part, of a line, and of a text that was read
abbrev pub part_paths : Part → List (List ℕ)
part_paths (Says more) = []
part_paths (TextOf form path) = path ∷ []
part_paths (Preprocessed directories path) = path ∷ []

abbrev pub line_paths : Line → List (List ℕ)
line_paths Empty = []
line_paths (Fail n) = []
line_paths (Makes work appends output) = flat_map part_paths (parts_of work)

abbrev pub script_paths : Result (List Line) ScriptFault → List (List ℕ)
script_paths (Err fault) = []
script_paths (Ok lines) = flat_map line_paths lines
