-- What a script is: lines of words, each of a kind of its own.
use Rattle.std.specs.Prelude.{ℕ, ◌+◌, Bool, true, false, Option, Some, None, option_map, Result, Ok, Err, List, [], ◌∷◌, length}
use Rattle.std.specs.Prelude.{reverse, if◌then◌else◌, codes}
use Rattle.std.specs.List.{slice_split}
use Rattle.std.specs.Result.{result_ok}
use Rattle.std.specs.Str.{bytes_eq}
use Rattle.cc_names.specs.Cuts.{is_newline}
use Rattle.cc_names.specs.Paths.{path_of, path_before, paths_read}
use Rattle.cc_names.specs.declared.refusals.ScriptFault.{ScriptFault}
use Rattle.cc_names.specs.declared.refusals.ScriptFault.TheVariants as faults
use Rattle.cc_names.specs.Numbers.{number_of}
use Rattle.script_grammar.specs.Words.{words, without_at}
use Rattle.script_grammar.specs.declared.lines.Work.{Work}
use Rattle.script_grammar.specs.declared.lines.Work.TheVariants.{Echo, Cat, Preprocess, Substitute, Head, Digest, Link}
use Rattle.script_grammar.specs.declared.lines.Line.{Line}
use Rattle.script_grammar.specs.declared.lines.Line.TheVariants.{Empty, Makes, Fail}

-- a word as a path, where it is one
abbrev pub path_in : List ℕ → Option (List ℕ)
path_in word = result_ok (path_of word)

-- words as paths, where all of them are paths
abbrev pub paths_of : List (List ℕ) → Option (List (List ℕ))
paths_of words = paths_read path_in words

-- `cat` takes one path or more
abbrev pub cat_of : Option (List (List ℕ)) → Option Work
cat_of (Some (path ∷ paths)) = Some (Cat (path ∷ paths))
cat_of _ = None

-- and so does `link`
abbrev pub link_of : Option (List (List ℕ)) → Option Work
link_of (Some (path ∷ paths)) = Some (Link (path ∷ paths))
link_of _ = None

-- one word and no more, as a path
abbrev pub only_path : List (List ℕ) → Option (List ℕ)
only_path (word ∷ []) = path_in word
only_path _ = None

-- the directory of a pair of words, `-I` and a path
abbrev pub include_directory : List (List ℕ) → Option (List ℕ)
include_directory (flag ∷ words) = if bytes_eq flag (codes "-I") then only_path words else None
include_directory [] = None

-- the directories that such pairs name
abbrev pub directories_of : List (List ℕ) → Option (List (List ℕ))
directories_of [] = Some []
directories_of (word ∷ []) = None
directories_of (flag ∷ directory ∷ pairs) = path_before (include_directory (flag ∷ directory ∷ [])) (directories_of pairs)

-- `pp` takes such pairs, if any, and one path
abbrev pub preprocess_of : Option (List (List ℕ)) → Option (List ℕ) → Option Work
preprocess_of (Some directories) (Some path) = Some (Preprocess directories path)
preprocess_of _ _ = None

-- the same by the words after `pp`, the last word first
abbrev pub preprocess_of_reversed : List (List ℕ) → Option Work
preprocess_of_reversed [] = None
preprocess_of_reversed (path ∷ before) = preprocess_of (directories_of (reverse before)) (path_in path)

-- `sub` takes two words and a path
abbrev pub substitute_of : List (List ℕ) → Option Work
substitute_of (from ∷ to ∷ words) = option_map (Substitute from to) (only_path words)
substitute_of _ = None

-- `head` takes a number and a path
abbrev pub head_by : Option ℕ → Option (List ℕ) → Option Work
head_by (Some lines) (Some path) = Some (Head lines path)
head_by _ _ = None

abbrev pub head_of : List (List ℕ) → Option Work
head_of (lines ∷ words) = head_by (number_of lines) (only_path words)
head_of [] = None

-- `sha` takes a path
abbrev pub digest_work : List (List ℕ) → Option Work
digest_work words = option_map Digest (only_path words)

-- the work that words name: a command and what it takes
abbrev pub work_of : List (List ℕ) → Option Work
work_of [] = None
work_of (command ∷ arguments) =
    if bytes_eq command (codes "echo") then Some (Echo arguments)
    else if bytes_eq command (codes "cat") then cat_of (paths_of arguments)
    else if bytes_eq command (codes "pp") then preprocess_of_reversed (reverse arguments)
    else if bytes_eq command (codes "sub") then substitute_of arguments
    else if bytes_eq command (codes "head") then head_of arguments
    else if bytes_eq command (codes "sha") then digest_work arguments
    else if bytes_eq command (codes "link") then link_of (paths_of arguments)
    else None

-- whether an arrow appends, for `>>`, or replaces, for `>`; nothing for any other word
abbrev pub appends_of : List ℕ → Option Bool
appends_of word = if bytes_eq word (codes ">>") then Some true else if bytes_eq word (codes ">") then Some false else None

-- a line of these parts, where each of them can be read
abbrev pub makes : Option Work → Option Bool → Option (List ℕ) → Option Line
makes (Some work) (Some appends) (Some output) = Some (Makes work appends output)
makes _ _ _ = None

-- the line of this number, of one word: `fail`
abbrev pub fail_of : ℕ → List ℕ → Option Line
fail_of n word = if bytes_eq word (codes "fail") then Some (Fail n) else None

-- the line of this number by its words, the last word first: it ends with an arrow and a path, or is `fail`
abbrev pub line_of_reversed : ℕ → List (List ℕ) → Option Line
line_of_reversed n [] = Some Empty
line_of_reversed n (word ∷ []) = fail_of n word
line_of_reversed n (output ∷ arrow ∷ before) = makes (work_of (reverse before)) (appends_of arrow) (path_in output)

-- the line of this number of a script, and nothing where its words are outside the language
abbrev pub script_line_of : ℕ → List ℕ → Option Line
script_line_of n bytes = line_of_reversed n (reverse (words (without_at bytes)))

-- a line before lines, or the fault of the first that is none
abbrev pub line_before_lines : ℕ → Option Line → Result (List Line) ScriptFault → Result (List Line) ScriptFault
line_before_lines n None later = Err (faults.BadLine n)
line_before_lines n (Some line) (Ok lines) = Ok (line ∷ lines)
line_before_lines n (Some line) (Err fault) = Err fault

-- lines that are numbered from this number on
abbrev pub lines_from : ℕ → List (List ℕ) → Result (List Line) ScriptFault
lines_from n [] = Ok []
lines_from n (bytes ∷ more) = line_before_lines n (script_line_of n bytes) (lines_from (n + 1) more)

-- the lines of what is left of a text, if anything is
abbrev pub pieces : Option (List ℕ) → List (List ℕ)
pieces None = []
pieces (Some text) = slice_split is_newline text

-- how many bytes are left of a text after a line, the newline counted
abbrev pub size_of : Option (List ℕ) → ℕ
size_of None = 0
size_of (Some text) = length text + 1

-- A text read as a script, or the fault of its first line that is outside the language. Lines are counted from 1.
abbrev pub script_of : List ℕ → Result (List Line) ScriptFault
script_of text = lines_from 1 (slice_split is_newline text)
