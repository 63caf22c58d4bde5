-- How a script is read word by word and line by line.
use Rattle.std.proofs.Common.{◌≡◌, ℕ, ◌<◌, min, Bool, true, false, if◌then◌else◌, Option, Some, None, Result, Ok, Err, List, []}
use Rattle.std.proofs.Common.{◌∷◌, ◌++◌, length, map, refl, append_assoc, arith, Bor}
use Rattle.std.specs.Prelude.{codes}
use Rattle.std.specs.Str.{bytes_eq}
use Rattle.cc_names.specs.Paths.{path_before}
use Rattle.cc_names.specs.declared.refusals.ScriptFault.{ScriptFault}
use Rattle.script_grammar.specs.Lines.{include_directory, directories_of, line_before_lines}
use Rattle.script_grammar.specs.declared.lines.Line.{Line}

-- paths that were read before those that follow
abbrev pub paths_onto : List (List ℕ) → Option (List (List ℕ)) → Option (List (List ℕ))
paths_onto read None = None
paths_onto read (Some more) = Some (read ++ more)

-- the directories of a first pair and of the pairs after it
directories_prefix : (pair rest : List (Bor (List ℕ))) → length pair ≡ min 2 (length (pair ++ rest)) → 0 < length (pair ++ rest) →
    directories_of (map (λ word. word.now) (pair ++ rest)) ≡ path_before (include_directory (map (λ word. word.now) pair))
    (directories_of (map (λ word. word.now) rest))
directories_prefix [] [] e h = absurd (omega arith)
directories_prefix [] (a ∷ rest) e h = absurd (omega arith)
directories_prefix (a ∷ []) [] e h = by (bytes_eq a.now (codes "-I"))
  where
    by : (flagged : Bool) → None ≡ path_before (if flagged then None else None) (Some [])
    by true = refl
    by false = refl
directories_prefix (a ∷ []) (b ∷ rest) e h = absurd (omega arith)
directories_prefix (a ∷ b ∷ []) rest e h = refl
directories_prefix (a ∷ b ∷ c ∷ more) rest e h = absurd (omega arith)

pub directories_cut : (words pair rest : List (Bor (List ℕ))) → words ≡ pair ++ rest → length pair ≡ min 2 (length words)
    → 0 < length words →
    directories_of (map (λ word. word.now) words) ≡ path_before (include_directory (map (λ word. word.now) pair))
    (directories_of (map (λ word. word.now) rest))
directories_cut words pair rest e two filled = rw e (directories_prefix pair rest (rw e at two) (rw e at filled))

-- a path that is read joins those before it
pub onto_path : (read : List (List ℕ)) (path : List ℕ) (more : Option (List (List ℕ)))
    → paths_onto read (path_before (Some path) more) ≡ paths_onto (read ++ path ∷ []) more
onto_path read path (Some more) = simp append_assoc
onto_path read path None = refl

-- lines that were read before those that follow
abbrev pub lines_onto : List Line → Result (List Line) ScriptFault → Result (List Line) ScriptFault
lines_onto read (Ok more) = Ok (read ++ more)
lines_onto read (Err fault) = Err fault

-- a line that is read joins those before it
pub onto_line : (read : List Line) (n : ℕ) (line : Line) (more : Result (List Line) ScriptFault) →
    lines_onto read (line_before_lines n (Some line) more) ≡ lines_onto (read ++ line ∷ []) more
onto_line read n line (Ok more) = simp append_assoc
onto_line read n line (Err fault) = refl
