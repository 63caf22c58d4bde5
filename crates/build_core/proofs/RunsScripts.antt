-- The paths that a script has: each is a path, and there are no more of them than the script has bytes.
use Rattle.std.proofs.Common.{◌≡◌, refl, ap, sym, subst, ℕ, suc, ◌+◌, ◌≤◌, Bool, true, false, Option, Some, None, Result, Ok}
use Rattle.std.proofs.Common.{Err, List, [], ◌∷◌, ◌++◌, length, map, reverse, if◌then◌else◌, codes, arith, length-append}
use Rattle.std.proofs.lemmas.List.{length-reverse}
use Rattle.std.specs.List.{AllByRecursion, flat_map, slice_split}
use Rattle.std.specs.Prelude.{option_map}
use Rattle.std.specs.Str.{bytes_eq}
use Rattle.cc_names.specs.Cuts.{is_newline}
use Rattle.cc_names.specs.Numbers.{number_of}
use Rattle.cc_names.specs.Paths.{IsPath, path_before}
use Rattle.cc_names.specs.declared.refusals.ScriptFault.{ScriptFault}
use Rattle.cc_names.proofs.Common.{all_of_both}
use Rattle.script_grammar.specs.Lines.{path_in, paths_of, cat_of, link_of, directories_of, preprocess_of, preprocess_of_reversed}
use Rattle.script_grammar.specs.Lines.{only_path, substitute_of, head_by, head_of, digest_work, work_of, appends_of, makes}
use Rattle.script_grammar.specs.Lines.{script_line_of, line_of_reversed, line_before_lines, lines_from, script_of}
use Rattle.script_grammar.specs.Forms.{whole, linked_text}
use Rattle.script_grammar.specs.Run.{TextOf, parts_of}
use Rattle.script_grammar.specs.Words.{words, without_at}
use Rattle.script_grammar.specs.declared.lines.Line.{Line}
use Rattle.script_grammar.specs.declared.lines.Line.TheVariants.{Empty, Makes, Fail}
use Rattle.script_grammar.specs.declared.lines.Work.{Work}
use Rattle.script_grammar.specs.declared.lines.Work.TheVariants.{Echo, Cat, Preprocess, Substitute, Head, Digest, Link}
use Rattle.build_core.proofs.RunsPaths.{part_paths, line_paths, script_paths}
use Rattle.build_core.proofs.RunsProbed.{word_is}
use Rattle.build_core.proofs.RunsWords.{total, split_total, words_few, without_at_few}

-- some paths, of which there are no more than n
pub record ArePaths (n : ℕ) (paths : List (List ℕ)) : Type 0 where
  pub few : length paths ≤ n
  pub each : AllByRecursion IsPath paths

no_paths : (n : ℕ) → ArePaths n []
no_paths n = record { few = omega arith; each = tt }

within : (m n : ℕ) (paths : List (List ℕ)) → m ≤ n → ArePaths m paths → ArePaths n paths
within m n paths low h = record { few = let few = h.few in omega arith; each = h.each }

both_are : (m n : ℕ) (one two : List (List ℕ)) → ArePaths m one → ArePaths n two → ArePaths (m + n) (one ++ two)
both_are m n one two h k = record {
  few = let few = h.few in let more = k.few in
      omega (arith, length-append one two);
  each = all_of_both IsPath one two h.each k.each;
}

-- a word that is read as a path is one
word_read : (word path : List ℕ) → path_in word ≡ Some path → IsPath path
word_read word path h = (word_is word path h).1

words_read : (words paths : List (List ℕ)) → paths_of words ≡ Some paths → ArePaths (length words) paths
words_read [] paths h = let none : [] ≡ paths = cc in subst (ArePaths 0) none (no_paths 0)
words_read (word ∷ words) paths h = by (path_in word) (paths_of words) refl h (words_read words)
  where
    by : (first : Option (List ℕ)) (rest : Option (List (List ℕ))) → path_in word ≡ first → path_before first rest ≡ Some paths →
        ((others : List (List ℕ)) → rest ≡ Some others → ArePaths (length words) others) → ArePaths (suc (length words)) paths
    by (Some path) (Some others) is h read =
        let same : path ∷ others ≡ paths = cc in
        let behind = read others refl in
        subst (ArePaths (suc (length words))) same (record {
          few = let few = behind.few in
              omega arith;
          each = (word_read word path is, behind.each);
        })
    by (Some path) None is h read = absurd (cc)
    by None rest is h read = absurd (cc)

-- one path
one_path : (n : ℕ) (path : List ℕ) → IsPath path → ArePaths (suc n) (path ∷ [])
one_path n path is = record { few = omega arith; each = (is, tt) }

only_read : (words : List (List ℕ)) (path : List ℕ) → only_path words ≡ Some path → IsPath path
only_read [] path h = absurd (cc)
only_read (word ∷ []) path h = word_read word path h
only_read (word ∷ other ∷ words) path h = absurd (cc)

-- the paths of texts in some form
texts_paths : (form : List ℕ → List ℕ → List ℕ) (paths : List (List ℕ))
    → flat_map part_paths (map (λ path. TextOf (form path) path) paths) ≡ paths
texts_paths form [] = refl
texts_paths form (path ∷ paths) = ap (λ others. path ∷ others) (texts_paths form paths)

-- the paths of the work of a line
abbrev AreOfWork : ℕ → Work → Type 0
AreOfWork n work = ArePaths n (flat_map part_paths (parts_of work))

cat_read : (n : ℕ) (read : Option (List (List ℕ))) (work : Work) → ((paths : List (List ℕ)) → read ≡ Some paths
    → ArePaths n paths) → cat_of read ≡ Some work → AreOfWork n work
cat_read n None work each h = absurd (cc)
cat_read n (Some []) work each h = absurd (cc)
cat_read n (Some (path ∷ paths)) work each h =
    let same : Cat (path ∷ paths) ≡ work = cc in
    subst (AreOfWork n) same (subst (ArePaths n) (sym (texts_paths (λ path. whole) (path ∷ paths))) (each (path ∷ paths) refl))

link_read : (n : ℕ) (read : Option (List (List ℕ))) (work : Work) → ((paths : List (List ℕ)) → read ≡ Some paths
    → ArePaths n paths) → link_of read ≡ Some work → AreOfWork n work
link_read n None work each h = absurd (cc)
link_read n (Some []) work each h = absurd (cc)
link_read n (Some (path ∷ paths)) work each h =
    let same : Link (path ∷ paths) ≡ work = cc in
    subst (AreOfWork n) same (subst (ArePaths n) (sym (texts_paths linked_text (path ∷ paths))) (each (path ∷ paths) refl))

preprocess_read : (n : ℕ) (reversed : List (List ℕ)) (work : Work) → preprocess_of_reversed reversed ≡ Some work
    → AreOfWork (suc n) work
preprocess_read n [] work h = absurd (cc)
preprocess_read n (word ∷ before) work h = by (directories_of (reverse before)) (path_in word) refl h
  where
    by : (directories : Option (List (List ℕ))) (path : Option (List ℕ)) → path_in word ≡ path
        → preprocess_of directories path ≡ Some work → AreOfWork (suc n) work
    by (Some directories) (Some path) is h = let same : Preprocess directories path ≡ work = cc in
        subst (AreOfWork (suc n)) same (one_path n path (word_read word path is))
    by (Some directories) None is h = absurd (cc)
    by None path is h = absurd (cc)

substitute_read : (n : ℕ) (words : List (List ℕ)) (work : Work) → substitute_of words ≡ Some work → AreOfWork (suc n) work
substitute_read n [] work h = absurd (cc)
substitute_read n (from ∷ []) work h = absurd (cc)
substitute_read n (from ∷ to ∷ words) work h = by (only_path words) refl h
  where
    by : (o : Option (List ℕ)) → only_path words ≡ o → option_map (Substitute from to) o ≡ Some work → AreOfWork (suc n) work
    by (Some path) is h = let same : Substitute from to path ≡ work = cc in
        subst (AreOfWork (suc n)) same (one_path n path (only_read words path is))
    by None is h = absurd (cc)

head_read : (n : ℕ) (words : List (List ℕ)) (work : Work) → head_of words ≡ Some work → AreOfWork (suc n) work
head_read n [] work h = absurd (cc)
head_read n (word ∷ words) work h = by (number_of word) (only_path words) refl h
  where
    by : (number : Option ℕ) (o : Option (List ℕ)) → only_path words ≡ o → head_by number o ≡ Some work → AreOfWork (suc n) work
    by (Some lines) (Some path) is h = let same : Head lines path ≡ work = cc in
        subst (AreOfWork (suc n)) same (one_path n path (only_read words path is))
    by (Some lines) None is h = absurd (cc)
    by None o is h = absurd (cc)

digest_read : (n : ℕ) (words : List (List ℕ)) (work : Work) → digest_work words ≡ Some work → AreOfWork (suc n) work
digest_read n words work h = by (only_path words) refl h
  where
    by : (o : Option (List ℕ)) → only_path words ≡ o → option_map Digest o ≡ Some work → AreOfWork (suc n) work
    by (Some path) is h = let same : Digest path ≡ work = cc in subst (AreOfWork (suc n)) same
        (one_path n path (only_read words path is))
    by None is h = absurd (cc)

work_read : (words : List (List ℕ)) (work : Work) → work_of words ≡ Some work → AreOfWork (length words) work
work_read [] work h = absurd (cc)
work_read (command ∷ arguments) work h =
    by (bytes_eq command (codes "echo")) (bytes_eq command (codes "cat")) (bytes_eq command (codes "pp"))
    (bytes_eq command (codes "sub")) (bytes_eq command (codes "head"))
    (bytes_eq command (codes "sha")) (bytes_eq command (codes "link")) h
  where
    by : (echo cat pp sub head sha link : Bool) →
        (if echo then Some (Echo arguments) else if cat then cat_of (paths_of arguments) else if pp then preprocess_of_reversed
        (reverse arguments) else if sub then substitute_of arguments
        else if head then head_of arguments else if sha then digest_work arguments else if link then link_of (paths_of arguments)
        else None) ≡ Some work → AreOfWork (suc (length arguments)) work
    by true cat pp sub head sha link h = let same : Echo arguments ≡ work = cc in
        subst (AreOfWork (suc (length arguments))) same (no_paths (suc (length arguments)))
    by false true pp sub head sha link h = within (length arguments) (suc (length arguments)) _ (omega arith)
        (cat_read (length arguments) (paths_of arguments) work (words_read arguments) h)
    by false false true sub head sha link h = preprocess_read (length arguments) (reverse arguments) work h
    by false false false true head sha link h = substitute_read (length arguments) arguments work h
    by false false false false true sha link h = head_read (length arguments) arguments work h
    by false false false false false true link h = digest_read (length arguments) arguments work h
    by false false false false false false true h = within (length arguments) (suc (length arguments)) _ (omega arith)
        (link_read (length arguments) (paths_of arguments) work (words_read arguments) h)
    by false false false false false false false h = absurd (cc)

-- the paths of a line
reversed_read : (n : ℕ) (words : List (List ℕ)) (line : Line) → line_of_reversed n words ≡ Some line
    → ArePaths (length words) (line_paths line)
reversed_read n [] line h = let same : Empty ≡ line = cc in subst (λ l. ArePaths 0 (line_paths l)) same (no_paths 0)
reversed_read n (word ∷ []) line h = by (bytes_eq word (codes "fail")) h
  where
    by : (t : Bool) → (if t then Some (Fail n) else None) ≡ Some line → ArePaths 1 (line_paths line)
    by true h = let same : Fail n ≡ line = cc in subst (λ l. ArePaths 1 (line_paths l)) same (no_paths 1)
    by false h = absurd (cc)
reversed_read n (output ∷ arrow ∷ before) line h = by (work_of (reverse before)) (appends_of arrow) (path_in output) refl h
  where
    by : (work : Option Work) (appends : Option Bool) (path : Option (List ℕ)) → work_of (reverse before) ≡ work
        → makes work appends path ≡ Some line → ArePaths (suc (suc (length before))) (line_paths line)
    by (Some work) (Some appends) (Some path) is h =
        let same : Makes work appends path ≡ line = cc in
        subst (λ l. ArePaths (suc (suc (length before))) (line_paths l)) same
        (within (length (reverse before)) (suc (suc (length before))) _ (omega (arith, length-reverse before))
        (work_read (reverse before) work is))
    by (Some work) (Some appends) None is h = absurd (cc)
    by (Some work) None path is h = absurd (cc)
    by None appends path is h = absurd (cc)

line_read : (n : ℕ) (bytes : List ℕ) (line : Line) → script_line_of n bytes ≡ Some line
    → ArePaths (length bytes) (line_paths line)
line_read n bytes line h =
    within (length (reverse (words (without_at bytes)))) (length bytes) (line_paths line)
    (omega (arith, length-reverse (words (without_at bytes)), words_few (without_at bytes), without_at_few bytes))
    (reversed_read n (reverse (words (without_at bytes))) line h)

-- the paths of lines
lines_read : (n : ℕ) (parts : List (List ℕ)) (lines : List Line) → lines_from n parts ≡ Ok lines
    → ArePaths (total parts) (flat_map line_paths lines)
lines_read n [] lines h = let none : [] ≡ lines = cc in subst (λ ls. ArePaths 0 (flat_map line_paths ls)) none (no_paths 0)
lines_read n (bytes ∷ parts) lines h = by (script_line_of n bytes) (lines_from (n + 1) parts) refl h (lines_read (n + 1) parts)
  where
    by : (first : Option Line) (rest : Result (List Line) ScriptFault) → script_line_of n bytes ≡ first
        → line_before_lines n first rest ≡ Ok lines →
        ((others : List Line) → rest ≡ Ok others → ArePaths (total parts) (flat_map line_paths others))
        → ArePaths (length bytes + total parts) (flat_map line_paths lines)
    by (Some line) (Ok others) is h read =
        let same : line ∷ others ≡ lines = cc in
        subst (λ ls. ArePaths (length bytes + total parts) (flat_map line_paths ls)) same
        (both_are (length bytes) (total parts) (line_paths line) (flat_map line_paths others) (line_read n bytes line is)
        (read others refl))
    by (Some line) (Err fault) is h read = absurd (cc)
    by None rest is h read = absurd (cc)

-- The paths that a text has as a script.
pub script_read : (text : List ℕ) → ArePaths (length text) (script_paths (script_of text))
script_read text = by (script_of text) refl
  where
    by : (read : Result (List Line) ScriptFault) → script_of text ≡ read → ArePaths (length text) (script_paths read)
    by (Ok lines) is = within (total (slice_split is_newline text)) (length text) (flat_map line_paths lines)
        (split_total is_newline text) (lines_read 1 (slice_split is_newline text) lines is)
    by (Err fault) is = no_paths (length text)
