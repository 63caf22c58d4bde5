-- What every reading keeps: the form of its rule lines, and that no target has two scripts.
use Rattle.std.proofs.Common.{◌≡◌, refl, sym, subst, ℕ, zero, suc, ◌+◌, Bool, true, false, ◌||◌, nat_lt, Option, Some, None}
use Rattle.std.proofs.Common.{Result, Ok, Err, List, [], ◌∷◌, is_some, if◌then◌else◌, arith}
use Rattle.std.proofs.lemmas.Slice.Eq.{bytes_eq-Decides}
use Rattle.std.specs.Bool.{⊤}
use Rattle.std.specs.List.{AllByRecursion, IsDistinct, list_any}
use Rattle.std.specs.Str.{bytes_eq}
use Rattle.std.proofs.lemmas.Bool.{or_parts}
use Rattle.cc_names.specs.Cuts.{words_of}
use Rattle.cc_names.specs.Files.{Files}
use Rattle.cc_names.specs.Formed.{IsBelowRoot, IsListOf}
use Rattle.cc_names.specs.declared.commands.Macro.{Macro}
use Rattle.cc_names.specs.declared.refusals.MakeCause.{MakeCause}
use Rattle.cc_names.specs.declared.refusals.MakeCause.TheVariants.{BadLine, BadMacro, TooMany, IncludeDepth, TwoScripts}
use Rattle.cc_names.specs.declared.refusals.MakeError.{MakeError}
use Rattle.make_grammar.proofs.RuleWordLaws.{AreWords, plain_length, plain_below, plain_once, words_read}
use Rattle.make_grammar.specs.Contents.{RuleLine}
use Rattle.make_grammar.specs.Grammar.{nothing_read, with_overrides, lines_read}
use Rattle.make_grammar.specs.LineKinds.{Kind, Blank, Include, Assignment, Rule, Unclosed, Neither, line_kind, without_comment}
use Rattle.make_grammar.specs.LineKinds.{trimmed_bytes}
use Rattle.make_grammar.specs.Lines.{is_script_line, is_blank_line}
use Rattle.make_grammar.specs.LogicalLines.{logical_lines}
use Rattle.make_grammar.specs.Macros.{has_bad_dollar, is_among}
use Rattle.make_grammar.specs.Statements.{Reading, line_limit, target_limit, file_limit, depth_limit, if_no_fault, assignment}
use Rattle.make_grammar.specs.Statements.{before_mark, cause_or, expanded_by, reading_fault, has_twice, include_by_words}
use Rattle.make_grammar.specs.Statements.{include_line, include_paths, include_words, reading_of_include, is_grouped}
use Rattle.make_grammar.specs.Statements.{is_scripted, is_second_script, line_of_kind, macro_fault, macros_of, or_cause}
use Rattle.make_grammar.specs.Statements.{override, read_line, read_lines, rule_by_words, rule_fault, rule_line, script_line}
use Rattle.make_grammar.specs.Statements.{script_line_of, unless_cause, cause_where, with_definition, with_rule}
use Rattle.make_grammar.specs.Statements.{with_script_line, with_text, within_limits}
use Rattle.make_grammar.specs.declared.logical_lines.LogicalLine.{LogicalLine}
use Rattle.make_grammar.specs.declared.rule_lines.RuleWords.{RuleWords}

-- a rule line in its form: paths below the root, and the targets of a group each once
pub record IsLine (line : RuleLine) : Type 0 where
  pub targets : IsListOf IsBelowRoot line.targets
  pub prerequisites : AllByRecursion IsBelowRoot line.prerequisites
  pub once : line.is_group ≡ true → IsDistinct bytes_eq line.targets

-- where a rule line has a script, no older one has a script for its targets
abbrev pub IsFirstScript : RuleLine → List RuleLine → Type 0
IsFirstScript line older = is_some line.script ≡ true → (path : List ℕ) → is_among line.targets path ≡ true
    → is_scripted older path ≡ false

-- rule lines in their form, the newest first, of which no two have scripts for one target
abbrev pub AreLines : List RuleLine → Type 0
AreLines [] = ⊤
AreLines (line ∷ older) = IsLine line × IsFirstScript line older × AreLines older

-- the rule lines of what was read are so, where there was no fault
abbrev pub HasLines : Result Reading MakeError → Type 0
HasLines (Ok reading) = AreLines reading.rules
HasLines (Err fault) = ⊤

-- what reads an included file keeps them
abbrev pub KeepsLines : (Reading → List ℕ → Result Reading MakeError) → Type 0
KeepsLines include = (reading : Reading) (path : List ℕ) → AreLines reading.rules → HasLines (include reading path)

-- ---- rule lines

-- the rule line that such words are
line_formed : (file : List ℕ) (n : ℕ) (words : RuleWords) (reading : Reading) → AreWords words → AreLines reading.rules
    → AreLines (with_rule file n words reading).rules
line_formed file n words reading are h =
    let fewer = plain_length words.is_group words.targets in
    let few = are.few in (
      record {
        targets = (omega (arith, fewer, few), plain_below words.is_group words.targets are.targets);
        prerequisites = are.prerequisites;
        once = plain_once words.is_group words.targets;
      },
      (λ scripted. absurd (cc)),
      h,
    )

rule_preserved : (file : List ℕ) (n : ℕ) (before behind : List ℕ) (reading : Reading) → AreLines reading.rules
    → HasLines (rule_line file n before behind reading)
rule_preserved file n before behind reading h = by (rule_fault macros before behind) refl
  where
    macros : List Macro
    macros = macros_of reading.macros

    words : RuleWords
    words = record {
      is_group = is_grouped before;
      targets = words_of (expanded_by macros (before_mark before)).bytes;
      prerequisites = words_of (expanded_by macros behind).bytes;
    }

    by : (fault : Option MakeCause) → rule_fault macros before behind ≡ fault
        → HasLines (rule_by_words file n reading (or_cause fault words))
    by None is = line_formed file n words reading (words_read macros before behind is) h
    by (Some cause) is = tt

-- ---- scripts

-- no path among these passes a test that none passes
none_passes : (test : List ℕ → Bool) (paths : List (List ℕ)) → list_any test paths ≡ false → (path : List ℕ)
    → is_among paths path ≡ true → test path ≡ false
none_passes test [] h path among = absurd (cc)
none_passes test (p ∷ paths) h path among =
    let here = or_parts (test p) (list_any test paths) h in
    by here.0 (bytes_eq path p) refl among (none_passes test paths here.1 path)
  where
    by : test p ≡ false → (t : Bool) → bytes_eq path p ≡ t → (t || is_among paths path) ≡ true
        → (is_among paths path ≡ true → test path ≡ false) → test path ≡ false
    by none true same among more = subst (λ (q : List ℕ). test q ≡ false) (sym ((bytes_eq-Decides path p).0 same)) none
    by none false differs among more = more among

with_line_formed : (rule : RuleLine) (line : List ℕ) → IsLine rule → IsLine (with_script_line rule line)
with_line_formed rule line formed = record { targets = formed.targets; prerequisites = formed.prerequisites; once = formed.once }

script_added : (file : List ℕ) (n : ℕ) (line : List ℕ) (rule : RuleLine) (older : List RuleLine) (reading : Reading)
    → AreLines (rule ∷ older) → HasLines (script_line_of file n line rule older reading)
script_added file n line rule older reading h = second (is_second_script rule older) refl
  where
    first : (cause : Option MakeCause) → is_second_script rule older ≡ false
        → HasLines (unless_cause file n cause (record reading { rules = with_script_line rule line ∷ older }))
    first None is = (
      with_line_formed rule line h.0,
      (λ scripted. none_passes (is_scripted older) rule.targets
          (or_parts (has_twice rule.targets) (list_any (is_scripted older) rule.targets) is).1),
      h.2,
    )
    first (Some cause) is = tt

    second : (t : Bool) → is_second_script rule older ≡ t →
        HasLines (if t then reading_fault rule.file rule.line TwoScripts
        else unless_cause file n (cause_or (cause_where rule.is_special BadLine) (cause_where (has_bad_dollar line) BadMacro))
        (record reading { rules = with_script_line rule line ∷ older }))
    second true is = tt
    second false is = first (cause_or (cause_where rule.is_special BadLine) (cause_where (has_bad_dollar line) BadMacro)) is

script_preserved : (file : List ℕ) (n : ℕ) (line : List ℕ) (takes_script : Bool) (rules : List RuleLine) (reading : Reading)
    → AreLines rules → AreLines reading.rules → HasLines (script_line file n line takes_script rules reading)
script_preserved file n line true (rule ∷ older) reading h k = by (is_blank_line line)
  where
    by : (t : Bool) → HasLines (if t then Ok reading else script_line_of file n line rule older reading)
    by true = k
    by false = script_added file n line rule older reading h
script_preserved file n line true [] reading h k = tt
script_preserved file n line false rules reading h k = tt

-- ---- other lines

then_preserved : (read : Result Reading MakeError) (next : Reading → Result Reading MakeError) → HasLines read
    → ((reading : Reading) → AreLines reading.rules → HasLines (next reading)) → HasLines (if_no_fault read next)
then_preserved (Ok reading) next h more = more reading h
then_preserved (Err fault) next h more = tt

unless_preserved : (file : List ℕ) (n : ℕ) (cause : Option MakeCause) (reading : Reading) → AreLines reading.rules
    → HasLines (unless_cause file n cause reading)
unless_preserved file n None reading h = h
unless_preserved file n (Some cause) reading h = tt

within_preserved : (file : List ℕ) (n : ℕ) (reading : Reading) → AreLines reading.rules → HasLines (within_limits file n reading)
within_preserved file n reading h = by (nat_lt line_limit reading.lines || nat_lt target_limit reading.targets
    || nat_lt file_limit reading.files)
  where
    by : (t : Bool) → HasLines (if t then reading_fault file n TooMany else Ok reading)
    by true = tt
    by false = h

assignment_preserved : (file : List ℕ) (n : ℕ) (name value : List ℕ) (reading : Reading) → AreLines reading.rules
    → HasLines (assignment file n name value reading)
assignment_preserved file n name value reading h =
    unless_preserved file n (macro_fault name value)
    (record reading {
      macros = with_definition (record { name = name; value = value; file = file; line = n; is_fixed = false }) reading.macros;
      takes_script = false;
    }) h

paths_preserved : (include : Reading → List ℕ → Result Reading MakeError) (paths : List (List ℕ))
    (read : Result Reading MakeError) → KeepsLines include → HasLines read → HasLines (include_paths include paths read)
paths_preserved include [] read keeps h = h
paths_preserved include (path ∷ paths) read keeps h =
    paths_preserved include paths (if_no_fault read (λ reading. include reading path)) keeps
    (then_preserved read (λ reading. include reading path) h (λ reading. keeps reading path))

include_preserved : (include : Reading → List ℕ → Result Reading MakeError) (file : List ℕ) (n : ℕ) (behind : List ℕ)
    (reading : Reading) → KeepsLines include → AreLines reading.rules → HasLines (include_line include file n behind reading)
include_preserved include file n behind reading keeps h = by (include_words (macros_of reading.macros) behind)
  where
    by : (words : Result (List (List ℕ)) MakeCause) → HasLines (include_by_words include file n reading words)
    by (Err cause) = tt
    by (Ok paths) = paths_preserved include paths (within_limits file n (record reading { takes_script = false })) keeps
        (within_preserved file n (record reading { takes_script = false }) h)

-- ---- all lines

kind_preserved : (include : Reading → List ℕ → Result Reading MakeError) (file : List ℕ) (n : ℕ) (kind : Kind) (reading : Reading)
    → KeepsLines include → AreLines reading.rules → HasLines (line_of_kind include file n kind reading)
kind_preserved include file n Blank reading keeps h = h
kind_preserved include file n (Include behind) reading keeps h = include_preserved include file n behind reading keeps h
kind_preserved include file n (Assignment before behind) reading keeps h =
    assignment_preserved file n (trimmed_bytes before) (trimmed_bytes behind) reading h
kind_preserved include file n (Rule before behind) reading keeps h = rule_preserved file n before behind reading h
kind_preserved include file n Unclosed reading keeps h = tt
kind_preserved include file n Neither reading keeps h = tt

line_preserved : (include : ℕ → Reading → List ℕ → Result Reading MakeError) (file : List ℕ) (line : LogicalLine)
    (reading : Reading) → ((n : ℕ) → KeepsLines (include n)) → AreLines reading.rules
    → HasLines (read_line include file line reading)
line_preserved include file line reading keeps h = by (is_script_line line.bytes)
  where
    by : (t : Bool) → HasLines (if t then script_line file line.number line.bytes reading.takes_script reading.rules reading
        else line_of_kind (include line.number) file line.number (line_kind (without_comment line.bytes)) reading)
    by true = script_preserved file line.number line.bytes reading.takes_script reading.rules reading h h
    by false = kind_preserved (include line.number) file line.number (line_kind (without_comment line.bytes)) reading
        (keeps line.number) h

lines_preserved : (include : ℕ → Reading → List ℕ → Result Reading MakeError) (file : List ℕ) (lines : List LogicalLine)
    (reading : Reading) → ((n : ℕ) → KeepsLines (include n)) → AreLines reading.rules
    → HasLines (read_lines include file lines reading)
lines_preserved include file [] reading keeps h = h
lines_preserved include file (line ∷ lines) reading keeps h =
    let counted = record reading { lines = reading.lines + 1 } in
    let read = read_line include file line counted in
    then_preserved (if_no_fault read (within_limits file line.number)) (read_lines include file lines)
    (then_preserved read (within_limits file line.number) (line_preserved include file line counted keeps h)
    (within_preserved file line.number))
    (λ reading kept. lines_preserved include file lines reading keeps kept)

included_preserved : (files : Files) (left : ℕ) (file : List ℕ) (n : ℕ) → KeepsLines (reading_of_include files left file n)
included_preserved files zero file n reading path h = by (files path)
  where
    by : (text : Option (List ℕ)) → HasLines (with_text file n (λ text. reading_fault file n IncludeDepth) text)
    by None = tt
    by (Some text) = tt
included_preserved files (suc left) file n reading path h = by (included_preserved files left path) (files path)
  where
    counted : Reading
    counted = record reading { files = reading.files + 1 }

    lines : List ℕ → Reading → Result Reading MakeError
    lines text = read_lines (reading_of_include files left path) path (logical_lines text)

    by : ((m : ℕ) → KeepsLines (reading_of_include files left path m)) → (text : Option (List ℕ))
        → HasLines (with_text file n (λ text. if_no_fault (within_limits file n counted) (lines text)) text)
    by keeps None = tt
    by keeps (Some text) =
        then_preserved (within_limits file n counted) (lines text) (within_preserved file n counted h)
        (λ reading kept. lines_preserved (reading_of_include files left path) path (logical_lines text) reading keeps kept)

override_preserved : (file : List ℕ) (reading : Reading) (macro : Macro) → AreLines reading.rules
    → HasLines (override file reading macro)
override_preserved file reading macro h =
    unless_preserved file 0 (macro_fault macro.name macro.value)
    (record reading {
      macros = with_definition (record { name = macro.name; value = macro.value; file = file; line = 0; is_fixed = true })
          reading.macros;
    }) h

overrides_preserved : (file : List ℕ) (macros : List Macro) (reading : Reading) → AreLines reading.rules
    → HasLines (with_overrides file macros reading)
overrides_preserved file [] reading h = h
overrides_preserved file (macro ∷ macros) reading h =
    then_preserved (override file reading macro) (with_overrides file macros) (override_preserved file reading macro h)
    (λ reading kept. overrides_preserved file macros reading kept)

-- The rule lines of a makefile are in their form.
pub lines_of_makefile : (files : Files) (file text : List ℕ) (overrides : List Macro)
    → HasLines (lines_read files file text overrides)
lines_of_makefile files file text overrides =
    then_preserved (with_overrides file overrides nothing_read) (read_lines (reading_of_include files depth_limit file) file
    (logical_lines text))
    (overrides_preserved file overrides nothing_read tt)
    (λ reading kept. lines_preserved (reading_of_include files depth_limit file) file (logical_lines text) reading
    (included_preserved files depth_limit file) kept)
