-- How a makefile is read line by line, with the files that it includes read in place.
use Rattle.std.specs.Prelude.{ℕ, ◌+◌, ◌-◌, zero, suc, Bool, true, false, not, ◌&&◌, ◌||◌, ◌==◌, nat_lt, Option, Some, None}
use Rattle.std.specs.Prelude.{Result, Ok, Err, List, [], ◌∷◌, ◌++◌, length, map, filter, drop, fold, slice_get, is_some}
use Rattle.std.specs.Prelude.{unwrap_or, if◌then◌else◌, codes}
use Rattle.std.specs.List.{list_any, list_all}
use Rattle.std.specs.Str.{bytes_eq}
use Rattle.cc_names.specs.Cuts.{words_of}
use Rattle.cc_names.specs.Files.{Files}
use Rattle.cc_names.specs.Names.{is_name_byte}
use Rattle.cc_names.specs.declared.commands.Macro.{Macro}
use Rattle.cc_names.specs.declared.refusals.MakeCause.{MakeCause}
use Rattle.cc_names.specs.declared.refusals.MakeCause.TheVariants.{BadLine, BadMacro, BadPath, LineTooLong, MacroLoop}
use Rattle.cc_names.specs.declared.refusals.MakeCause.TheVariants.{TwoScripts, IncludeAbsent, IncludeDepth, TooMany}
use Rattle.cc_names.specs.declared.refusals.MakeError.{MakeError}
use Rattle.make_grammar.specs.Lines.{is_byte, is_script_line, is_blank_line}
use Rattle.make_grammar.specs.LogicalLines.{logical_lines, without_last_byte}
use Rattle.make_grammar.specs.LineKinds.{Kind, Blank, Include, Assignment, Rule, Unclosed, Neither, line_kind, without_comment}
use Rattle.make_grammar.specs.LineKinds.{trimmed_bytes}
use Rattle.make_grammar.specs.Macros.{Expansion, expansion_of, one_after_other, plain, has_bad_dollar, is_macro_name}
use Rattle.make_grammar.specs.Macros.{no_automatic, is_too_long, is_among}
use Rattle.make_grammar.specs.WordPaths.{path_below_root, with_path_once, each_once}
use Rattle.make_grammar.specs.Contents.{RuleLine}
use Rattle.make_grammar.specs.declared.logical_lines.LogicalLine.{LogicalLine}
use Rattle.make_grammar.specs.declared.rule_lines.RuleWords.{RuleWords}

-- a macro with the place of its last definition
pub record Definition : Type 0 where
  pub name : List ℕ
  pub value : List ℕ
  pub file : List ℕ
  pub line : ℕ
  -- whether the command line defines it, which no line of the makefile changes
  pub is_fixed : Bool

-- what was read so far of a makefile and the files that it includes
pub record Reading : Type 0 where
  -- how many logical lines, targets of rule lines and included files there were
  pub lines : ℕ
  pub targets : ℕ
  pub files : ℕ
  pub macros : List Definition
  pub suffixes : List (List ℕ)
  pub phony : List (List ℕ)
  -- the rule lines, the newest first
  pub rules : List RuleLine
  -- whether a script line that comes next belongs to the newest of them
  pub takes_script : Bool

-- the most logical lines, targets of rule lines and included files
abbrev pub line_limit : ℕ
line_limit = 100000

abbrev pub target_limit : ℕ
target_limit = 10000

abbrev pub file_limit : ℕ
file_limit = 1000

-- the most files that are included inside each other
abbrev pub depth_limit : ℕ
depth_limit = 16

-- the fault of this cause at a line of a file
abbrev pub reading_fault : List ℕ → ℕ → MakeCause → Result Reading MakeError
reading_fault file n cause = Err (record { file = file; line = n; cause = cause })

-- what comes next, where there was no fault
abbrev pub if_no_fault : {A E : Type 0} → Result A E → (A → Result A E) → Result A E
if_no_fault (Ok x) next = next x
if_no_fault (Err fault) next = Err fault

-- what was read, unless it is more than there may be
abbrev pub within_limits : List ℕ → ℕ → Reading → Result Reading MakeError
within_limits file n reading =
    if nat_lt line_limit reading.lines || nat_lt target_limit reading.targets || nat_lt file_limit reading.files
    then reading_fault file n TooMany else Ok reading

-- a macro as it is expanded
abbrev pub macro_of : Definition → Macro
macro_of definition = record { name = definition.name; value = definition.value }

-- macros as they are expanded
abbrev pub macros_of : List Definition → List Macro
macros_of definitions = map macro_of definitions

-- a text expanded by macros, outside scripts
abbrev pub expanded_by : List Macro → List ℕ → Expansion
expanded_by macros text = expansion_of macros no_automatic text

-- the fault of an expansion of a line, if it has one
abbrev pub expansion_fault : Expansion → Option MakeCause
expansion_fault expansion = if is_too_long expansion then Some LineTooLong else if expansion.loops then Some MacroLoop else None

-- one cause, or where there is none another
abbrev pub cause_or : Option MakeCause → Option MakeCause → Option MakeCause
cause_or (Some cause) later = Some cause
cause_or None later = later

-- a cause where a test holds
abbrev pub cause_where : Bool → MakeCause → Option MakeCause
cause_where true cause = Some cause
cause_where false cause = None

-- what there is, unless there is a cause to refuse it
abbrev pub or_cause : {A : Type 0} → Option MakeCause → A → Result A MakeCause
or_cause (Some cause) x = Err cause
or_cause None x = Ok x

-- what was read, unless there is a cause to refuse the line
abbrev pub unless_cause : List ℕ → ℕ → Option MakeCause → Reading → Result Reading MakeError
unless_cause file n (Some cause) reading = reading_fault file n cause
unless_cause file n None reading = Ok reading

-- ---- macros

-- macros with this definition: in place of that of the same name, unless that is fixed, or after them
abbrev pub with_definition : Definition → List Definition → List Definition
with_definition definition [] = definition ∷ []
with_definition definition (older ∷ others) =
    if bytes_eq definition.name older.name
    then (if older.is_fixed && not definition.is_fixed then older else definition) ∷ others
    else older ∷ with_definition definition others

-- whether the macro of this name is there and fixed
abbrev pub has_fixed : List Definition → List ℕ → Bool
has_fixed [] name = false
has_fixed (definition ∷ definitions) name =
    if bytes_eq name definition.name then definition.is_fixed else has_fixed definitions name

-- the fault of a macro's name and value
abbrev pub macro_fault : List ℕ → List ℕ → Option MakeCause
macro_fault name value = cause_where (not (is_macro_name name) || has_bad_dollar value) BadMacro

-- a line `NAME = VALUE`
abbrev pub assignment : List ℕ → ℕ → List ℕ → List ℕ → Reading → Result Reading MakeError
assignment file n name value reading =
    unless_cause file n (macro_fault name value)
    (record reading {
      macros = with_definition (record { name = name; value = value; file = file; line = n; is_fixed = false }) reading.macros;
      takes_script = false;
    })

-- a macro of the command line, whose place is line 0
abbrev pub override : List ℕ → Reading → Macro → Result Reading MakeError
override file reading macro =
    unless_cause file 0 (macro_fault macro.name macro.value)
    (record reading {
      macros = with_definition (record { name = macro.name; value = macro.value; file = file; line = 0; is_fixed = true })
          reading.macros;
    })

-- ---- rule lines

-- the special targets
abbrev pub phony_name : List ℕ
phony_name = codes ".PHONY"

abbrev pub suffixes_name : List ℕ
suffixes_name = codes ".SUFFIXES"

abbrev pub is_special : List ℕ → Bool
is_special word = is_among (phony_name ∷ suffixes_name ∷ codes ".POSIX" ∷ []) word

-- a byte of a suffix after its `.`
abbrev pub is_suffix_byte : ℕ → Bool
is_suffix_byte b = is_name_byte b && not (b == 46)

-- a `.` and then bytes of a name other than `.`
abbrev pub is_suffix : List ℕ → Bool
is_suffix word = is_byte 46 (slice_get word 0) && nat_lt 1 (length word) && list_all is_suffix_byte (drop 1 word)

-- whether a word is a path below the root
abbrev pub is_path : List ℕ → Bool
is_path word = is_some (path_below_root word)

-- whether the `:` has a `&` directly before it
abbrev pub is_grouped : List ℕ → Bool
is_grouped before = is_byte 38 (slice_get before (length before - 1))

-- what stands before the `:`, or before the `&:`
abbrev pub before_mark : List ℕ → List ℕ
before_mark before = if is_grouped before then without_last_byte before else before

-- the `:` or `&:` of a rule line
abbrev pub mark_of : List ℕ → List ℕ
mark_of before = if is_grouped before then codes "&:" else codes ":"

-- the expansion of a rule line: both sides, with the mark between them
abbrev pub rule_expansion : List Macro → List ℕ → List ℕ → Expansion
rule_expansion macros before behind =
    one_after_other (expanded_by macros (before_mark before)) (one_after_other (plain (mark_of before))
    (expanded_by macros behind))

-- a `;`
abbrev pub is_semicolon : ℕ → Bool
is_semicolon b = b == 59

-- the fault of a rule line's own bytes: a `;`, `::` or `:=`, or else a bad `$`
abbrev pub rule_bytes_fault : List ℕ → List ℕ → Option MakeCause
rule_bytes_fault before behind =
    cause_or
    (cause_where (list_any is_semicolon before || list_any is_semicolon behind || is_byte 58 (slice_get behind 0)
    || is_byte 61 (slice_get behind 0)) BadLine)
    (cause_where (has_bad_dollar before || has_bad_dollar behind) BadMacro)

-- the fault of a rule line's words, its paths aside: no target, a special target in a group, or a bad suffix
abbrev pub line_words_fault : Bool → List (List ℕ) → List (List ℕ) → Option MakeCause
line_words_fault grouped targets prerequisites =
    cause_where
    ((length targets == 0) || (grouped && list_any is_special targets)
    || (is_among targets suffixes_name && not (list_all is_suffix prerequisites))) BadLine

-- the fault of a rule line's words: one of these, or else a bad path
abbrev pub rule_words_fault : Bool → List (List ℕ) → List (List ℕ) → Option MakeCause
rule_words_fault grouped targets prerequisites =
    cause_or (line_words_fault grouped targets prerequisites)
    (cause_where (not (list_all is_path targets && list_all is_path prerequisites)) BadPath)

-- the fault of a rule line
abbrev pub rule_fault : List Macro → List ℕ → List ℕ → Option MakeCause
rule_fault macros before behind =
    cause_or (rule_bytes_fault before behind)
    (cause_or (expansion_fault (rule_expansion macros before behind))
    (rule_words_fault (is_grouped before)
    (words_of (expanded_by macros (before_mark before)).bytes) (words_of (expanded_by macros behind).bytes)))

-- the words of a rule line, or the cause to refuse it
abbrev pub rule_words : List Macro → List ℕ → List ℕ → Result RuleWords MakeCause
rule_words macros before behind =
    or_cause (rule_fault macros before behind)
    (record {
      is_group = is_grouped before;
      targets = words_of (expanded_by macros (before_mark before)).bytes;
      prerequisites = words_of (expanded_by macros behind).bytes;
    })

-- the suffixes after `.SUFFIXES`: added, or where there are none the list is cleared
abbrev pub with_suffixes : List (List ℕ) → List (List ℕ) → List (List ℕ)
with_suffixes suffixes [] = []
with_suffixes suffixes (word ∷ words) = fold with_path_once suffixes (word ∷ words)

-- the targets of a rule line that are not special, those of a group each once
abbrev pub plain_targets : Bool → List (List ℕ) → List (List ℕ)
plain_targets grouped targets =
    if grouped then each_once targets else filter (λ target. not (is_special target)) targets

-- what was read, with a rule line of these words after it
abbrev pub with_rule : List ℕ → ℕ → RuleWords → Reading → Reading
with_rule file n words reading =
    record reading {
      targets = reading.targets + length (plain_targets words.is_group words.targets);
      suffixes = if is_among words.targets suffixes_name then with_suffixes reading.suffixes words.prerequisites else
          reading.suffixes;
      phony = if is_among words.targets phony_name then fold with_path_once reading.phony words.prerequisites else reading.phony;
      rules = record {
        file = file;
        line = n;
        targets = plain_targets words.is_group words.targets;
        prerequisites = words.prerequisites;
        is_group = words.is_group;
        is_special = list_any is_special words.targets;
        script = None;
      } ∷ reading.rules;
      takes_script = true;
    }

-- a rule line by its words, or its fault
abbrev pub rule_by_words : List ℕ → ℕ → Reading → Result RuleWords MakeCause → Result Reading MakeError
rule_by_words file n reading (Err cause) = reading_fault file n cause
rule_by_words file n reading (Ok words) = Ok (with_rule file n words reading)

-- a line `TARGET .. : PREREQUISITE ..`
abbrev pub rule_line : List ℕ → ℕ → List ℕ → List ℕ → Reading → Result Reading MakeError
rule_line file n before behind reading = rule_by_words file n reading (rule_words (macros_of reading.macros) before behind)

-- ---- scripts

-- whether a path is twice among these
abbrev pub has_twice : List (List ℕ) → Bool
has_twice [] = false
has_twice (path ∷ paths) = is_among paths path || has_twice paths

-- whether one of these rule lines has a script for a target
abbrev pub is_scripted : List RuleLine → List ℕ → Bool
is_scripted lines target = list_any (λ line. is_some line.script && is_among line.targets target) lines

-- whether a script of a rule line is the second one of a target
abbrev pub is_second_script : RuleLine → List RuleLine → Bool
is_second_script line older = has_twice line.targets || list_any (is_scripted older) line.targets

-- a rule line with a line of its script, without its tab and with its newline
abbrev pub with_script_line : RuleLine → List ℕ → RuleLine
with_script_line rule line = record rule { script = Some (unwrap_or rule.script [] ++ drop 1 line ++ (10 ∷ [])) }

-- a line of a script that is more than blanks, below its rule line, with the rule lines above that
abbrev pub script_line_of : List ℕ → ℕ → List ℕ → RuleLine → List RuleLine → Reading → Result Reading MakeError
script_line_of file n line rule older reading =
    if is_second_script rule older then reading_fault rule.file rule.line TwoScripts
    else unless_cause file n (cause_or (cause_where rule.is_special BadLine) (cause_where (has_bad_dollar line) BadMacro))
    (record reading { rules = with_script_line rule line ∷ older })

-- a line after a tab, by the rule lines that were read and whether it belongs to the newest
abbrev pub script_line : List ℕ → ℕ → List ℕ → Bool → List RuleLine → Reading → Result Reading MakeError
script_line file n line true (rule ∷ older) reading =
    if is_blank_line line then Ok reading else script_line_of file n line rule older reading
script_line file n line takes_script rules reading = reading_fault file n BadLine

-- ---- included files

-- a line `include PATH ..`: its paths are tested, and then each file is read in place before the next is looked for
abbrev pub include_paths : (Reading → List ℕ → Result Reading MakeError) → List (List ℕ) → Result Reading MakeError
    → Result Reading MakeError
include_paths include [] reading = reading
include_paths include (path ∷ paths) reading = include_paths include paths (if_no_fault reading (λ read. include read path))

-- the fault of the words after `include`: none, or a bad path
abbrev pub include_words_fault : List (List ℕ) → Option MakeCause
include_words_fault words = cause_or (cause_where (length words == 0) BadLine)
    (cause_where (not (list_all is_path words)) BadPath)

-- the fault of what follows `include`
abbrev pub include_fault : List Macro → List ℕ → Option MakeCause
include_fault macros behind =
    cause_or (cause_where (has_bad_dollar behind) BadMacro)
    (cause_or (expansion_fault (expanded_by macros behind)) (include_words_fault (words_of (expanded_by macros behind).bytes)))

-- the paths after `include`, or the cause to refuse the line
abbrev pub include_words : List Macro → List ℕ → Result (List (List ℕ)) MakeCause
include_words macros behind = or_cause (include_fault macros behind) (words_of (expanded_by macros behind).bytes)

-- an include line by its paths, or its fault
abbrev pub include_by_words : (Reading → List ℕ → Result Reading MakeError) → List ℕ → ℕ → Reading
    → Result (List (List ℕ)) MakeCause → Result Reading MakeError
include_by_words include file n reading (Err cause) = reading_fault file n cause
include_by_words include file n reading (Ok paths) =
    include_paths include paths (within_limits file n (record reading { takes_script = false }))

-- an include line; it ends the rule above it
abbrev pub include_line : (Reading → List ℕ → Result Reading MakeError) → List ℕ → ℕ → List ℕ → Reading → Result Reading MakeError
include_line include file n behind reading =
    include_by_words include file n reading (include_words (macros_of reading.macros) behind)

-- ---- lines

-- a line by its kind, by what reads an included file at that line
abbrev pub line_of_kind : (Reading → List ℕ → Result Reading MakeError) → List ℕ → ℕ → Kind → Reading → Result Reading MakeError
line_of_kind include file n Blank reading = Ok reading
line_of_kind include file n (Include behind) reading = include_line include file n behind reading
line_of_kind include file n (Assignment before behind) reading = assignment file n (trimmed_bytes before) (trimmed_bytes behind)
    reading
line_of_kind include file n (Rule before behind) reading = rule_line file n before behind reading
line_of_kind include file n Unclosed reading = reading_fault file n BadMacro
line_of_kind include file n Neither reading = reading_fault file n BadLine

-- a line, by what reads an included file at a line
abbrev pub read_line : (ℕ → Reading → List ℕ → Result Reading MakeError) → List ℕ → LogicalLine → Reading
    → Result Reading MakeError
read_line include file line reading =
    if is_script_line line.bytes
    then script_line file line.number line.bytes reading.takes_script reading.rules reading
    else line_of_kind (include line.number) file line.number (line_kind (without_comment line.bytes)) reading

-- lines one after the other; a line counts before it is read
abbrev pub read_lines : (ℕ → Reading → List ℕ → Result Reading MakeError) → List ℕ → List LogicalLine → Reading
    → Result Reading MakeError
read_lines include file [] reading = Ok reading
read_lines include file (line ∷ lines) reading =
    if_no_fault
    (if_no_fault (read_line include file line (record reading { lines = reading.lines + 1 })) (within_limits file line.number))
    (read_lines include file lines)

-- what the text of an included file gives, where there is one
abbrev pub with_text : List ℕ → ℕ → (List ℕ → Result Reading MakeError) → Option (List ℕ) → Result Reading MakeError
with_text file n read None = reading_fault file n IncludeAbsent
with_text file n read (Some text) = read text

-- The file at a path, included at a line of another and read in place. The number is how many files can still be included
-- inside each other.
abbrev pub reading_of_include : Files → ℕ → List ℕ → ℕ → Reading → List ℕ → Result Reading MakeError
reading_of_include files zero file n reading path = with_text file n (λ text. reading_fault file n IncludeDepth) (files path)
reading_of_include files (suc left) file n reading path =
    with_text file n
    (λ text.
    if_no_fault (within_limits file n (record reading { files = reading.files + 1 }))
    (read_lines (reading_of_include files left path) path (logical_lines text)))
    (files path)
