-- The steps by which a makefile is read line by line.
use Rattle.std.specs.Prelude.{◌≡◌, ℕ, ◌+◌, true, false, None, Result, Ok, Err, List, [], ◌∷◌, fold, length, if◌then◌else◌}
use Rattle.std.specs.List.{list_any}
use Rattle.cc_names.specs.Answers.{FaultIs}
use Rattle.cc_names.specs.declared.memory.Or.{Or}
use Rattle.cc_names.specs.declared.refusals.MakeError.{MakeError}
use Rattle.make_grammar.specs.Contents.{RuleLine}
use Rattle.make_grammar.specs.Macros.{is_among}
use Rattle.make_grammar.specs.WordPaths.{with_path_once}
use Rattle.make_grammar.specs.Statements.{Definition, Reading, with_definition, with_script_line, with_suffixes, suffixes_name}
use Rattle.make_grammar.specs.Statements.{phony_name, is_special, plain_targets, if_no_fault, read_line, within_limits}
use Rattle.make_grammar.specs.declared.logical_lines.LogicalLine.{LogicalLine}
use Rattle.make_grammar.specs.declared.rule_lines.RuleWords.{RuleWords}

-- unless memory ran out, a call left what reading gives, or answered the fault that it gives
abbrev pub LeavesReading : {U X E : Type 0} → Result U (Or E) → X → Result X E → Type 0
LeavesReading (Ok done) left read = read ≡ Ok left
LeavesReading (Err fault) left read = FaultIs fault read

-- what was read, with a macro
abbrev pub with_defined : Definition → Reading → Reading
with_defined definition reading = record reading { macros = with_definition definition reading.macros }

-- what was read, where the rule above is ended
abbrev pub ended_rule : Reading → Reading
ended_rule reading = record reading { takes_script = false }

-- one line more, and one included file more
abbrev pub counted_line : Reading → Reading
counted_line reading = record reading { lines = reading.lines + 1 }

abbrev pub counted_file : Reading → Reading
counted_file reading = record reading { files = reading.files + 1 }

-- what was read, with what the special targets of a rule line say
abbrev pub with_special : RuleWords → Reading → Reading
with_special words reading =
    record reading {
      suffixes = if is_among words.targets suffixes_name then with_suffixes reading.suffixes words.prerequisites else
          reading.suffixes;
      phony = if is_among words.targets phony_name then fold with_path_once reading.phony words.prerequisites else reading.phony;
    }

-- the rule line of these words, without a script
abbrev pub rule_line_of_words : List ℕ → ℕ → RuleWords → RuleLine
rule_line_of_words file n words =
    record {
      file = file;
      line = n;
      targets = plain_targets words.is_group words.targets;
      prerequisites = words.prerequisites;
      is_group = words.is_group;
      is_special = list_any is_special words.targets;
      script = None;
    }

-- what was read, with a rule line after it, to which a script line that comes next belongs
abbrev pub with_next_rule : RuleLine → Reading → Reading
with_next_rule rule reading =
    record reading {
      targets = reading.targets + length rule.targets;
      rules = rule ∷ reading.rules;
      takes_script = true;
    }

-- rule lines with a script line below the newest, where there is one
abbrev pub newest_with : List ℕ → List RuleLine → List RuleLine
newest_with line [] = []
newest_with line (rule ∷ older) = with_script_line rule line ∷ older

abbrev pub with_newest_line : List ℕ → Reading → Reading
with_newest_line line reading = record reading { rules = newest_with line reading.rules }

-- a line counted and read, within the limits after it
abbrev pub counted_line_read : (ℕ → Reading → List ℕ → Result Reading MakeError) → List ℕ → LogicalLine → Reading
    → Result Reading MakeError
counted_line_read include file line reading =
    if_no_fault (read_line include file line (counted_line reading)) (within_limits file line.number)
