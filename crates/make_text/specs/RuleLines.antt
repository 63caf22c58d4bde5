-- The words of rule lines and include lines as they are read.
use Rattle.std.specs.Prelude.{◌≡◌, ℕ, Bool, true, not, ◌&&◌, Result, List}
use Rattle.std.specs.List.{list_all}
use Rattle.cc_names.specs.declared.commands.Macro.{Macro}
use Rattle.cc_names.specs.Cuts.{words_of}
use Rattle.cc_names.specs.declared.refusals.MakeCause.{MakeCause}
use Rattle.cc_names.specs.declared.refusals.MakeCause.TheVariants.{BadPath}
use Rattle.make_grammar.specs.Macros.{is_among}
use Rattle.make_grammar.specs.Statements.{or_cause, cause_where, is_path, is_suffix, suffixes_name, expanded_by, before_mark}
use Rattle.make_grammar.specs.Statements.{rule_expansion, expansion_fault, rule_words_fault}
use Rattle.make_grammar.specs.declared.rule_lines.RuleWords.{RuleWords}

-- words that are paths below the root, or that one is none
abbrev pub words_below_root : List (List ℕ) → Result (List (List ℕ)) MakeCause
words_below_root words = or_cause (cause_where (not (list_all is_path words)) BadPath) words

-- a rule line of these words, or the fault of their paths
abbrev pub rule_of_paths : Bool → List (List ℕ) → List (List ℕ) → Result RuleWords MakeCause
rule_of_paths grouped targets prerequisites =
    or_cause (cause_where (not (list_all is_path targets && list_all is_path prerequisites)) BadPath)
    (record { is_group = grouped; targets = targets; prerequisites = prerequisites })

-- a rule line of these words, or their fault
abbrev pub rule_of_words : Bool → List (List ℕ) → List (List ℕ) → Result RuleWords MakeCause
rule_of_words grouped targets prerequisites =
    or_cause (rule_words_fault grouped targets prerequisites)
    (record { is_group = grouped; targets = targets; prerequisites = prerequisites })

-- a rule line by what stands before its mark and after it, once both were expanded
abbrev pub rule_of_sides : Bool → List ℕ → List ℕ → Result RuleWords MakeCause
rule_of_sides grouped before behind = rule_of_words grouped (words_of before) (words_of behind)

-- both sides of a rule line expanded, or the fault of their expansion
abbrev pub expanded_sides : List Macro → List ℕ → List ℕ → Result (List ℕ × List ℕ) MakeCause
expanded_sides macros before behind =
    or_cause (expansion_fault (rule_expansion macros before behind))
    ((expanded_by macros (before_mark before)).bytes, (expanded_by macros behind).bytes)

-- the words of a rule line are suffixes after `.SUFFIXES`
abbrev pub AreSaid : RuleWords → Type 0
AreSaid words = is_among words.targets suffixes_name ≡ true → list_all is_suffix words.prerequisites ≡ true
