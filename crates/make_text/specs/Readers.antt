-- A makefile that is being read, with the targets that have scripts.
use Rattle.std.specs.Prelude.{◌≡◌, ℕ, Bool, true, false, ◌&&◌, Option, Some, None, Result, Ok, Err, List, [], ◌∷◌, is_some}
use Rattle.std.specs.Prelude.{if◌then◌else◌}
use Rattle.cc_names.specs.Answers.{FaultIs}
use Rattle.cc_names.specs.declared.memory.Or.{Or}
use Rattle.cc_names.specs.declared.refusals.MakeCause.TheVariants.{BadLine, BadMacro, TwoScripts}
use Rattle.cc_names.specs.declared.refusals.MakeError.{MakeError}
use Rattle.make_grammar.specs.Contents.{RuleLine}
use Rattle.make_grammar.specs.Macros.{is_among, has_bad_dollar}
use Rattle.make_text.specs.ReadingSteps.{ended_rule}
use Rattle.make_grammar.specs.Statements.{Reading, reading_fault, unless_cause, cause_or, cause_where, is_scripted}
use Rattle.make_grammar.specs.Statements.{is_second_script, macros_of, include_words, include_line, within_limits}

-- the rule lines after the newest
abbrev pub older_of : List RuleLine → List RuleLine
older_of [] = []
older_of (rule ∷ older) = older

-- whether the newest rule line has a script that is the second one of a target
abbrev pub is_doubled : List RuleLine → Bool
is_doubled [] = false
is_doubled (rule ∷ older) = is_some rule.script && is_second_script rule older

-- some targets are those that have a script of a rule line older than the newest, whose script is no target's second
pub record KeepsScripted (scripted : List (List ℕ)) (rules : List RuleLine) : Type 0 where
  pub scripts : (target : List ℕ) → is_among scripted target ≡ is_scripted (older_of rules) target
  pub single : is_doubled rules ≡ false

-- the rule line that a script line belongs to
abbrev pub open_rule : Bool → List RuleLine → Option RuleLine
open_rule true (rule ∷ older) = Some rule
open_rule takes_script rules = None

-- what was read, unless a line of a script has a fault
abbrev pub script_tested : List ℕ → ℕ → List ℕ → RuleLine → List RuleLine → Reading → Result Reading MakeError
script_tested file n line rule older reading =
    if is_second_script rule older then reading_fault rule.file rule.line TwoScripts
    else unless_cause file n (cause_or (cause_where rule.is_special BadLine) (cause_where (has_bad_dollar line) BadMacro)) reading

-- an include line ended the rule above it, and gave paths; or it has a fault, whichever files there are
abbrev pub OpensInclude : List ℕ → ℕ → List ℕ → Reading → Result (Reading × List (List ℕ)) (Or MakeError) → Type 0
OpensInclude file n behind old (Ok opened) =
    (include_words (macros_of old.macros) behind ≡ Ok opened.1) × (within_limits file n (ended_rule old) ≡ Ok opened.0)
OpensInclude file n behind old (Err fault) =
    (include : Reading → List ℕ → Result Reading MakeError) → FaultIs fault (include_line include file n behind old)
