-- What a makefile says, by the rule lines that were read.
use Rattle.std.specs.Prelude.{ℕ, Bool, not, ◌&&◌, ◌==◌, Option, None, List, [], ◌∷◌, ◌++◌, length, filter, find, flat_map, fold}
use Rattle.std.specs.Prelude.{is_some, unwrap_or, if◌then◌else◌}
use Rattle.std.specs.List.{list_any}
use Rattle.std.specs.Option.{option_or}
use Rattle.std.specs.Str.{bytes_eq}
use Rattle.cc_names.specs.declared.commands.Macro.{Macro}
use Rattle.make_grammar.specs.Macros.{Expansion, is_among, expansion_of, in_script, is_too_long}
use Rattle.make_grammar.specs.WordPaths.{with_path_once}
use Rattle.make_grammar.specs.declared.contents.Expanded.{Expanded}
use Rattle.make_grammar.specs.declared.contents.Expanded.TheVariants as expansions
use Rattle.make_grammar.specs.Rules.{MakeRule, SuffixRule}

-- what a makefile says
pub record Contents : Type 0 where
  -- one rule a target, or one a group that has a script, in the order of first reading
  pub rules : List MakeRule
  -- in the order in which they are tried
  pub suffix_rules : List SuffixRule
  pub phony : List (List ℕ)
  -- the definition of each name that counts, in the order of first definition
  pub macros : List Macro

-- a rule line and the script below it
pub record RuleLine : Type 0 where
  pub file : List ℕ
  pub line : ℕ
  -- special targets left out; those of a group each once
  pub targets : List (List ℕ)
  pub prerequisites : List (List ℕ)
  -- whether the targets are made together
  pub is_group : Bool
  -- whether there was a special target
  pub is_special : Bool
  pub script : Option (List ℕ)

-- the targets of a group that has a script
abbrev pub group_of : RuleLine → List (List (List ℕ))
group_of line = if line.is_group && is_some line.script then line.targets ∷ [] else []

-- the groups that have scripts
abbrev pub groups_of : List RuleLine → List (List (List ℕ))
groups_of lines = flat_map group_of lines

-- what is made together with a target: its group, else it alone
abbrev pub made_with : List (List (List ℕ)) → List ℕ → List (List ℕ)
made_with groups target = unwrap_or (find (λ group. is_among group target) groups) (target ∷ [])

-- a rule to which a rule line was joined: its prerequisites, each once, and its script
abbrev pub with_joined_line : RuleLine → MakeRule → MakeRule
with_joined_line line rule =
    record rule {
      prerequisites = fold with_path_once rule.prerequisites line.prerequisites;
      script = option_or line.script rule.script;
    }

-- a rule that nothing was said of
abbrev pub rule_without : List (List ℕ) → MakeRule
rule_without targets = record { targets = targets; prerequisites = []; script = None }

-- rules to which a rule line was joined at one of its targets, whose rule may be new
abbrev pub with_target : List (List (List ℕ)) → RuleLine → List MakeRule → List ℕ → List MakeRule
with_target groups line [] target = with_joined_line line (rule_without (made_with groups target)) ∷ []
with_target groups line (rule ∷ rules) target =
    if is_among rule.targets target then with_joined_line line rule ∷ rules else rule ∷ with_target groups line rules target

-- rules to which a rule line was joined
abbrev pub with_rule_line : List (List (List ℕ)) → List MakeRule → RuleLine → List MakeRule
with_rule_line groups rules line = fold (with_target groups line) rules line.targets

-- the rules of rule lines: a rule for each target, or for each group that has a script
abbrev pub joined_rules : List RuleLine → List MakeRule
joined_rules lines = fold (with_rule_line (groups_of lines)) [] lines

-- whether bytes are two suffixes put together
abbrev pub is_pair_of : List (List ℕ) → List ℕ → Bool
is_pair_of suffixes bytes = list_any (λ from. list_any (λ to. bytes_eq bytes (from ++ to)) suffixes) suffixes

-- a suffix rule, where a rule is one: it is no group, and has a script, no prerequisites, and two suffixes as its target
abbrev pub is_suffix_rule : List (List ℕ) → List (List (List ℕ)) → MakeRule → Bool
is_suffix_rule suffixes groups rule =
    is_some rule.script && (length rule.prerequisites == 0)
    && list_any (λ target. is_pair_of suffixes target && not (list_any (λ group. is_among group target) groups)) rule.targets

-- the suffix rule that makes this suffix from that, where the rule is it
abbrev pub suffix_rule_of : List ℕ → List ℕ → MakeRule → List SuffixRule
suffix_rule_of from to rule =
    if is_among rule.targets (from ++ to) then record { from = from; to = to; script = unwrap_or rule.script [] } ∷ [] else []

-- the suffix rules in the order in which they are tried: by the suffix that they begin from, in the order of the list,
-- and then by the suffix that they make
abbrev pub suffix_rules_of : List (List ℕ) → List MakeRule → List SuffixRule
suffix_rules_of suffixes rules = flat_map (λ from. flat_map (λ to. flat_map (suffix_rule_of from to) rules) suffixes) suffixes

-- what a makefile says, by its suffixes, phony targets, macros and rules
abbrev pub contents_from : List (List ℕ) → List (List ℕ) → List Macro → List (List (List ℕ)) → List MakeRule → Contents
contents_from suffixes phony macros groups rules =
    record {
      rules = filter (λ rule. not (is_suffix_rule suffixes groups rule)) rules;
      suffix_rules = suffix_rules_of suffixes (filter (is_suffix_rule suffixes groups) rules);
      phony = phony;
      macros = macros;
    }

-- a script that was expanded, unless it is too long
abbrev pub unless_too_long : Expansion → Expanded
unless_too_long expansion = if is_too_long expansion then expansions.TooLong else expansions.Lines expansion.bytes

-- A script of this makefile with its macros expanded, for a target, the first prerequisite and the stem.
abbrev pub expansion : Contents → List ℕ → List ℕ → Option (List ℕ) → List ℕ → Expanded
expansion make script target first stem =
    unless_too_long (expansion_of make.macros (in_script target first stem) script)
