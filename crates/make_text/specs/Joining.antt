-- Rules as the numbers of the rule lines that are joined to them.
use Rattle.std.specs.Prelude.{◌≡◌, ℕ, ◌&&◌, Option, Some, None, List, [], ◌∷◌, ◌++◌, fold, map, is_some, slice_get}
use Rattle.std.specs.Prelude.{slice_index_or, slice_set, if◌then◌else◌}
use Rattle.std.specs.declared.random_state.RandomState.{RandomState}
use Rattle.std.specs.HashMap.{HashMap, get}
use Rattle.std.specs.Str.{bytes_eq}
use Rattle.make_grammar.specs.Contents.{RuleLine, groups_of, with_joined_line, rule_without, with_target}
use Rattle.make_grammar.specs.Numbers.{number_from}
use Rattle.make_grammar.specs.Rules.{MakeRule}
use Rattle.make_text.specs.declared.joining.JoinedRule.{JoinedRule}

-- a rule with this line joined to it, if there is one
abbrev pub joined_with : MakeRule → Option RuleLine → MakeRule
joined_with rule None = rule
joined_with rule (Some line) = with_joined_line line rule

-- a rule with the line of this number joined to it
abbrev pub joined_at : List RuleLine → MakeRule → ℕ → MakeRule
joined_at lines rule n = joined_with rule (slice_get lines n)

-- the rule of these targets that the lines of these numbers are joined to
abbrev pub joined_rule : List RuleLine → JoinedRule → MakeRule
joined_rule lines rule = fold (joined_at lines) (rule_without rule.targets) rule.lines.items

abbrev pub rules_of : List RuleLine → List JoinedRule → List MakeRule
rules_of lines rules = map (joined_rule lines) rules

-- the targets of a rule
abbrev pub joined_targets : JoinedRule → List (List ℕ)
joined_targets rule = rule.targets

-- the map has the number of each target of a rule
abbrev pub KnowsJoined : HashMap (List ℕ) ℕ RandomState → List JoinedRule → Type 0
KnowsJoined numbers rules = (path : List ℕ) → get bytes_eq numbers path ≡ number_from joined_targets 0 path rules

-- the targets of a rule line that are made together
abbrev pub made_together : RuleLine → List (List ℕ)
made_together line = if line.is_group && is_some line.script then line.targets else []

-- the map has the number of the first rule line that makes each of its targets together with others
abbrev pub KnowsGroups : HashMap (List ℕ) ℕ RandomState → List RuleLine → Type 0
KnowsGroups numbers lines = (path : List ℕ) → get bytes_eq numbers path ≡ number_from made_together 0 path lines

-- a rule with one more line
abbrev pub HasJoined : JoinedRule → ℕ → JoinedRule → Type 0
HasJoined old n new =
    (new.targets ≡ old.targets) × ((lines : List RuleLine) → joined_rule lines new ≡ joined_at lines (joined_rule lines old) n)

-- rules with a new one after them
abbrev pub HasNew : List (List ℕ) → ℕ → List JoinedRule → List JoinedRule → Type 0
HasNew targets n old new =
    (lines : List RuleLine) → rules_of lines new ≡ rules_of lines old ++ joined_at lines (rule_without targets) n ∷ []

-- rules of which the one of this number has one more line
abbrev pub HasLonger : ℕ → ℕ → List JoinedRule → List JoinedRule → Type 0
HasLonger k n old new =
    (lines : List RuleLine) (rule : MakeRule) → rules_of lines new ≡ slice_set (rules_of lines old) k
    (joined_at lines (slice_index_or (rules_of lines old) k rule) n)

-- rules to which the line of this number was joined at a target
abbrev pub HasTarget : List RuleLine → ℕ → List ℕ → List JoinedRule → List JoinedRule → Type 0
HasTarget lines n target old new =
    (line : RuleLine) → slice_get lines n ≡ Some line → rules_of lines new
    ≡ with_target (groups_of lines) line (rules_of lines old) target
