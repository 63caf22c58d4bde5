-- Which rule serves a path: its own, or a suffix rule.
use Rattle.std.specs.Prelude.{ℕ, ◌-◌, Bool, ◌&&◌, ◌||◌, not, nat_eq, Option, Some, None, option_map, List, [], ◌∷◌, ◌++◌, length}
use Rattle.std.specs.Prelude.{take, map, filter, flat_map, if◌then◌else◌}
use Rattle.std.specs.List.{ends_with, filter_map}
use Rattle.std.specs.Option.{is_some}
use Rattle.std.specs.Str.{bytes_eq}
use Rattle.make_grammar.specs.Contents.{Contents}
use Rattle.make_grammar.specs.WordPaths.{path_below_root, each_once}
use Rattle.make_grammar.specs.Macros.{is_among}
use Rattle.make_grammar.specs.Units.{is_rule_target}
use Rattle.make_grammar.specs.Rules.{Inference, MakeRule, Serving, SuffixRule}

-- the prerequisites of a rule
abbrev pub prerequisites_of : MakeRule → List (List ℕ)
prerequisites_of rule = rule.prerequisites

-- what stands before a suffix of a path, where it ends with this one
abbrev pub stem_of : List ℕ → List ℕ → Option (List ℕ)
stem_of suffix path = if ends_with nat_eq path suffix then Some (take (length path - length suffix) path) else None

-- a path, where the test holds of it
abbrev pub path_if : (List ℕ → Bool) → Option (List ℕ) → Option (List ℕ)
path_if test None = None
path_if test (Some path) = if test path then Some path else None

-- the source of this stem: the path that ends with the first suffix of the rule, where it is a file or the target of a rule
abbrev pub source_at : Contents → (List ℕ → Bool) → List ℕ → List ℕ → Option (List ℕ)
source_at make is_file suffix stem = path_if (λ path. is_file path || is_rule_target make.rules path)
    (path_below_root (stem ++ suffix))

-- how a suffix rule serves a path, where it does
abbrev pub inference_at : Contents → (List ℕ → Bool) → SuffixRule → Option (List ℕ) → Option Inference
inference_at make is_file rule None = None
inference_at make is_file rule (Some stem) =
    option_map (λ source. record { stem = stem; source = source; script = rule.script }) (source_at make is_file rule.from stem)

-- the first of the suffix rules that serves a path
abbrev pub first_inference : Contents → (List ℕ → Bool) → List ℕ → List SuffixRule → Option Inference
first_inference make is_file path [] = None
first_inference make is_file path (rule ∷ rules) =
    elim (inference_at make is_file rule (stem_of rule.to path)) [
      | Some found ↦ Some found
      | None ↦
          first_inference make is_file path rules
    ]

-- whether a suffix rule may serve a path that has no script: it is below the root, no file of the view, and not phony
abbrev pub may_be_served : Contents → (List ℕ → Bool) → List ℕ → Bool
may_be_served make is_file path = is_some (path_below_root path) && not (is_file path || is_among make.phony path)

-- how a suffix rule serves a path that has no script, if one does
abbrev pub inference : Contents → (List ℕ → Bool) → List ℕ → Option Inference
inference make is_file path = if may_be_served make is_file path then first_inference make is_file path make.suffix_rules else
    None

-- paths with this one at the start
abbrev pub with_first : List ℕ → List (List ℕ) → List (List ℕ)
with_first path paths = path ∷ filter (λ other. not (bytes_eq path other)) paths

-- a rule that a suffix rule gives its script and its first prerequisite
abbrev pub by_suffix : MakeRule → Inference → Serving
by_suffix rule found =
    record {
      targets = rule.targets;
      prerequisites = with_first found.source rule.prerequisites;
      script = Some found.script;
      stem = found.stem;
    }

-- a rule by itself
abbrev pub by_itself : MakeRule → Serving
by_itself rule = record { targets = rule.targets; prerequisites = rule.prerequisites; script = rule.script; stem = [] }

-- a rule with the help of a suffix rule, if there is any
abbrev pub with_suffix_rule : MakeRule → Option Inference → Serving
with_suffix_rule rule None = by_itself rule
with_suffix_rule rule (Some found) = by_suffix rule found

-- the inference for a rule of these targets and this script: a rule that has a script needs none
abbrev pub inference_for : Contents → (List ℕ → Bool) → List (List ℕ) → Option (List ℕ) → Option Inference
inference_for make is_file [] script = None
inference_for make is_file (target ∷ targets) (Some script) = None
inference_for make is_file (target ∷ targets) None = inference make is_file target

-- a rule of the makefile as it serves
abbrev pub serving_of : Contents → (List ℕ → Bool) → MakeRule → Serving
serving_of make is_file rule = with_suffix_rule rule (inference_for make is_file rule.targets rule.script)

-- the rule that says nothing of its target
abbrev pub bare_rule : List ℕ → MakeRule
bare_rule path = record { targets = path ∷ []; prerequisites = []; script = None }

-- a path that has no rule, where a suffix rule serves it
abbrev pub serving_alone : Contents → (List ℕ → Bool) → List ℕ → Option Serving
serving_alone make is_file path = option_map (by_suffix (bare_rule path)) (inference make is_file path)

-- the goals and prerequisites that have no rule, each once
abbrev pub without_rule : Contents → List (List ℕ) → List (List ℕ)
without_rule make goals =
    each_once (filter (λ path. not (is_rule_target make.rules path)) (goals ++ flat_map prerequisites_of make.rules))

-- All that may serve a build of these goals: the rules, and after them the paths without a rule that a suffix rule serves.
-- The source of a suffix rule is a file, which needs nothing, or has a rule.
abbrev pub servings : Contents → (List ℕ → Bool) → List (List ℕ) → List Serving
servings make is_file goals = map (serving_of make is_file) make.rules
    ++ filter_map (serving_alone make is_file) (without_rule make goals)
