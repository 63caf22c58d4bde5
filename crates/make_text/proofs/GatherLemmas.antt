-- All that rules are made of, by the numbers of the lines that are joined to them.
use Rattle.std.proofs.Common.{◌≡◌, refl, sym, ap, ◌∙◌, subst, ⊎_elim, ℕ, ◌==◌, Bool, true, false, not, ◌&&◌, Option, Some, None}
use Rattle.std.proofs.Common.{List, [], ◌∷◌, ◌++◌, filter, flat_map, fold, length, is_some, slice_get, replicate, zero, suc}
use Rattle.std.proofs.Common.{if◌then◌else◌, arith}
use Rattle.std.proofs.Math.ListN.{set}
use Rattle.std.proofs.lemmas.List.Sums.{fold-append}
use Rattle.std.proofs.lemmas.Bool.{cases_eq}
use Rattle.make_text.proofs.OnceLemmas.{not_none, with_again, still_included, with_joined}
use Rattle.make_grammar.proofs.Places.{from_other}
use Rattle.make_grammar.specs.Contents.{RuleLine, rule_without, is_suffix_rule}
use Rattle.make_text.specs.Gathering.{prerequisites_in, prerequisites_at, HasPut}
use Rattle.make_text.specs.Joining.{joined_with, joined_at, joined_rule}
use Rattle.make_grammar.specs.Rules.{MakeRule}
use Rattle.make_grammar.specs.Serving.{prerequisites_of}
use Rattle.make_grammar.specs.WordPaths.{with_path_once}
use Rattle.make_text.specs.declared.joining.JoinedRule.{JoinedRule}

-- what a rule is made of, by its lines
joined_prerequisites : (lines : List RuleLine) (rule : MakeRule) (numbers : List ℕ)
    → (fold (joined_at lines) rule numbers).prerequisites ≡ fold with_path_once rule.prerequisites
    (flat_map (prerequisites_at lines) numbers)
joined_prerequisites lines rule [] = refl
joined_prerequisites lines rule (n ∷ numbers) =
    joined_prerequisites lines (joined_at lines rule n) numbers
    ∙ (ap (λ (l : List (List ℕ)). fold with_path_once l (flat_map (prerequisites_at lines) numbers)) (by (slice_get lines n))
    ∙ sym (fold-append with_path_once rule.prerequisites (prerequisites_at lines n) (flat_map (prerequisites_at lines) numbers)))
  where
    by : (o : Option RuleLine) → (joined_with rule o).prerequisites ≡ fold with_path_once rule.prerequisites (prerequisites_in o)
    by None = refl
    by (Some line) = refl

pub rule_prerequisites : (lines : List RuleLine) (rule : JoinedRule) → (joined_rule lines rule).prerequisites
    ≡ fold with_path_once [] (flat_map (prerequisites_at lines) rule.lines.items)
rule_prerequisites lines rule = joined_prerequisites lines (rule_without rule.targets) rule.lines.items

-- a line that is marked puts nothing
pub put_marked : (lines : List RuleLine) (marks : List Bool) (paths : List (List ℕ)) (n : ℕ) → HasPut lines marks paths
    → slice_get marks n ≡ Some true → paths ≡ fold with_path_once paths (prerequisites_at lines n)
put_marked lines marks paths n has at = sym (has n at)

-- after a line that was put and marked
pub put_more : (lines : List RuleLine) (marks : List Bool) (paths : List (List ℕ)) (n : ℕ) → HasPut lines marks paths
    → HasPut lines (set marks n true) (fold with_path_once paths (prerequisites_at lines n))
put_more lines marks paths n has =
    λ m at.
    ⊎_elim
    (λ (same : m ≡ n). subst (λ (k : ℕ). fold with_path_once (fold with_path_once paths (prerequisites_at lines n))
    (prerequisites_at lines k) ≡ fold with_path_once paths (prerequisites_at lines n)) (sym same)
    (with_again paths (prerequisites_at lines n)))
    (λ other. still_included paths (prerequisites_at lines n) (prerequisites_at lines m)
    (has m (from_other marks n m true true other at)))
    (cases_eq m n)

-- suffix rules are made of nothing
suffix_bare : (suffixes : List (List ℕ)) (groups : List (List (List ℕ))) (rule : MakeRule)
    → is_suffix_rule suffixes groups rule ≡ true → rule.prerequisites ≡ []
suffix_bare suffixes groups rule h = by (is_some rule.script) rule.prerequisites _ h
  where
    by : (s : Bool) (ps : List (List ℕ)) (t : Bool) → (s && (length ps == 0) && t) ≡ true → ps ≡ []
    by true [] t h = refl
    by true (p ∷ ps) t h =
        let never : (length (p ∷ ps) == 0) ≡ false = sym (not_none (length (p ∷ ps)) (omega arith)) in
        let is : false ≡ true = sym (ap (λ b. true && b && t) never) ∙ h in
        absurd (cc)
    by false ps t h = absurd (cc)

pub preserved_prerequisites : (suffixes : List (List ℕ)) (groups : List (List (List ℕ))) (rules : List MakeRule) →
    flat_map prerequisites_of (filter (λ rule. not (is_suffix_rule suffixes groups rule)) rules) ≡ flat_map prerequisites_of rules
preserved_prerequisites suffixes groups [] = refl
preserved_prerequisites suffixes groups (rule ∷ rules) = by (is_suffix_rule suffixes groups rule) refl
    (preserved_prerequisites suffixes groups rules)
  where
    by : (t : Bool) → is_suffix_rule suffixes groups rule ≡ t → flat_map prerequisites_of
        (filter (λ rule. not (is_suffix_rule suffixes groups rule)) rules) ≡ flat_map prerequisites_of rules →
        flat_map prerequisites_of (if not t then rule ∷ filter (λ rule. not (is_suffix_rule suffixes groups rule)) rules else
        filter (λ rule. not (is_suffix_rule suffixes groups rule)) rules) ≡ rule.prerequisites
        ++ flat_map prerequisites_of rules
    by true is rest = rest ∙ ap (λ (ps : List (List ℕ)). ps ++ flat_map prerequisites_of rules)
        (sym (suffix_bare suffixes groups rule is))
    by false is rest = ap (λ (l : List (List ℕ)). rule.prerequisites ++ l) rest

-- no line is marked at first
no_marks : (n m : ℕ) → slice_get (replicate n false) m ≡ Some true → ⊥
no_marks zero m h = cc
no_marks (suc n) zero h = cc
no_marks (suc n) (suc m) h = no_marks n m h

pub none_put : (lines : List RuleLine) (n : ℕ) (paths : List (List ℕ)) → HasPut lines (replicate n false) paths
none_put lines n paths = λ m at. absurd (no_marks n m at)

pub put_step : (lines : List RuleLine) (marks new_marks : List Bool) (paths new_paths : List (List ℕ)) (n : ℕ)
    → HasPut lines marks paths → new_marks ≡ set marks n true →
    new_paths ≡ fold with_path_once paths (prerequisites_at lines n) → HasPut lines new_marks new_paths
put_step lines marks new_marks paths new_paths n has one two =
    subst (λ (l : List (List ℕ)). HasPut lines new_marks l) (sym two)
    (subst (λ (l : List Bool). HasPut lines l (fold with_path_once paths (prerequisites_at lines n))) (sym one)
    (put_more lines marks paths n has))

-- a rule put after others
pub put_joined : (lines : List RuleLine) (rule : JoinedRule) (paths : List (List ℕ))
    → fold with_path_once paths (flat_map (prerequisites_at lines) rule.lines.items)
    ≡ fold with_path_once paths (joined_rule lines rule).prerequisites
put_joined lines rule paths =
    sym (ap (fold with_path_once paths) (rule_prerequisites lines rule)
    ∙ with_joined paths [] (flat_map (prerequisites_at lines) rule.lines.items))
