-- The rules of rule lines in their form are formed, and no two of them have a target.
use Rattle.std.proofs.Common.{◌≡◌, refl, sym, ap, ◌∙◌, ℕ, Bool, true, false, ◌||◌, List, [], ◌∷◌, ◌++◌, filter, fold, flat_map}
use Rattle.std.proofs.Common.{reverse, if◌then◌else◌}
use Rattle.std.proofs.lemmas.List.Folds.{list_any-append}
use Rattle.std.proofs.lemmas.Slice.Eq.{bytes_eq-Decides}
use Rattle.std.specs.Bool.{⊤}
use Rattle.std.specs.List.{AllByRecursion, IsDistinct}
use Rattle.std.specs.Str.{bytes_eq}
use Rattle.std.proofs.lemmas.Bool.{or_from, or_parts}
use Rattle.cc_names.specs.Formed.{IsBelowRoot}
use Rattle.cc_names.proofs.Common.{all_of_both}
use Rattle.make_grammar.proofs.GroupLaws.{AreGroups, among_made, made_same, made_targets, groups_formed, lines_reversed}
use Rattle.make_grammar.proofs.GroupLaws.{groups_apart}
use Rattle.make_grammar.proofs.RuleLineLaws.{IsLine, AreLines}
use Rattle.make_grammar.proofs.RuleWordLaws.{all_joined}
use Rattle.make_grammar.proofs.ServingLaws.{all_filter, distinct_fold}
use Rattle.make_grammar.specs.Contents.{RuleLine, groups_of, made_with, with_joined_line, rule_without, with_target}
use Rattle.make_grammar.specs.Contents.{with_rule_line, joined_rules}
use Rattle.make_grammar.specs.Macros.{is_among}
use Rattle.make_grammar.specs.Units.{targets_of}
use Rattle.make_grammar.specs.UnitLaws.{IsRule}
use Rattle.make_grammar.specs.Rules.{MakeRule}

-- ---- rules to which rule lines were joined

-- a formed rule whose targets are made together
record IsJoined (groups : List (List (List ℕ))) (rule : MakeRule) : Type 0 where
  formed : IsRule rule
  whole : (path : List ℕ) → is_among rule.targets path ≡ true → made_with groups path ≡ rule.targets

-- rules that have no target of this one
abbrev IsApartFrom : MakeRule → MakeRule → Type 0
IsApartFrom rule other = (path : List ℕ) → is_among rule.targets path ≡ true → is_among other.targets path ≡ false

-- such rules, of which no two have a target
abbrev AreRules : List (List (List ℕ)) → List MakeRule → Type 0
AreRules groups [] = ⊤
AreRules groups (rule ∷ rules) = IsJoined groups rule × AllByRecursion (IsApartFrom rule) rules × AreRules groups rules

-- a line that is joined to a rule keeps its form
with_line_joined : (groups : List (List (List ℕ))) (line : RuleLine) (rule : MakeRule) → IsLine line → IsJoined groups rule
    → IsJoined groups (with_joined_line line rule)
with_line_joined groups line rule formed joined =
    record {
      formed = (
        joined.formed.0,
        (
          all_joined IsBelowRoot rule.prerequisites line.prerequisites joined.formed.1.0
              formed.prerequisites,
          distinct_fold line.prerequisites rule.prerequisites joined.formed.1.1,
        ),
      );
      whole = joined.whole;
    }

-- a new rule has it
new_joined : (groups : List (List (List ℕ))) (target : List ℕ) → AreGroups groups → IsBelowRoot target
    → IsJoined groups (rule_without (made_with groups target))
unfolding IsDistinct
new_joined groups target are below =
    record {
      formed = (made_targets groups target are.formed below, (tt, tt));
      whole = λ path. made_same groups target path are.apart;
    }

-- a rule without the target has nothing of what is made with it
without_target : (groups : List (List (List ℕ))) (rule : MakeRule) (target : List ℕ) → AreGroups groups → IsJoined groups rule
    → is_among rule.targets target ≡ false →
    (path : List ℕ) → is_among rule.targets path ≡ true → is_among (made_with groups target) path ≡ false
without_target groups rule target are joined none path among = by (is_among (made_with groups target) path) refl
  where
    by : (t : Bool) → is_among (made_with groups target) path ≡ t → t ≡ false
    by true is =
        let same : rule.targets ≡ made_with groups target = sym (joined.whole path among)
        ∙ made_same groups target path are.apart is in
        let inside : is_among rule.targets target ≡ true = ap (λ (g : List (List ℕ)). is_among g target) same
        ∙ among_made groups target in
        absurd (cc)
    by false is = refl

-- a rule without the target stays apart from rules to which a line is joined there
apart_preserved : (groups : List (List (List ℕ))) (line : RuleLine) (rule : MakeRule) (rules : List MakeRule) (target : List ℕ)
    → AreGroups groups → IsJoined groups rule → is_among rule.targets target ≡ false →
    AllByRecursion (IsApartFrom rule) rules → AllByRecursion (IsApartFrom rule) (with_target groups line rules target)
apart_preserved groups line rule [] target are joined none h = (without_target groups rule target are joined none, tt)
apart_preserved groups line rule (other ∷ rules) target are joined none h =
    by (is_among other.targets target) (apart_preserved groups line rule rules target are joined none h.1)
  where
    by : (t : Bool) → AllByRecursion (IsApartFrom rule) (with_target groups line rules target)
        → AllByRecursion (IsApartFrom rule) (if t then with_joined_line line other ∷ rules else other
        ∷ with_target groups line rules target)
    by true more = (h.0, h.1)
    by false more = (h.0, more)

target_joined : (groups : List (List (List ℕ))) (line : RuleLine) (rules : List MakeRule) (target : List ℕ) → AreGroups groups
    → IsLine line → IsBelowRoot target → AreRules groups rules → AreRules groups (with_target groups line rules target)
target_joined groups line [] target are formed below h = (
  with_line_joined groups line (rule_without (made_with groups target))
      formed (new_joined groups target are below),
  tt,
  tt,
)
target_joined groups line (rule ∷ rules) target are formed below h = by (is_among rule.targets target) refl
    (target_joined groups line rules target are formed below h.2)
  where
    by : (t : Bool) → is_among rule.targets target ≡ t → AreRules groups (with_target groups line rules target)
        → AreRules groups (if t then with_joined_line line rule ∷ rules else rule ∷ with_target groups line rules target)
    by true is more = (with_line_joined groups line rule formed h.0, h.1, h.2)
    by false is more = (h.0, apart_preserved groups line rule rules target are h.0 is h.1, more)

targets_joined : (groups : List (List (List ℕ))) (line : RuleLine) (targets : List (List ℕ)) (rules : List MakeRule)
    → AreGroups groups → IsLine line → AllByRecursion IsBelowRoot targets → AreRules groups rules →
    AreRules groups (fold (with_target groups line) rules targets)
targets_joined groups line [] rules are formed below h = h
targets_joined groups line (target ∷ targets) rules are formed below h =
    targets_joined groups line targets (with_target groups line rules target) are formed below.1
    (target_joined groups line rules target are formed below.0 h)

lines_joined : (groups : List (List (List ℕ))) (lines : List RuleLine) (rules : List MakeRule) → AreGroups groups
    → AllByRecursion IsLine lines → AreRules groups rules → AreRules groups (fold (with_rule_line groups) rules lines)
lines_joined groups [] rules are formed h = h
lines_joined groups (line ∷ lines) rules are formed h =
    lines_joined groups lines (with_rule_line groups rules line) are formed.1
    (targets_joined groups line line.targets rules are formed.0 formed.0.targets.1 h)

-- ---- what is left of them

rules_filtered : (groups : List (List (List ℕ))) (test : MakeRule → Bool) (rules : List MakeRule) → AreRules groups rules
    → AreRules groups (filter test rules)
rules_filtered groups test [] h = tt
rules_filtered groups test (rule ∷ rules) h = by (test rule) (rules_filtered groups test rules h.2)
  where
    by : (t : Bool) → AreRules groups (filter test rules) → AreRules groups
        (if t then rule ∷ filter test rules else filter test rules)
    by true more = (h.0, all_filter (IsApartFrom rule) test rules h.1, more)
    by false more = more

rules_formed : (groups : List (List (List ℕ))) (rules : List MakeRule) → AreRules groups rules → AllByRecursion IsRule rules
rules_formed groups [] h = tt
rules_formed groups (rule ∷ rules) h = (h.0.formed, rules_formed groups rules h.2)

-- distinct paths before distinct ones that are none of them
distinct_before : (paths others : List (List ℕ)) → IsDistinct bytes_eq paths → IsDistinct bytes_eq others
    → ((path : List ℕ) → is_among paths path ≡ true → is_among others path ≡ false) → IsDistinct bytes_eq (paths ++ others)
unfolding IsDistinct
distinct_before [] others one two apart = two
distinct_before (p ∷ paths) others one two apart = (
  all_of_both (λ q. bytes_eq p q ≡ false) paths others one.0 (differs others
      (apart p (first (bytes_eq p p) ((bytes_eq-Decides p p).1 refl)))),
  distinct_before paths others one.1 two (λ path among. apart path (later path (bytes_eq path p) among)),
)
  where
    first : (t : Bool) → t ≡ true → (t || is_among paths p) ≡ true
    first true h = refl
    first false h = absurd (cc)

    later : (path : List ℕ) (t : Bool) → is_among paths path ≡ true → (t || is_among paths path) ≡ true
    later path true h = refl
    later path false h = h

    differs : (qs : List (List ℕ)) → is_among qs p ≡ false → AllByRecursion (λ q. bytes_eq p q ≡ false) qs
    differs [] h = tt
    differs (q ∷ qs) h = let none = or_parts (bytes_eq p q) (is_among qs p) h in (none.0, differs qs none.1)

-- none has a path that no rule after it has
none_has : (rule : MakeRule) (rules : List MakeRule) (path : List ℕ) → is_among rule.targets path ≡ true
    → AllByRecursion (IsApartFrom rule) rules → is_among (flat_map targets_of rules) path ≡ false
none_has rule [] path among h = refl
none_has rule (other ∷ rules) path among h =
    list_any-append (bytes_eq path) other.targets (flat_map targets_of rules)
    ∙ or_from (is_among other.targets path) (is_among (flat_map targets_of rules) path) (h.0 path among)
    (none_has rule rules path among h.1)

rules_apart : (groups : List (List (List ℕ))) (rules : List MakeRule) → AreRules groups rules
    → IsDistinct bytes_eq (flat_map targets_of rules)
unfolding IsDistinct
rules_apart groups [] h = tt
rules_apart groups (rule ∷ rules) h =
    distinct_before rule.targets (flat_map targets_of rules) h.0.formed.0.2 (rules_apart groups rules h.2)
    (λ path among. none_has rule rules path among h.1)

-- The rules of rule lines, but for those that a test leaves out: formed, and no target is of two.
pub record AreFormed (rules : List MakeRule) : Type 0 where
  pub rules_are : AllByRecursion IsRule rules
  pub apart : IsDistinct bytes_eq (flat_map targets_of rules)

-- The rules of rule lines in their form, the newest first, are so.
pub joined_formed : (lines : List RuleLine) (test : MakeRule → Bool) → AreLines lines
    → AreFormed (filter test (joined_rules (reverse lines)))
joined_formed lines test h =
    let oldest_first = lines_reversed lines h in
    let groups = groups_of (reverse lines) in
    let are : AreGroups groups = record { formed = groups_formed (reverse lines) oldest_first; apart = groups_apart lines h } in
    let all = rules_filtered groups test (joined_rules (reverse lines))
    (lines_joined groups (reverse lines) [] are oldest_first tt) in
    record { rules_are = rules_formed groups _ all; apart = rules_apart groups _ all }
