-- Rules that rule lines are joined to, by their places.
use Rattle.std.proofs.Common.{◌≡◌, refl, sym, ap, ◌∙◌, ℕ, zero, suc, ◌+◌, ◌-◌, ◌<◌, ◌≤◌, Bool, true, false, ◌||◌, ◌&&◌, Option}
use Rattle.std.proofs.Common.{Some, None, List, [], ◌∷◌, ◌++◌, find, fold, length, map, option_map, is_some, IfOk, Result, Ok}
use Rattle.std.proofs.Common.{Err, slice_get, unwrap_or, get_or, if◌then◌else◌, arith}
use Rattle.std.proofs.lemmas.List.{map-set, get_or-map}
use Rattle.std.proofs.Math.Seq.{map-set_same}
use Rattle.std.specs.declared.random_state.RandomState.{RandomState}
use Rattle.std.specs.HashMap.{HashMap}
use Rattle.std.specs.List.{list_any}
use Rattle.std.specs.Option.{option_or}
use Rattle.std.proofs.Math.ListN.{set}
use Rattle.make_text.proofs.OnceLemmas.{with_again}
use Rattle.make_grammar.specs.Contents.{RuleLine, groups_of, made_with, with_joined_line, rule_without, with_target}
use Rattle.make_text.specs.Joining.{joined_with, joined_at, joined_rule, rules_of, joined_targets, made_together, KnowsJoined}
use Rattle.make_text.specs.Joining.{HasJoined, HasLonger, HasNew, HasTarget}
use Rattle.make_text.specs.SuffixRules.{is_in_group}
use Rattle.make_text.specs.declared.joining.JoinedRule.{JoinedRule}
use Rattle.make_grammar.specs.Macros.{is_among}
use Rattle.make_grammar.specs.Numbers.{number_from}
use Rattle.make_grammar.specs.Units.{targets_of}
use Rattle.make_grammar.specs.Rules.{MakeRule}

-- numbers are counted on from the first
least_of : {A : Type 0} (targets : A → List (List ℕ)) (path : List ℕ) (xs : List A) (n i : ℕ)
    → number_from targets n path xs ≡ Some i → n ≤ i
least_of targets path [] n i h = absurd (cc)
least_of {A} targets path (x ∷ xs) n i h = by (is_among (targets x) path) (least_of targets path xs (n + 1) i) h
  where
    by : (t : Bool) → (number_from targets (n + 1) path xs ≡ Some i → n + 1 ≤ i) →
        elim t as (λ b. Option ℕ) [ true ↦ Some n | false ↦ number_from targets (n + 1) path xs ] ≡ Some i → n ≤ i
    by true more h = let e : n ≡ i = cc in omega (arith, e)
    by false more h = let l = more h in omega (arith, l)

-- a rule line that is joined to a rule that is there
pub joined_there : (groups : List (List (List ℕ))) (line : RuleLine) (target : List ℕ) (rules : List MakeRule) (n k : ℕ)
    (rule : MakeRule) →
    number_from targets_of n target rules ≡ Some (n + k) → with_target groups line rules target
    ≡ set rules k (with_joined_line line (get_or rules k rule))
joined_there groups line target [] n k rule h = absurd (cc)
joined_there groups line target (first ∷ rules) n k rule h = by (is_among first.targets target) k
    (λ k. joined_there groups line target rules (n + 1) k rule) h
  where
    by : (t : Bool) (k : ℕ) → ((k : ℕ) → number_from targets_of (n + 1) target rules ≡ Some (n + 1 + k)
        → with_target groups line rules target ≡ set rules k (with_joined_line line (get_or rules k rule))) →
        elim t as (λ b. Option ℕ) [ true ↦ Some n | false ↦ number_from targets_of (n + 1) target rules ] ≡ Some (n + k) →
        (if t then with_joined_line line first ∷ rules else first ∷ with_target groups line rules target)
        ≡ set (first ∷ rules) k (with_joined_line line (get_or (first ∷ rules) k rule))
    by true zero more h = refl
    by true (suc k) more h = let e : n ≡ n + suc k = cc in absurd (omega (arith, e))
    by false zero more h = let l = least_of targets_of target rules (n + 1) (n + 0) h in absurd (omega (arith, l))
    by false (suc k) more h =
        let e : n + suc k ≡ n + 1 + k = omega arith in
        ap (λ (l : List MakeRule). first ∷ l) (more k (h ∙ ap Some e))

-- a rule line that is joined to no rule that is there makes a new one
pub joined_new : (groups : List (List (List ℕ))) (line : RuleLine) (target : List ℕ) (rules : List MakeRule) (n : ℕ) →
    number_from targets_of n target rules ≡ None → with_target groups line rules target ≡ rules
    ++ (with_joined_line line (rule_without (made_with groups target)) ∷ [])
joined_new groups line target [] n h = refl
joined_new groups line target (first ∷ rules) n h = by (is_among first.targets target)
    (joined_new groups line target rules (n + 1)) h
  where
    by : (t : Bool) → (number_from targets_of (n + 1) target rules ≡ None
        → with_target groups line rules target ≡ rules ++ (with_joined_line line (rule_without (made_with groups target)) ∷ [])) →
        elim t as (λ b. Option ℕ) [ true ↦ Some n | false ↦ number_from targets_of (n + 1) target rules ] ≡ None →
        (if t then with_joined_line line first ∷ rules else first ∷ with_target groups line rules target) ≡ first
        ∷ (rules ++ (with_joined_line line (rule_without (made_with groups target)) ∷ []))
    by true more h = absurd (cc)
    by false more h = ap (λ (l : List MakeRule). first ∷ l) (more h)

-- ---- rules as the numbers of their lines

-- the targets of a rule stay as they are
targets_preserved : (lines : List RuleLine) (rule : MakeRule) (numbers : List ℕ)
    → (fold (joined_at lines) rule numbers).targets ≡ rule.targets
targets_preserved lines rule [] = refl
targets_preserved lines rule (n ∷ numbers) = targets_preserved lines (joined_at lines rule n) numbers ∙ by (slice_get lines n)
  where
    by : (o : Option RuleLine) → (joined_with rule o).targets ≡ rule.targets
    by None = refl
    by (Some line) = refl

pub rule_targets : (lines : List RuleLine) (rule : JoinedRule) → targets_of (joined_rule lines rule) ≡ joined_targets rule
rule_targets lines rule = targets_preserved lines (rule_without rule.targets) rule.lines.items

-- numbers are those by the targets alone
pub numbers_mapped : {A B : Type 0} (f : A → B) (targets : A → List (List ℕ)) (others : B
    → List (List ℕ)) (n : ℕ) (path : List ℕ) (xs : List A) → ((x : A) → others (f x) ≡ targets x) →
    number_from others n path (map f xs) ≡ number_from targets n path xs
numbers_mapped f targets others n path [] h = refl
numbers_mapped {A} f targets others n path (x ∷ xs) h =
    ap (λ (ts : List (List ℕ)). elim (is_among ts path) as (λ b. Option ℕ) [
      | true ↦ Some n
      | false ↦
          number_from others (n + 1) path (map f xs)
    ]) (h x)
    ∙ ap (λ (o : Option ℕ). elim (is_among (targets x) path) as (λ b. Option ℕ) [ true ↦ Some n | false ↦ o ])
    (numbers_mapped f targets others (n + 1) path xs h)

-- a line that was joined last is joined once
line_again : (line : RuleLine) (rule : MakeRule) → with_joined_line line (with_joined_line line rule) ≡ with_joined_line line rule
line_again line rule =
    let made = λ (ps : List (List ℕ)) (s : Option (List ℕ)). let m : MakeRule =
    record { targets = rule.targets; prerequisites = ps; script = s } in m in
    ap (λ (ps : List (List ℕ)). made ps (option_or line.script (option_or line.script rule.script)))
    (with_again rule.prerequisites line.prerequisites)
    ∙ ap (made (with_joined_line line rule).prerequisites) (by line.script)
  where
    by : (o : Option (List ℕ)) → option_or o (option_or o rule.script) ≡ option_or o rule.script
    by None = refl
    by (Some script) = refl

joined_again : (o : Option RuleLine) (rule : MakeRule) → joined_with (joined_with rule o) o ≡ joined_with rule o
joined_again None rule = refl
joined_again (Some line) rule = line_again line rule

last_again : (lines : List RuleLine) (rule : MakeRule) (numbers : List ℕ) (n k : ℕ) → suc k ≡ length numbers
    → slice_get numbers k ≡ Some n →
    fold (joined_at lines) rule numbers ≡ joined_at lines (fold (joined_at lines) rule numbers) n
last_again lines rule [] n k long at = absurd (cc)
last_again lines rule (m ∷ []) n zero long at =
    let same : m ≡ n = cc in
    sym (ap (joined_at lines (joined_at lines rule m)) (sym same) ∙ joined_again (slice_get lines m) rule)
last_again lines rule (m ∷ []) n (suc k) long at = absurd (omega (arith, long))
last_again lines rule (m ∷ l ∷ numbers) n zero long at = absurd (omega (arith, long))
last_again lines rule (m ∷ l ∷ numbers) n (suc k) long at = last_again lines (joined_at lines rule m) (l ∷ numbers) n k
    (omega (arith, long)) at

pub joined_last : (lines : List RuleLine) (rule : JoinedRule) (n : ℕ) → slice_get rule.lines.items (length rule.lines.items - 1)
    ≡ Some n → joined_rule lines rule ≡ joined_at lines (joined_rule lines rule) n
joined_last lines rule n at = by rule.lines.items at
  where
    by : (numbers : List ℕ) → slice_get numbers (length numbers - 1) ≡ Some n
        → fold (joined_at lines) (rule_without rule.targets) numbers ≡ joined_at lines
        (fold (joined_at lines) (rule_without rule.targets) numbers) n
    by [] at = absurd (cc)
    by (m ∷ numbers) at =
        let less : suc (length numbers) - 1 ≡ length numbers = omega arith in
        last_again lines (rule_without rule.targets) (m ∷ numbers) n (length numbers) refl
        (sym (ap (slice_get (m ∷ numbers)) less) ∙ at)

-- ---- groups by numbers

-- the first that has a path, by its number
pub found_number : {A : Type 0} (targets : A → List (List ℕ)) (n k : ℕ) (path : List ℕ) (xs : List A)
    → number_from targets n path xs ≡ Some (n + k) → slice_get xs k ≡ find (λ x. is_among (targets x) path) xs
found_number targets n k path [] h = absurd (cc)
found_number {A} targets n k path (x ∷ xs) h = by (is_among (targets x) path) k h (λ k. found_number targets (n + 1) k path xs)
  where
    by : (t : Bool) (k : ℕ) → elim t as (λ b. Option ℕ) [ true ↦ Some n | false ↦ number_from targets (n + 1) path xs ]
        ≡ Some (n + k) →
        ((k : ℕ) → number_from targets (n + 1) path xs ≡ Some (n + 1 + k)
        → slice_get xs k ≡ find (λ x. is_among (targets x) path) xs) →
        slice_get (x ∷ xs) k ≡ (if t then Some x else find (λ x. is_among (targets x) path) xs)
    by true zero h more = refl
    by true (suc k) h more = let e : n ≡ n + suc k = cc in absurd (omega (arith, e))
    by false zero h more = let l = least_of targets path xs (n + 1) (n + 0) h in absurd (omega (arith, l))
    by false (suc k) h more = let e : n + suc k ≡ n + 1 + k = omega arith in more k (h ∙ ap Some e)

pub found_none : {A : Type 0} (targets : A → List (List ℕ)) (n : ℕ) (path : List ℕ) (xs : List A)
    → number_from targets n path xs ≡ None → find (λ x. is_among (targets x) path) xs ≡ None
found_none targets n path [] h = refl
found_none {A} targets n path (x ∷ xs) h = by (is_among (targets x) path) h (found_none targets (n + 1) path xs)
  where
    by : (t : Bool) → elim t as (λ b. Option ℕ) [ true ↦ Some n | false ↦ number_from targets (n + 1) path xs ] ≡ None →
        (number_from targets (n + 1) path xs ≡ None → find (λ x. is_among (targets x) path) xs ≡ None) →
        (if t then Some x else find (λ x. is_among (targets x) path) xs) ≡ None
    by true h more = absurd (cc)
    by false h more = more h

-- the group of a path is that of the first line that makes it together with others
pub group_found : (lines : List RuleLine) (path : List ℕ) → find (λ group. is_among group path) (groups_of lines)
    ≡ option_map (λ line. line.targets) (find (λ line. is_among (made_together line) path) lines)
group_found [] path = refl
group_found (line ∷ lines) path = by (line.is_group && is_some line.script) (group_found lines path)
  where
    inner : (t : Bool) → find (λ group. is_among group path) (groups_of lines)
        ≡ option_map (λ line. line.targets) (find (λ line. is_among (made_together line) path) lines) →
        (if t then Some line.targets else find (λ group. is_among group path) (groups_of lines))
        ≡ option_map (λ (line : RuleLine). line.targets) (if t then Some line else find
        (λ line. is_among (made_together line) path) lines)
    inner true rest = refl
    inner false rest = rest

    by : (t : Bool) → find (λ group. is_among group path) (groups_of lines)
        ≡ option_map (λ line. line.targets) (find (λ line. is_among (made_together line) path) lines) →
        find (λ group. is_among group path) ((if t then line.targets ∷ [] else []) ++ groups_of lines)
        ≡ option_map (λ (line : RuleLine). line.targets) (if is_among (if t then line.targets else []) path then Some line else
        find (λ line. is_among (made_together line) path) lines)
    by true rest = inner (is_among line.targets path) rest
    by false rest = rest

pub made_found : (lines : List RuleLine) (path : List ℕ) (line : RuleLine)
    → Some line ≡ find (λ line. is_among (made_together line) path) lines → line.targets ≡ made_with (groups_of lines) path
made_found lines path line h =
    ap (λ (o : Option RuleLine). unwrap_or (option_map (λ line. line.targets) o) (path ∷ [])) h
    ∙ ap (λ (o : Option (List (List ℕ))). unwrap_or o (path ∷ [])) (sym (group_found lines path))

pub made_none : (lines : List RuleLine) (path : List ℕ) → None ≡ find (λ line. is_among (made_together line) path) lines
    → path ∷ [] ≡ made_with (groups_of lines) path
made_none lines path h =
    ap (λ (o : Option RuleLine). unwrap_or (option_map (λ line. line.targets) o) (path ∷ [])) h
    ∙ ap (λ (o : Option (List (List ℕ))). unwrap_or o (path ∷ [])) (sym (group_found lines path))

any_found : {A : Type 0} (test : A → Bool) (xs : List A) → is_some (find test xs) ≡ list_any test xs
any_found test [] = refl
any_found {A} test (x ∷ xs) = by (test x) (any_found test xs)
  where
    by : (t : Bool) → is_some (find test xs) ≡ list_any test xs → is_some (if t then Some x else find test xs)
        ≡ (t || list_any test xs)
    by true rest = refl
    by false rest = rest

some_mapped : {A B : Type 0} (f : A → B) (o : Option A) → is_some o ≡ is_some (option_map f o)
some_mapped f None = refl
some_mapped f (Some x) = refl

pub in_group : (lines : List RuleLine) (path : List ℕ) → is_some (find (λ line. is_among (made_together line) path) lines)
    ≡ is_in_group (groups_of lines) path
in_group lines path =
    some_mapped (λ (line : RuleLine). line.targets) (find (λ line. is_among (made_together line) path) lines)
    ∙ (ap is_some (sym (group_found lines path)) ∙ any_found (λ group. is_among group path) (groups_of lines))

-- ---- one step

-- what follows from what a call gave, if it gave something
pub if_ok : {X E : Type 0} (r : Result X E) (P Q : X → Type 0) → IfOk r P → ((x : X) → P x → Q x) → IfOk r Q
if_ok (Ok x) P Q h f = f x h
if_ok (Err e) P Q h f = h

-- a rule that is there has one more line
pub joined_longer : (rules : List JoinedRule) (k n : ℕ) (old new : JoinedRule) → k < length rules → old ≡ get_or rules k old
    → HasJoined old n new → HasLonger k n rules (set rules k new)
joined_longer rules k n old new within at has =
    λ lines rule.
    map-set (joined_rule lines) rules k new
    ∙ ap (set (rules_of lines rules) k)
    (has.1 lines ∙ ap (λ (r : MakeRule). joined_at lines r n) (ap (joined_rule lines) at
    ∙ sym (get_or-map (joined_rule lines) rules k old rule within)))

pub known_longer : (numbers : HashMap (List ℕ) ℕ RandomState) (rules : List JoinedRule) (k n : ℕ) (old new : JoinedRule)
    → old ≡ get_or rules k old → HasJoined old n new → KnowsJoined numbers rules →
    KnowsJoined numbers (set rules k new)
known_longer numbers rules k n old new at has known =
    λ path.
    let itself = λ (ts : List (List ℕ)). ts in
    let all = λ (xs : List JoinedRule). numbers_mapped joined_targets joined_targets itself 0 path xs (λ x. refl) in
    known path
    ∙ (sym (all rules)
    ∙ (ap (number_from itself 0 path) (sym (map-set_same joined_targets rules k new old (has.0 ∙ ap joined_targets at)))
    ∙ all (set rules k new)))

-- a line joined at a target, to a rule that is there or to a new one
pub target_there : (lines : List RuleLine) (n k : ℕ) (path : List ℕ) (rules new : List JoinedRule)
    → number_from joined_targets 0 path rules ≡ Some k → HasLonger k n rules new → HasTarget lines n path rules new
target_there lines n k path rules new h longer =
    λ line at.
    let rs = rules_of lines rules in
    let d : MakeRule = rule_without [] in
    let from_zero : k ≡ 0 + k = omega arith in
    let counted : number_from targets_of 0 path rs ≡ Some (0 + k) = numbers_mapped (joined_rule lines) joined_targets targets_of 0
    path rules (rule_targets lines) ∙ (h ∙ ap Some from_zero) in
    longer lines d
    ∙ (ap (λ (o : Option RuleLine). set rs k (joined_with (get_or rs k d) o)) at
    ∙ sym (joined_there (groups_of lines) line path rs 0 k d counted))

pub target_new : (lines : List RuleLine) (n : ℕ) (path : List ℕ) (targets : List (List ℕ)) (rules new : List JoinedRule)
    → number_from joined_targets 0 path rules ≡ None →
    targets ≡ made_with (groups_of lines) path → HasNew targets n rules new → HasTarget lines n path rules new
target_new lines n path targets rules new h made has =
    λ line at.
    let rs = rules_of lines rules in
    let none : number_from targets_of 0 path rs ≡ None = numbers_mapped (joined_rule lines) joined_targets targets_of 0 path rules
    (rule_targets lines) ∙ h in
    has lines
    ∙ (ap (λ (o : Option RuleLine). rs ++ joined_with (rule_without targets) o ∷ []) at
    ∙ (ap (λ (ts : List (List ℕ)). rs ++ with_joined_line line (rule_without ts) ∷ []) made
    ∙ sym (joined_new (groups_of lines) line path rs 0 none)))
