-- What may serve a build is formed, and no two of it make one path.
use Rattle.std.proofs.Common.{◌≡◌, refl, sym, ap, ◌∙◌, subst, ℕ, Bool, true, false, ◌||◌, ◌&&◌, not, Option, Some, None}
use Rattle.std.proofs.Common.{option_map, is_some, List, [], ◌∷◌, ◌++◌, map, filter, fold, flat_map, filter_map, if◌then◌else◌}
use Rattle.std.proofs.Common.{arith}
use Rattle.std.proofs.lemmas.Grind.{flat_map-append}
use Rattle.std.proofs.lemmas.Slice.Eq.{bytes_eq-Decides}
use Rattle.std.specs.List.{AllByRecursion, IsDistinct, cons_option}
use Rattle.std.specs.Result.{result_ok}
use Rattle.std.specs.Str.{bytes_eq}
use Rattle.cc_names.specs.Formed.{AreTargets, IsBelowRoot}
use Rattle.cc_names.specs.Names.{unless_fault}
use Rattle.cc_names.specs.Paths.{path_fault, is_root}
use Rattle.cc_names.specs.declared.names.NameFault.{NameFault}
use Rattle.cc_names.proofs.Common.{or_first_false, or_second_false, all_of_both}
use Rattle.make_grammar.proofs.NumberLaws.{not_twice}
use Rattle.make_grammar.specs.Contents.{Contents}
use Rattle.make_grammar.specs.WordPaths.{path_below_root, unless_root, with_path_once, each_once}
use Rattle.make_grammar.specs.Macros.{is_among}
use Rattle.make_grammar.specs.Serving.{prerequisites_of, stem_of, path_if, source_at, inference_at, first_inference}
use Rattle.make_grammar.specs.Serving.{may_be_served, inference, with_first, by_suffix, with_suffix_rule, inference_for}
use Rattle.make_grammar.specs.Serving.{serving_of, bare_rule, serving_alone, without_rule, servings}
use Rattle.make_grammar.specs.Rules.{Inference, MakeRule, Serving, SuffixRule}
use Rattle.make_grammar.specs.Units.{targets_of, is_rule_target}
use Rattle.make_grammar.specs.UnitLaws.{ArePrerequisites, IsRule, IsFormedMakefile}

-- ---- distinct paths

eq_flips : (p q : List ℕ) → bytes_eq p q ≡ false → bytes_eq q p ≡ false
eq_flips p q h = by (bytes_eq q p) refl
  where
    by : (t : Bool) → bytes_eq q p ≡ t → t ≡ false
    by true same = let other = (bytes_eq-Decides p q).1 (sym ((bytes_eq-Decides q p).0 same)) in absurd (cc)
    by false differs = refl

-- a path that is not among these differs from each
differs_from_all : (path : List ℕ) (ps : List (List ℕ)) → is_among ps path ≡ false
    → AllByRecursion (λ q. bytes_eq path q ≡ false) ps
differs_from_all path [] h = tt
differs_from_all path (p ∷ ps) h = (
  or_first_false (bytes_eq path p) (is_among ps path) h,
  differs_from_all path ps (or_second_false (bytes_eq path p) (is_among ps path) h),
)

distinct_push : (path : List ℕ) (ps : List (List ℕ)) → IsDistinct bytes_eq ps → is_among ps path ≡ false
    → IsDistinct bytes_eq (ps ++ path ∷ [])
unfolding IsDistinct
distinct_push path [] h none = (tt, tt)
distinct_push path (p ∷ ps) h none =
    (all ps h.0, distinct_push path ps h.1 (or_second_false (bytes_eq path p) (is_among ps path) none))
  where
    all : (qs : List (List ℕ)) → AllByRecursion (λ q. bytes_eq p q ≡ false) qs
        → AllByRecursion (λ q. bytes_eq p q ≡ false) (qs ++ path ∷ [])
    all [] rest = (eq_flips path p (or_first_false (bytes_eq path p) (is_among ps path) none), tt)
    all (q ∷ qs) rest = (rest.0, all qs rest.1)

distinct_with : (ps : List (List ℕ)) (path : List ℕ) → IsDistinct bytes_eq ps → IsDistinct bytes_eq (with_path_once ps path)
distinct_with ps path h = by (is_among ps path) refl
  where
    by : (t : Bool) → is_among ps path ≡ t → IsDistinct bytes_eq (if t then ps else ps ++ path ∷ [])
    by true is = h
    by false is = distinct_push path ps h is

pub distinct_fold : (paths ps : List (List ℕ)) → IsDistinct bytes_eq ps → IsDistinct bytes_eq (fold with_path_once ps paths)
distinct_fold [] ps h = h
distinct_fold (path ∷ paths) ps h = distinct_fold paths (with_path_once ps path) (distinct_with ps path h)

-- paths, each once, are distinct
pub once_distinct : (paths : List (List ℕ)) → IsDistinct bytes_eq (each_once paths)
unfolding IsDistinct
once_distinct paths = distinct_fold paths [] tt

-- no path comes in where each is put once
among_push : (path other : List ℕ) (ps : List (List ℕ)) → is_among (ps ++ other ∷ []) path ≡ true
    → (is_among ps path || bytes_eq path other) ≡ true
among_push path other [] h = by (bytes_eq path other) h
  where
    by : (t : Bool) → (t || false) ≡ true → (false || t) ≡ true
    by true h = refl
    by false h = h
among_push path other (p ∷ ps) h = by (bytes_eq path p) h (among_push path other ps)
  where
    by : (t : Bool) → (t || is_among (ps ++ other ∷ []) path) ≡ true → (is_among (ps ++ other ∷ []) path ≡ true
        → (is_among ps path || bytes_eq path other) ≡ true) →
        ((t || is_among ps path) || bytes_eq path other) ≡ true
    by true h rest = refl
    by false h rest = rest h

among_with : (path other : List ℕ) (ps : List (List ℕ)) → is_among (with_path_once ps other) path ≡ true
    → (is_among ps path || bytes_eq path other) ≡ true
among_with path other ps h = by (is_among ps other) h
  where
    first : (a b : Bool) → a ≡ true → (a || b) ≡ true
    first true b h = refl
    first false b h = absurd (cc)

    by : (t : Bool) → is_among (if t then ps else ps ++ other ∷ []) path ≡ true → (is_among ps path || bytes_eq path other) ≡ true
    by true h = first (is_among ps path) (bytes_eq path other) h
    by false h = among_push path other ps h

among_fold : (path : List ℕ) (paths ps : List (List ℕ)) → is_among (fold with_path_once ps paths) path ≡ true
    → (is_among ps path || is_among paths path) ≡ true
among_fold path [] ps h = by (is_among ps path) h
  where
    by : (a : Bool) → a ≡ true → (a || false) ≡ true
    by true h = refl
    by false h = h
among_fold path (first ∷ paths) ps h =
    by (is_among ps path) (bytes_eq path first) (is_among (with_path_once ps first) path) refl (among_with path first ps)
    (among_fold path paths (with_path_once ps first) h)
  where
    by : (s t r : Bool) → is_among (with_path_once ps first) path ≡ r → (is_among (with_path_once ps first) path ≡ true
        → (s || t) ≡ true) → (r || is_among paths path) ≡ true → (s || (t || is_among paths path)) ≡ true
    by true t r is split h = refl
    by false true r is split h = refl
    by false false true is split h = absurd (let none = split is in cc)
    by false false false is split h = h

pub among_once : (path : List ℕ) (paths : List (List ℕ)) → is_among (each_once paths) path ≡ true → is_among paths path ≡ true
among_once path paths h = among_fold path paths [] h

-- what holds of all paths holds of those that pass a test
pub all_filter : {A : Type 0} (P : A → Type 0) (test : A → Bool) (xs : List A) → AllByRecursion P xs
    → AllByRecursion P (filter test xs)
all_filter P test [] h = tt
all_filter P test (x ∷ xs) h = elim (test x) as (λ t. AllByRecursion P (if t then x ∷ filter test xs else filter test xs)) [
  | true
      ↦ (h.0, all_filter P test xs h.1)
  | false ↦ all_filter P test xs h.1
]

pub distinct_filter : (test : List ℕ → Bool) (ps : List (List ℕ)) → IsDistinct bytes_eq ps → IsDistinct bytes_eq (filter test ps)
unfolding IsDistinct
distinct_filter test [] h = tt
distinct_filter test (p ∷ ps) h =
    elim (test p) as (λ t. IsDistinct bytes_eq (if t then p ∷ filter test ps else filter test ps)) [
      | true ↦ (all_filter (λ q. bytes_eq p q ≡ false) test ps h.0, distinct_filter test ps h.1)
      | false ↦ distinct_filter test ps h.1
    ]

-- what passes a test passes it
passes : (test : List ℕ → Bool) (path : List ℕ) (ps : List (List ℕ)) → is_among (filter test ps) path ≡ true → test path ≡ true
passes test path [] h = absurd (cc)
passes test path (p ∷ ps) h = by (test p) refl h (passes test path ps)
  where
    first : (t : Bool) → bytes_eq path p ≡ t → test p ≡ true → (t || is_among (filter test ps) path) ≡ true
        → (is_among (filter test ps) path ≡ true → test path ≡ true) → test path ≡ true
    first true same is h more = subst (λ (q : List ℕ). test q ≡ true) (sym ((bytes_eq-Decides path p).0 same)) is
    first false differs is h more = more h

    by : (t : Bool) → test p ≡ t → is_among (if t then p ∷ filter test ps else filter test ps) path ≡ true
        → (is_among (filter test ps) path ≡ true → test path ≡ true) → test path ≡ true
    by true is h more = first (bytes_eq path p) refl is h more
    by false is h more = more h

-- lists of distinct paths that have none in common
distinct_append : (ps qs : List (List ℕ)) → IsDistinct bytes_eq ps → IsDistinct bytes_eq qs
    → ((path : List ℕ) → is_among qs path ≡ true → is_among ps path ≡ false) → IsDistinct bytes_eq (ps ++ qs)
unfolding IsDistinct
distinct_append [] qs one two apart = two
distinct_append (p ∷ ps) qs one two apart = (
  all ps one.0,
  distinct_append ps qs one.1 two (λ path among. or_second_false (bytes_eq path p) (is_among ps path)
      (apart path among)),
)
  where
    behind : (rs : List (List ℕ)) → ((path : List ℕ) → is_among rs path ≡ true → bytes_eq path p ≡ false)
        → AllByRecursion (λ q. bytes_eq p q ≡ false) rs
    behind [] h = tt
    behind (r ∷ rs) h = (
      eq_flips r p (h r (ap (λ t. t || is_among rs r) ((bytes_eq-Decides r r).1 refl))),
      behind rs (λ path among. h path (later path r rs among)),
    )
      where
        later : (path r : List ℕ) (rs : List (List ℕ)) → is_among rs path ≡ true → (bytes_eq path r || is_among rs path) ≡ true
        later path r rs among = elim (bytes_eq path r) as (λ t. (t || is_among rs path) ≡ true) [ true ↦ refl | false ↦ among ]

    all : (rs : List (List ℕ)) → AllByRecursion (λ q. bytes_eq p q ≡ false) rs
        → AllByRecursion (λ q. bytes_eq p q ≡ false) (rs ++ qs)
    all [] rest = behind qs (λ path among. or_first_false (bytes_eq path p) (is_among ps path) (apart path among))
    all (r ∷ rs) rest = (rest.0, all rs rest.1)

-- ---- the targets of what serves

helped_targets : (rule : MakeRule) (o : Option Inference) → (with_suffix_rule rule o).targets ≡ rule.targets
helped_targets rule None = refl
helped_targets rule (Some found) = refl

own_targets : (make : Contents) (is_file : List ℕ → Bool) (rules : List MakeRule)
    → flat_map (λ (s : Serving). s.targets) (map (serving_of make is_file) rules) ≡ flat_map targets_of rules
own_targets make is_file [] = refl
own_targets make is_file (rule ∷ rules) =
    rw (helped_targets rule (inference_for make is_file rule.targets rule.script))
    (ap (λ (l : List (List ℕ)). rule.targets ++ l) (own_targets make is_file rules))

alone_among : (make : Contents) (is_file : List ℕ → Bool) (path : List ℕ) (ps : List (List ℕ))
    → is_among (flat_map (λ (s : Serving). s.targets) (filter_map (serving_alone make is_file) ps)) path ≡ true
    → is_among ps path ≡ true
alone_among make is_file path [] h = h
alone_among make is_file path (p ∷ ps) h = by (inference make is_file p) h (alone_among make is_file path ps)
  where
    rest : List (List ℕ)
    rest = flat_map (λ (s : Serving). s.targets) (filter_map (serving_alone make is_file) ps)

    kept : (t : Bool) → (t || is_among rest path) ≡ true → (is_among rest path ≡ true → is_among ps path ≡ true)
        → (t || is_among ps path) ≡ true
    kept true h more = refl
    kept false h more = more h

    later : (t : Bool) → is_among ps path ≡ true → (t || is_among ps path) ≡ true
    later true h = refl
    later false h = h

    by : (o : Option Inference) → is_among (flat_map (λ (s : Serving). s.targets)
        (cons_option (option_map (by_suffix (bare_rule p)) o) (filter_map (serving_alone make is_file) ps))) path ≡ true →
        (is_among rest path ≡ true → is_among ps path ≡ true) → is_among (p ∷ ps) path ≡ true
    by None h more = later (bytes_eq path p) (more h)
    by (Some found) h more = kept (bytes_eq path p) h more

alone_distinct : (make : Contents) (is_file : List ℕ → Bool) (ps : List (List ℕ)) → IsDistinct bytes_eq ps
    → IsDistinct bytes_eq (flat_map (λ (s : Serving). s.targets) (filter_map (serving_alone make is_file) ps))
unfolding IsDistinct
alone_distinct make is_file [] h = tt
alone_distinct make is_file (p ∷ ps) h = by (inference make is_file p) (alone_distinct make is_file ps h.1)
  where
    rest : List (List ℕ)
    rest = flat_map (λ (s : Serving). s.targets) (filter_map (serving_alone make is_file) ps)

    none : (t : Bool) → is_among rest p ≡ t → t ≡ false
    none true is = absurd (not_twice p (p ∷ []) ps h (ap (λ t. t || false) ((bytes_eq-Decides p p).1 refl))
        (alone_among make is_file p ps is))
    none false is = refl

    by : (o : Option Inference) → IsDistinct bytes_eq rest → IsDistinct bytes_eq
        (flat_map (λ (s : Serving). s.targets) (cons_option (option_map (by_suffix (bare_rule p)) o)
        (filter_map (serving_alone make is_file) ps)))
    by None more = more
    by (Some found) more = (differs_from_all p rest (none (is_among rest p) refl), more)

-- no path is made twice
pub servings_apart : (make : Contents) (is_file : List ℕ → Bool) (goals : List (List ℕ)) → IsFormedMakefile make
    → IsDistinct bytes_eq (flat_map (λ (s : Serving). s.targets) (servings make is_file goals))
servings_apart make is_file goals formed =
    let own = map (serving_of make is_file) make.rules in
    let ps = without_rule make goals in
    let alone = filter_map (serving_alone make is_file) ps in
    let targets = λ (s : Serving). s.targets in
    subst (IsDistinct bytes_eq) (sym (flat_map-append targets own alone
    ∙ ap (λ (l : List (List ℕ)). l ++ flat_map targets alone) (own_targets make is_file make.rules)))
    (distinct_append (flat_map targets_of make.rules) (flat_map targets alone) formed.apart
    (alone_distinct make is_file ps (once_distinct (filter (λ path. not (is_rule_target make.rules path))
    (goals ++ flat_map prerequisites_of make.rules))))
    (λ path among. unruled path (alone_among make is_file path ps among)))
  where
    is_not : (t : Bool) → not t ≡ true → t ≡ false
    is_not true h = absurd (cc)
    is_not false h = refl

    unruled : (path : List ℕ) → is_among (without_rule make goals) path ≡ true
        → is_among (flat_map targets_of make.rules) path ≡ false
    unruled path among = is_not (is_rule_target make.rules path) (passes (λ p. not (is_rule_target make.rules p)) path
        (goals ++ flat_map prerequisites_of make.rules) (among_once path
        (filter (λ p. not (is_rule_target make.rules p)) (goals ++ flat_map prerequisites_of make.rules)) among))

-- ---- the form of what serves

-- a rule that serves, in its form
pub record IsServing (s : Serving) : Type 0 where
  pub targets : AreTargets s.targets
  pub prerequisites : ArePrerequisites s.prerequisites

-- bytes that are read as a path below the root are one
pub below_root : (word path : List ℕ) → path_below_root word ≡ Some path → IsBelowRoot path
below_root word path h = by_fault (path_fault word) refl h
  where
    by_root : (t : Bool) → path_fault word ≡ None → is_root word ≡ t → (if t then None else Some word) ≡ Some path
        → IsBelowRoot path
    by_root true fine is h = absurd (cc)
    by_root false fine is h = let same : word ≡ path = cc in subst IsBelowRoot same (record { no_fault = fine }, is)

    by_fault : (fault : Option NameFault) → path_fault word ≡ fault → unless_root (result_ok (unless_fault fault word))
        ≡ Some path → IsBelowRoot path
    by_fault None fine h = by_root (is_root word) fine refl h
    by_fault (Some fault) fine h = absurd (cc)

pub same_path : (word path : List ℕ) → path_below_root word ≡ Some path → path ≡ word
same_path word path h = by_fault (path_fault word) h
  where
    by_root : (t : Bool) → (if t then None else Some word) ≡ Some path → path ≡ word
    by_root true h = absurd (cc)
    by_root false h = cc

    by_fault : (fault : Option NameFault) → unless_root (result_ok (unless_fault fault word)) ≡ Some path → path ≡ word
    by_fault None h = by_root (is_root word) h
    by_fault (Some fault) h = absurd (cc)

one_target : (target : List ℕ) → IsBelowRoot target → AreTargets (target ∷ [])
unfolding IsDistinct
one_target target below = ((omega arith, (below, tt)), (λ none. cc), (tt, tt))

-- the source that a suffix rule finds is a path below the root
source_below : (test : List ℕ → Bool) (word source : List ℕ) → path_if test (path_below_root word) ≡ Some source
    → IsBelowRoot source
source_below test word source h = by (path_below_root word) refl h
  where
    tested : (t : Bool) (path : List ℕ) → path_below_root word ≡ Some path → (if t then Some path else None) ≡ Some source
        → IsBelowRoot source
    tested true path is h = let same : path ≡ source = cc in subst IsBelowRoot same (below_root word path is)
    tested false path is h = absurd (cc)

    by : (o : Option (List ℕ)) → path_below_root word ≡ o → path_if test o ≡ Some source → IsBelowRoot source
    by None is h = absurd (cc)
    by (Some path) is h = tested (test path) path is h

found_at : (make : Contents) (is_file : List ℕ → Bool) (rule : SuffixRule) (stem : Option (List ℕ)) (found : Inference)
    → inference_at make is_file rule stem ≡ Some found → IsBelowRoot found.source
found_at make is_file rule None found h = absurd (cc)
found_at make is_file rule (Some stem) found h = by (source_at make is_file rule.from stem) refl h
  where
    by : (o : Option (List ℕ)) → source_at make is_file rule.from stem ≡ o
        → option_map (λ source. record { stem = stem; source = source; script = rule.script }) o ≡ Some found
        → IsBelowRoot found.source
    by None is h = absurd (cc)
    by (Some source) is h =
        let made : Inference = record { stem = stem; source = source; script = rule.script } in
        let same : made ≡ found = cc in
        subst (λ (i : Inference). IsBelowRoot i.source) same (source_below
        (λ path. is_file path || is_rule_target make.rules path) (stem ++ rule.from) source is)

found_first : (make : Contents) (is_file : List ℕ → Bool) (path : List ℕ) (rules : List SuffixRule) (found : Inference)
    → first_inference make is_file path rules ≡ Some found → IsBelowRoot found.source
found_first make is_file path [] found h = absurd (cc)
found_first make is_file path (rule ∷ rules) found h = by (inference_at make is_file rule (stem_of rule.to path)) refl h
    (found_first make is_file path rules found)
  where
    by : (o : Option Inference) → inference_at make is_file rule (stem_of rule.to path) ≡ o
        → elim o as (λ x. Option Inference) [ Some f ↦ Some f | None ↦ first_inference make is_file path rules ] ≡ Some found →
        (first_inference make is_file path rules ≡ Some found → IsBelowRoot found.source) → IsBelowRoot found.source
    by None is h more = more h
    by (Some f) is h more = let same : f ≡ found = cc in subst (λ (i : Inference). IsBelowRoot i.source) same
        (found_at make is_file rule (stem_of rule.to path) f is)

found_below : (make : Contents) (is_file : List ℕ → Bool) (path : List ℕ) (found : Inference)
    → inference make is_file path ≡ Some found → IsBelowRoot found.source
found_below make is_file path found h = by (may_be_served make is_file path) h
  where
    by : (t : Bool) → (if t then first_inference make is_file path make.suffix_rules else None) ≡ Some found
        → IsBelowRoot found.source
    by true h = found_first make is_file path make.suffix_rules found h
    by false h = absurd (cc)

with_first_formed : (path : List ℕ) (ps : List (List ℕ)) → IsBelowRoot path → ArePrerequisites ps
    → ArePrerequisites (with_first path ps)
unfolding IsDistinct
with_first_formed path ps below formed = (
  (below, all_filter IsBelowRoot (λ other. not (bytes_eq path other)) ps formed.0),
  (others ps, distinct_filter (λ other. not (bytes_eq path other)) ps formed.1),
)
  where
    others : (qs : List (List ℕ)) → AllByRecursion (λ q. bytes_eq path q ≡ false) (filter (λ other. not (bytes_eq path other)) qs)
    others [] = tt
    others (q ∷ qs) = by (bytes_eq path q) refl (others qs)
      where
        by : (t : Bool) → bytes_eq path q ≡ t → AllByRecursion (λ r. bytes_eq path r ≡ false)
            (filter (λ other. not (bytes_eq path other)) qs) →
            AllByRecursion (λ r. bytes_eq path r ≡ false) (if not t then q
            ∷ filter (λ other. not (bytes_eq path other)) qs else filter (λ other. not (bytes_eq path other)) qs)
        by true is rest = rest
        by false is rest = (is, rest)

helped_formed : (rule : MakeRule) (o : Option Inference) → IsRule rule
    → ((found : Inference) → o ≡ Some found → IsBelowRoot found.source) → IsServing (with_suffix_rule rule o)
helped_formed rule None formed below = record { targets = formed.0; prerequisites = formed.1 }
helped_formed rule (Some found) formed below = record {
  targets = formed.0;
  prerequisites = with_first_formed found.source rule.prerequisites (below found refl) formed.1;
}

serving_formed : (make : Contents) (is_file : List ℕ → Bool) (rule : MakeRule) → IsRule rule
    → IsServing (serving_of make is_file rule)
serving_formed make is_file rule formed = helped_formed rule (inference_for make is_file rule.targets rule.script) formed
    (by rule.targets rule.script)
  where
    by : (targets : List (List ℕ)) (script : Option (List ℕ)) (found : Inference)
        → inference_for make is_file targets script ≡ Some found → IsBelowRoot found.source
    by [] script found h = absurd (cc)
    by (target ∷ targets) (Some script) found h = absurd (cc)
    by (target ∷ targets) None found h = found_below make is_file target found h

all_own : (make : Contents) (is_file : List ℕ → Bool) (rules : List MakeRule) → AllByRecursion IsRule rules
    → AllByRecursion IsServing (map (serving_of make is_file) rules)
all_own make is_file [] h = tt
all_own make is_file (rule ∷ rules) h = (serving_formed make is_file rule h.0, all_own make is_file rules h.1)

-- a path that is served is below the root
served_below : (make : Contents) (is_file : List ℕ → Bool) (path : List ℕ) (found : Inference)
    → inference make is_file path ≡ Some found → IsBelowRoot path
served_below make is_file path found h = by_path (path_below_root path) refl h
  where
    by_path : (o : Option (List ℕ)) → path_below_root path ≡ o → (if is_some o
        && not (is_file path || is_among make.phony path) then first_inference make is_file path make.suffix_rules else None)
        ≡ Some found → IsBelowRoot path
    by_path None is h = absurd (cc)
    by_path (Some p) is h = subst IsBelowRoot (same_path path p is) (below_root path p is)

all_alone : (make : Contents) (is_file : List ℕ → Bool) (ps : List (List ℕ))
    → AllByRecursion IsServing (filter_map (serving_alone make is_file) ps)
unfolding IsDistinct
all_alone make is_file [] = tt
all_alone make is_file (p ∷ ps) = by (inference make is_file p) refl (all_alone make is_file ps)
  where
    by : (o : Option Inference) → inference make is_file p ≡ o → AllByRecursion IsServing
        (filter_map (serving_alone make is_file) ps) →
        AllByRecursion IsServing (cons_option (option_map (by_suffix (bare_rule p)) o)
        (filter_map (serving_alone make is_file) ps))
    by None is rest = rest
    by (Some found) is rest = (
      record {
        targets = one_target p (served_below make is_file p found is);
        prerequisites = with_first_formed found.source [] (found_below make is_file p found is) (tt, tt);
      },
      rest,
    )

-- all that may serve is formed
pub servings_formed : (make : Contents) (is_file : List ℕ → Bool) (goals : List (List ℕ)) → IsFormedMakefile make
    → AllByRecursion IsServing (servings make is_file goals)
servings_formed make is_file goals formed =
    all_of_both IsServing (map (serving_of make is_file) make.rules) (filter_map (serving_alone make is_file)
    (without_rule make goals)) (all_own make is_file make.rules formed.rules)
    (all_alone make is_file (without_rule make goals))
