-- What a rule's targets are, by their numbers, and what a path is.
use Rattle.std.proofs.Common.{◌≡◌, refl, sym, ap, ◌∙◌, ℕ, ◌+◌, Bool, true, false, ◌||◌, not, Option, Some, None, is_some, List}
use Rattle.std.proofs.Common.{[], ◌∷◌, ◌++◌, filter, flat_map, fold, if◌then◌else◌}
use Rattle.std.proofs.lemmas.List.Folds.{list_any-append}
use Rattle.std.proofs.lemmas.List.Sums.{fold-append}
use Rattle.std.proofs.lemmas.Slice.Eq.{bytes_eq-Decides}
use Rattle.std.specs.Str.{bytes_eq}
use Rattle.std.specs.Result.{result_ok}
use Rattle.cc_names.specs.Names.{unless_fault}
use Rattle.cc_names.specs.Paths.{path_fault, is_root}
use Rattle.cc_names.specs.declared.names.NameFault.{NameFault}
use Rattle.make_grammar.specs.WordPaths.{path_below_root, unless_root, with_path_once, each_once}
use Rattle.make_grammar.specs.Contents.{Contents}
use Rattle.make_grammar.specs.Rules.{Inference, MakeRule}
use Rattle.make_grammar.specs.Serving.{with_suffix_rule, prerequisites_of, without_rule}
use Rattle.make_grammar.specs.Units.{is_rule_target}
use Rattle.make_text.proofs.OnceLemmas.{with_joined}
use Rattle.make_grammar.specs.Macros.{is_among}
use Rattle.make_grammar.specs.Numbers.{number_from}

pub numbered_among : {A : Type 0} (targets : A → List (List ℕ)) (n : ℕ) (path : List ℕ) (xs : List A)
    → is_some (number_from targets n path xs) ≡ is_among (flat_map targets xs) path
numbered_among targets n path [] = refl
numbered_among targets n path (x ∷ xs) = by (is_among (targets x) path) (numbered_among targets (n + 1) path xs)
    ∙ sym (list_any-append (bytes_eq path) (targets x) (flat_map targets xs))
  where
    by : (t : Bool) → is_some (number_from targets (n + 1) path xs) ≡ is_among (flat_map targets xs) path →
        is_some (elim t as (λ b. Option ℕ) [ true ↦ Some n | false ↦ number_from targets (n + 1) path xs ])
        ≡ (t || is_among (flat_map targets xs) path)
    by true rest = refl
    by false rest = rest

-- a path that is not the root is read as itself
pub path_is_read : (path : List ℕ) → path_fault path ≡ None → is_some (path_below_root path) ≡ not (is_root path)
path_is_read path fine = ap (λ (fault : Option NameFault). is_some (unless_root (result_ok (unless_fault fault path)))) fine
    ∙ by (is_root path) refl
  where
    by : (t : Bool) → is_root path ≡ t → is_some (unless_root (Some path)) ≡ not t
    by true is = rw (is, unless_root) refl
    by false is = rw (is, unless_root) refl

-- a rule keeps its targets, by whatever it serves
pub helped_targets : (rule : MakeRule) (found : Option Inference) → (with_suffix_rule rule found).targets ≡ rule.targets
helped_targets rule None = refl
helped_targets rule (Some found) = refl

-- ---- the paths that have no rule

filter_append : (test : List ℕ → Bool) (ps qs : List (List ℕ)) → filter test (ps ++ qs) ≡ filter test ps ++ filter test qs
filter_append test [] qs = refl
filter_append test (p ∷ ps) qs = by (test p) (filter_append test ps qs)
  where
    by : (t : Bool) → filter test (ps ++ qs) ≡ filter test ps ++ filter test qs
        → (if t then p ∷ filter test (ps ++ qs) else filter test (ps ++ qs)) ≡ (if t then p ∷ filter test ps else filter test ps)
        ++ filter test qs
    by true rest = ap (λ (l : List (List ℕ)). p ∷ l) rest
    by false rest = rest

-- a path that passes is among those that pass where it is among all
passing : (test : List ℕ → Bool) (path : List ℕ) (ps : List (List ℕ)) → test path ≡ true
    → is_among (filter test ps) path ≡ is_among ps path
passing test path [] h = refl
passing test path (p ∷ ps) h = by (test p) refl (bytes_eq path p) refl (passing test path ps h)
  where
    by : (t : Bool) → test p ≡ t → (e : Bool) → bytes_eq path p ≡ e → is_among (filter test ps) path ≡ is_among ps path →
        is_among (if t then p ∷ filter test ps else filter test ps) path ≡ (e || is_among ps path)
    by true is e same rest = ap (λ (b : Bool). b || is_among (filter test ps) path) same ∙ ap (λ (b : Bool). e || b) rest
    by false is true same rest =
        let one : path ≡ p = (bytes_eq-Decides path p).0 same in
        let both : test path ≡ test p = ap test one in
        absurd (cc)
    by false is false same rest = rest

-- one path more, of which only those that pass are taken
passing_more : (test : List ℕ → Bool) (ps : List (List ℕ)) (path : List ℕ)
    → filter test (with_path_once ps path) ≡ fold with_path_once (filter test ps) (filter test (path ∷ []))
passing_more test ps path = by (is_among ps path) refl (test path) refl
  where
    by : (e : Bool) → is_among ps path ≡ e → (t : Bool) → test path ≡ t
        → filter test (if e then ps else ps ++ path ∷ []) ≡ fold with_path_once (filter test ps) (if t then path ∷ [] else [])
    by true is true passes = sym (ap (λ (b : Bool). if b then filter test ps else filter test ps ++ path ∷ [])
        (passing test path ps passes ∙ is))
    by true is false passes = refl
    by false is true passes =
        filter_append test ps (path ∷ [])
        ∙ (ap (λ (b : Bool). filter test ps ++ (if b then path ∷ [] else [])) passes
        ∙ sym (ap (λ (b : Bool). if b then filter test ps else filter test ps ++ path ∷ []) (passing test path ps passes ∙ is)))
    by false is false passes =
        filter_append test ps (path ∷ []) ∙ (ap (λ (b : Bool). filter test ps ++ (if b then path ∷ [] else [])) passes
        ∙ nothing_more (filter test ps))
      where
        nothing_more : (qs : List (List ℕ)) → qs ++ [] ≡ qs
        nothing_more [] = refl
        nothing_more (q ∷ qs) = ap (λ (l : List (List ℕ)). q ∷ l) (nothing_more qs)

passing_once : (test : List ℕ → Bool) (paths ps : List (List ℕ)) → filter test (fold with_path_once ps paths)
    ≡ fold with_path_once (filter test ps) (filter test paths)
passing_once test [] ps = refl
passing_once test (path ∷ paths) ps =
    passing_once test paths (with_path_once ps path)
    ∙ (ap (λ (l : List (List ℕ)). fold with_path_once l (filter test paths)) (passing_more test ps path)
    ∙ (sym (fold-append with_path_once (filter test ps) (filter test (path ∷ [])) (filter test paths))
    ∙ ap (fold with_path_once (filter test ps)) (sym (filter_append test (path ∷ []) paths))))

-- goals, and then all that rules are made of, each once
pub put_both : (make : Contents) (goals gathered first all : List (List ℕ))
    → first ≡ fold with_path_once [] (filter (λ path. not (is_rule_target make.rules path)) goals) →
    all ≡ fold with_path_once first (filter (λ path. not (is_rule_target make.rules path)) gathered)
    → gathered ≡ each_once (flat_map prerequisites_of make.rules) → all ≡ without_rule make goals
put_both make goals gathered first all one two are =
    let test = λ (path : List ℕ). not (is_rule_target make.rules path) in
    let named = flat_map prerequisites_of make.rules in
    two
    ∙ (ap (λ (l : List (List ℕ)). fold with_path_once l (filter test gathered)) one
    ∙ (ap (λ (l : List (List ℕ)). fold with_path_once (fold with_path_once [] (filter test goals)) (filter test l)) are
    ∙ (ap (fold with_path_once (fold with_path_once [] (filter test goals))) (passing_once test named [])
    ∙ (with_joined (fold with_path_once [] (filter test goals)) [] (filter test named)
    ∙ (sym (fold-append with_path_once [] (filter test goals) (filter test named))
    ∙ ap (fold with_path_once []) (sym (filter_append test goals named)))))))
