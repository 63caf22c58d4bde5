-- The groups that have scripts: no two of them have a path, so what is made together is made with the same.
use Rattle.std.proofs.Common.{◌≡◌, refl, sym, ap, ◌∙◌, subst, ℕ, Bool, true, false, ◌&&◌, ◌||◌, Some, List, [], ◌∷◌, ◌++◌, find}
use Rattle.std.proofs.Common.{reverse, is_some, unwrap_or, if◌then◌else◌, arith}
use Rattle.std.proofs.Math.Bool.{or-false}
use Rattle.std.proofs.lemmas.Grind.{flat_map-append}
use Rattle.std.proofs.lemmas.List.{append-nil, reverse-append}
use Rattle.std.proofs.lemmas.List.Folds.{list_any-append}
use Rattle.std.proofs.lemmas.Slice.Eq.{bytes_eq-Decides}
use Rattle.std.specs.Bool.{⊤}
use Rattle.std.specs.List.{AllByRecursion, IsDistinct, list_any}
use Rattle.std.specs.Str.{bytes_eq}
use Rattle.std.proofs.lemmas.Bool.{or_from, or_parts}
use Rattle.cc_names.specs.Formed.{AreTargets, IsBelowRoot, IsListOf}
use Rattle.cc_names.proofs.Common.{all_of_both}
use Rattle.make_grammar.proofs.RuleLineLaws.{IsLine, AreLines}
use Rattle.make_grammar.specs.Contents.{RuleLine, group_of, groups_of, made_with}
use Rattle.make_grammar.specs.Macros.{is_among}
use Rattle.make_grammar.specs.Statements.{is_scripted}

-- whether a group has the path
abbrev has_path : List (List (List ℕ)) → List ℕ → Bool
has_path groups path = list_any (λ group. is_among group path) groups

-- groups of which no two have a path
abbrev AreApart : List (List (List ℕ)) → Type 0
AreApart [] = ⊤
AreApart (group ∷ groups) = ((path : List ℕ) → is_among group path ≡ true → has_path groups path ≡ false) × AreApart groups

-- fewer paths than a number of four bytes, below the root and each once
abbrev IsGroup : List (List ℕ) → Type 0
IsGroup group = IsListOf IsBelowRoot group × IsDistinct bytes_eq group

-- groups in their form, of which no two have a path
pub record AreGroups (groups : List (List (List ℕ))) : Type 0 where
  pub formed : AllByRecursion IsGroup groups
  pub apart : AreApart groups

-- what is made together by a first group and the others
made_first : (group : List (List ℕ)) (groups : List (List (List ℕ))) (path : List ℕ) (t : Bool) → is_among group path ≡ t
    → made_with (group ∷ groups) path ≡ (if t then group else made_with groups path)
made_first group groups path t is = by (is_among group path) ∙ ap (λ s. if s then group else made_with groups path) is
  where
    by : (s : Bool) → unwrap_or (if s then Some group else find (λ other. is_among other path) groups) (path ∷ [])
        ≡ (if s then group else made_with groups path)
    by true = refl
    by false = refl

-- a path in no group is made alone
made_alone : (groups : List (List (List ℕ))) (path : List ℕ) → has_path groups path ≡ false → made_with groups path ≡ path ∷ []
made_alone [] path h = refl
made_alone (group ∷ groups) path h =
    let none = or_parts (is_among group path) (has_path groups path) h in
    made_first group groups path false none.0 ∙ made_alone groups path none.1

-- a path is among itself alone
among_itself : (path : List ℕ) → is_among (path ∷ []) path ≡ true
among_itself path = ap (λ t. t || false) ((bytes_eq-Decides path path).1 refl)

-- what is among one path is that path
among_alone : (path other : List ℕ) → is_among (other ∷ []) path ≡ true → path ≡ other
among_alone path other h = (bytes_eq-Decides path other).0 (sym (or-false (bytes_eq path other)) ∙ h)

-- a path is among what is made with it
pub among_made : (groups : List (List (List ℕ))) (path : List ℕ) → is_among (made_with groups path) path ≡ true
among_made [] path = among_itself path
among_made (group ∷ groups) path = by (is_among group path) refl (among_made groups path)
  where
    by : (t : Bool) → is_among group path ≡ t → is_among (made_with groups path) path ≡ true
        → is_among (made_with (group ∷ groups) path) path ≡ true
    by true is more = ap (λ (g : List (List ℕ)). is_among g path) (made_first group groups path true is) ∙ is
    by false is more = ap (λ (g : List (List ℕ)). is_among g path) (made_first group groups path false is) ∙ more

-- paths that are made together are made with the same
pub made_same : (groups : List (List (List ℕ))) (path other : List ℕ) → AreApart groups
    → is_among (made_with groups path) other ≡ true → made_with groups other ≡ made_with groups path
made_same [] path other apart h = ap (λ (p : List ℕ). p ∷ []) (among_alone other path h)
made_same (group ∷ groups) path other apart h = by (is_among group path) refl (is_among group other) refl h
    (made_same groups path other apart.1)
  where
    within : (t : Bool) → is_among group path ≡ t → is_among (made_with (group ∷ groups) path) other ≡ true
        → is_among (if t then group else made_with groups path) other ≡ true
    within t is h = sym (ap (λ (g : List (List ℕ)). is_among g other) (made_first group groups path t is)) ∙ h

    by : (t : Bool) → is_among group path ≡ t → (s : Bool) → is_among group other ≡ s
        → is_among (made_with (group ∷ groups) path) other ≡ true →
        (is_among (made_with groups path) other ≡ true → made_with groups other ≡ made_with groups path)
        → made_with (group ∷ groups) other ≡ made_with (group ∷ groups) path
    by true has true is h more = made_first group groups other true is ∙ sym (made_first group groups path true has)
    by true has false is h more = absurd (let inside = within true has h in cc)
    by false has false is h more = made_first group groups other false is
        ∙ (more (within false has h) ∙ sym (made_first group groups path false has))
    by false has true is h more =
        let alone = made_alone groups other (apart.0 other is) in
        let one : made_with groups path ≡ other ∷ [] = sym (more (within false has h)) ∙ alone in
        let same = among_alone path other (sym (ap (λ (g : List (List ℕ)). is_among g path) one) ∙ among_made groups path) in
        let inside : is_among group path ≡ true = ap (is_among group) same ∙ is in
        absurd (cc)

-- what is made together with a path below the root is in the form of a group
made_formed : (groups : List (List (List ℕ))) (path : List ℕ) → AllByRecursion IsGroup groups → IsBelowRoot path
    → IsGroup (made_with groups path)
unfolding IsDistinct
made_formed [] path all below = ((omega arith, (below, tt)), (tt, tt))
made_formed (group ∷ groups) path all below = by (is_among group path) refl (made_formed groups path all.1 below)
  where
    by : (t : Bool) → is_among group path ≡ t → IsGroup (made_with groups path) → IsGroup (made_with (group ∷ groups) path)
    by true is more = subst IsGroup (sym (made_first group groups path true is)) all.0
    by false is more = subst IsGroup (sym (made_first group groups path false is)) more

-- what is made together can be the targets of a rule
pub made_targets : (groups : List (List (List ℕ))) (path : List ℕ) → AllByRecursion IsGroup groups → IsBelowRoot path
    → AreTargets (made_with groups path)
made_targets groups path all below =
    let formed = made_formed groups path all below in
    let among = among_made groups path in (
      formed.0,
      (λ none. let inside : false ≡ true = sym (ap (λ (g : List (List ℕ)). is_among g path) none) ∙ among in cc),
      formed.1,
    )

-- ---- the groups of rule lines

-- a line's group is in its form, where it has one
group_formed : (line : RuleLine) → IsLine line → (grouped scripted : Bool) → line.is_group ≡ grouped
    → AllByRecursion IsGroup (if grouped && scripted then line.targets ∷ [] else [])
group_formed line formed true true is = ((formed.targets, formed.once is), tt)
group_formed line formed true false is = tt
group_formed line formed false scripted is = tt

pub groups_formed : (lines : List RuleLine) → AllByRecursion IsLine lines → AllByRecursion IsGroup (groups_of lines)
groups_formed [] h = tt
groups_formed (line ∷ lines) h =
    all_of_both IsGroup (group_of line) (groups_of lines) (group_formed line h.0 line.is_group (is_some line.script) refl)
    (groups_formed lines h.1)

-- the newest line stands last among the groups
groups_reversed : (line : RuleLine) (older : List RuleLine) → groups_of (reverse (line ∷ older)) ≡ groups_of (reverse older)
    ++ group_of line
groups_reversed line older =
    ap groups_of (reverse-append (line ∷ []) older) ∙ (flat_map-append group_of (reverse older) (line ∷ [])
    ∙ ap (λ (gs : List (List (List ℕ))). groups_of (reverse older) ++ gs) (append-nil (group_of line)))

-- lines in their form, the oldest first
pub lines_reversed : (lines : List RuleLine) → AreLines lines → AllByRecursion IsLine (reverse lines)
lines_reversed [] h = tt
lines_reversed (line ∷ older) h =
    subst (AllByRecursion IsLine) (sym (reverse-append (line ∷ []) older))
    (all_of_both IsLine (reverse older) (line ∷ []) (lines_reversed older h.2) (h.0, tt))

-- a path without a script is in no group
unscripted : (lines : List RuleLine) (path : List ℕ) → is_scripted lines path ≡ false
    → has_path (groups_of (reverse lines)) path ≡ false
unscripted [] path h = refl
unscripted (line ∷ older) path h =
    let none = or_parts (is_some line.script && is_among line.targets path) (is_scripted older path) h in
    ap (λ gs. has_path gs path) (groups_reversed line older)
    ∙ (list_any-append (λ group. is_among group path) (groups_of (reverse older)) (group_of line)
    ∙ or_from (has_path (groups_of (reverse older)) path) (has_path (group_of line) path) (unscripted older path none.1)
    (by line.is_group (is_some line.script) none.0))
  where
    by : (grouped scripted : Bool) → (scripted && is_among line.targets path) ≡ false
        → has_path (if grouped && scripted then line.targets ∷ [] else []) path ≡ false
    by true true none = ap (λ t. t || false) none
    by true false none = refl
    by false scripted none = refl

-- a group that shares no path with others, after them
apart_push : (groups : List (List (List ℕ))) (group : List (List ℕ)) → AreApart groups
    → ((path : List ℕ) → is_among group path ≡ true → has_path groups path ≡ false) → AreApart (groups ++ group ∷ [])
apart_push [] group apart none = ((λ path among. refl), tt)
apart_push (first ∷ groups) group apart none = (
  (λ path among. by path among (is_among group path) refl),
  apart_push groups group apart.1
      (λ path among. (or_parts (is_among first path) (has_path groups path) (none path among)).1),
)
  where
    by : (path : List ℕ) → is_among first path ≡ true → (t : Bool) → is_among group path ≡ t
        → has_path (groups ++ group ∷ []) path ≡ false
    by path among true is = absurd (let not_first = (or_parts (is_among first path) (has_path groups path) (none path is)).0 in
        cc)
    by path among false is =
        list_any-append (λ other. is_among other path) groups (group ∷ [])
        ∙ or_from (has_path groups path) (is_among group path || false) (apart.0 path among) (ap (λ t. t || false) is)

-- no two groups have a path, since no target has two scripts
pub groups_apart : (lines : List RuleLine) → AreLines lines → AreApart (groups_of (reverse lines))
groups_apart [] h = tt
groups_apart (line ∷ older) h =
    subst AreApart (sym (groups_reversed line older)) (by line.is_group (is_some line.script) refl (groups_apart older h.2))
  where
    by : (grouped scripted : Bool) → is_some line.script ≡ scripted → AreApart (groups_of (reverse older))
        → AreApart (groups_of (reverse older) ++ (if grouped && scripted then line.targets ∷ [] else []))
    by true true is apart = apart_push (groups_of (reverse older)) line.targets apart
        (λ path among. unscripted older path (h.1 is path among))
    by true false is apart = subst AreApart (sym (append-nil (groups_of (reverse older)))) apart
    by false scripted is apart = subst AreApart (sym (append-nil (groups_of (reverse older)))) apart
