-- What config specs keep to, in the words of those who write them.
use Rattle.std.specs.Prelude.{◌≡◌, ◌≤◌, ◌↔◌, ℕ, Bool, true, false, not, ◌&&◌, Option, None, IsSome, IfSome, List, ◌∷◌, ◌++◌, map}
use Rattle.std.specs.List.{list_all}
use Rattle.cc_names.specs.Labels.{row_of_label_change}
use Rattle.cc_names.specs.Versions.{row_of_change}
use Rattle.cc_names.specs.declared.changes.LabelChange.{LabelChange}
use Rattle.cc_names.specs.declared.changes.TreeChange.{TreeChange}
use Rattle.cc_names.specs.declared.selection.Pattern.{Pattern}
use Rattle.cc_names.specs.declared.selection.Rule.{Rule}
use Rattle.cc_names.specs.declared.selection.Segment.TheVariants.{OneName}
use Rattle.base_model.specs.ConfigSpecs.Patterns.{is_star, is_question_mark, matches}
use Rattle.base_model.specs.ConfigSpecs.Rules.{Selectables, selectables_at, ends_scan, deciding, pick}

-- a name without wild cards
abbrev pub is_plain : List ℕ → Bool
is_plain name = list_all (λ b. not (is_star b) && not (is_question_mark b)) name

-- the pattern of some names
abbrev pub pattern_of_names : Bool → List (List ℕ) → Pattern
pattern_of_names anchored names = record { anchored = anchored; segments = map OneName names }

-- An anchored pattern without wild cards matches its own path and no other.
abbrev pub MatchesOwnPath : Type 0
MatchesOwnPath =
    (names path : List (List ℕ)) → list_all is_plain names ≡ true →
    (matches (pattern_of_names true names) path ≡ true) ↔ (path ≡ names)

-- Another one matches each path that ends in its names, and no other.
abbrev pub MatchesEndsOfPaths : Type 0
MatchesEndsOfPaths =
    (names path : List (List ℕ)) → list_all is_plain names ≡ true →
    (matches (pattern_of_names false names) path ≡ true) ↔ ((above : List (List ℕ)) × (path ≡ above ++ names))

-- Rules after one that decides change nothing.
abbrev pub FirstDecides : Type 0
FirstDecides =
    (sources : Selectables) (element : ℕ) (names : List (List ℕ)) (rules more : List Rule) →
    IsSome (deciding sources element names rules) →
    pick sources element names (rules ++ more) ≡ pick sources element names rules

-- Nothing is picked exactly where no rule decides or the one that does is `-none`.
abbrev pub PicksNothing : Type 0
PicksNothing =
    (sources : Selectables) (element : ℕ) (names : List (List ℕ)) (rules : List Rule) →
    (pick sources element names rules ≡ None)
    ↔ IfSome (deciding sources element names rules) (λ rule. ends_scan rule.selector ≡ true)

-- What is picked in the first rows stays when later rows change the trees or the labels.
abbrev pub StaysAtRows : Type 0
StaysAtRows =
    (rows : ℕ) (tree : List TreeChange) (labels : List LabelChange) (listed : ℕ → List ℕ → ℕ → Option ℕ) (out : Option ℕ)
    (element : ℕ) (names : List (List ℕ)) (rules : List Rule) →
    ((change : TreeChange) → rows ≤ row_of_change change →
    pick (selectables_at rows (change ∷ tree) labels listed out) element names rules
    ≡ pick (selectables_at rows tree labels listed out) element names rules)
    × ((change : LabelChange) → rows ≤ row_of_label_change change →
    pick (selectables_at rows tree (change ∷ labels) listed out) element names rules
    ≡ pick (selectables_at rows tree labels listed out) element names rules)
