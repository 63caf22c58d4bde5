-- The first rule that decides.
use Rattle.std.proofs.Common.{◌≡◌, ◌↔◌, ℕ, Bool, true, false, cond, ◌||◌, Option, Some, None, is_some, IsSome, IfSome, List, []}
use Rattle.std.proofs.Common.{◌∷◌, ◌++◌, find, refl, ap}
use Rattle.std.specs.Option.{option_map, option_and_then}
use Rattle.std.proofs.lemmas.Bool.{and_parts}
use Rattle.cc_names.specs.declared.selection.Rule.{Rule}
use Rattle.cc_names.specs.declared.selection.Selector.{Selector}
use Rattle.cc_names.specs.declared.selection.Selector.TheVariants.{CheckedOut, Label, Latest, Wherever, Numbered, Config, Nothing}
use Rattle.cc_names.proofs.Common.{found_passes}
use Rattle.spec_text.specs.Laws.{FirstDecides, PicksNothing}
use Rattle.base_model.specs.ConfigSpecs.Patterns.{matches}
use Rattle.base_model.specs.ConfigSpecs.Rules.{Selectables, finds, found_by, ends_scan, decides, deciding, picked_by}

found_before : {A : Type 0} (test : A → Bool) (xs ys : List A) → IsSome (find test xs) → find test (xs ++ ys) ≡ find test xs
found_before test [] ys h = cc
found_before {A} test (x ∷ xs) ys h = by_test (test x) h (found_before test xs ys)
  where
    by_test : (b : Bool) → IsSome (cond b (Some x) (find test xs)) → (IsSome (find test xs) → find test (xs ++ ys) ≡ find test xs)
        → cond b (Some x) (find test (xs ++ ys)) ≡ cond b (Some x) (find test xs)
    by_test true some behind = refl
    by_test false some behind = behind some

pub first_decides : FirstDecides
first_decides sources element names rules more h =
    ap (option_and_then (picked_by sources element)) (found_before (decides sources element names) rules more h)

ends_none : (sources : Selectables) (element : ℕ) (before : Option ℕ) (selector : Selector) → ends_scan selector ≡ true
    → finds sources element before selector ≡ None
ends_none sources element before CheckedOut h = cc
ends_none sources element before (Label name) h = cc
ends_none sources element before (Latest names) h = cc
ends_none sources element before (Wherever name) h = cc
ends_none sources element before (Numbered names number) h = cc
ends_none sources element before (Config target object) h = cc
ends_none sources element before Nothing h = refl

none_of : {A B : Type 0} (f : A → B) (found : Option A) (ends : Bool) → (ends || is_some found) ≡ true → option_map f found ≡ None
    → ends ≡ true
none_of f found true h e = refl
none_of f (Some a) false h e = cc
none_of f None false h e = cc

by_rule : (sources : Selectables) (element : ℕ) (names : List (List ℕ)) (found : Option Rule)
    → ((rule : Rule) → found ≡ Some rule → decides sources element names rule ≡ true)
    → (option_and_then (picked_by sources element) found ≡ None) ↔ IfSome found (λ rule. ends_scan rule.selector ≡ true)
by_rule sources element names None holds = (λ h. tt, λ h. refl)
by_rule sources element names (Some rule) holds =
    let tests = and_parts (matches rule.pattern names) (ends_scan rule.selector || is_some (found_by sources element rule))
    (holds rule refl) in (
      λ h. none_of _ (found_by sources element rule) (ends_scan rule.selector) tests.1 h,
      λ e. let none = ends_none sources element rule.before rule.selector e in rw none refl,
    )

pub picks_nothing : PicksNothing
picks_nothing sources element names rules =
    by_rule sources element names (deciding sources element names rules)
    (λ rule e. found_passes (decides sources element names) rules rule e)
