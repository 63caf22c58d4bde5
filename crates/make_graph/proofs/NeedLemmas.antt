-- What is needed of more units or by more paths.
use Rattle.std.proofs.Common.{◌≡◌, ◌⊎◌, inl, inr, sym, ◌∙◌, ℕ, suc, ◌==◌, true, ◌||◌, List, ◌++◌, arith}
use Rattle.std.proofs.lemmas.Bool.Decides.{nat_tests}
use Rattle.std.proofs.lemmas.List.Folds.{list_any-append}
use Rattle.std.proofs.lemmas.Bool.{or_cases, or_left, or_right}
use Rattle.cc_names.specs.Versions.{is_number}
use Rattle.cc_names.specs.declared.units.Unit.{Unit}
use Rattle.make_graph.specs.Waits.{unit_of, makes_one}
use Rattle.make_graph.proofs.Standing.{Needs}
use Rattle.make_graph.proofs.Standing.Needs.{Directly, Through}

pub itself : (n k : ℕ) → n ≡ k → (n == k) ≡ true
itself n k h = grind (arith, nat_tests)

pub makes_more : (units : List Unit) (ps qs : List (List ℕ)) (n : ℕ) → makes_one units (ps ++ qs) n
    ≡ (makes_one units ps n || makes_one units qs n)
makes_more units ps qs n = list_any-append (λ path. is_number n (unit_of units path)) ps qs

-- ---- what is needed of more units, or by more paths

pub more_units : (units : List Unit) (below : ℕ) (paths : List (List ℕ)) (n : ℕ) → Needs units below paths n
    → Needs units (suc below) paths n
more_units units below paths n (Directly lt makes) = Directly (omega (arith, lt)) makes
more_units units below paths n (Through lt makes more) = Through (omega (arith, lt)) makes more

pub more_left : (units : List Unit) (below : ℕ) (ps qs : List (List ℕ)) (n : ℕ) → Needs units below ps n
    → Needs units below (ps ++ qs) n
more_left units below ps qs n (Directly lt makes) = Directly lt (makes_more units ps qs n ∙ or_left _ _ makes)
more_left units below ps qs n (Through {m = m} lt makes more) = Through lt (makes_more units ps qs m ∙ or_left _ _ makes) more

pub more_right : (units : List Unit) (below : ℕ) (ps qs : List (List ℕ)) (n : ℕ) → Needs units below qs n
    → Needs units below (ps ++ qs) n
more_right units below ps qs n (Directly lt makes) = Directly lt (makes_more units ps qs n ∙ or_right _ _ makes)
more_right units below ps qs n (Through {m = m} lt makes more) = Through lt (makes_more units ps qs m ∙ or_right _ _ makes) more

pub split : (units : List Unit) (below : ℕ) (ps qs : List (List ℕ)) (n : ℕ) → Needs units below (ps ++ qs) n
    → Needs units below ps n ⊎ Needs units below qs n
split units below ps qs n (Directly lt makes) =
    elim (or_cases _ _ (sym (makes_more units ps qs n) ∙ makes)) [
      | inl one ↦ inl (Directly lt one)
      | inr other ↦
          inr (Directly lt other)
    ]
split units below ps qs n (Through {m = m} lt makes more) =
    elim (or_cases _ _ (sym (makes_more units ps qs m) ∙ makes)) [
      | inl one ↦ inl (Through lt one more)
      | inr other ↦
          inr (Through lt other more)
    ]
