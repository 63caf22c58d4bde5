-- What a unit stands on, by what those that make its prerequisites stand on.
use Rattle.std.proofs.Common.{◌≡◌, refl, sym, subst, ◌∙◌, ℕ, ◌<◌, ◌==◌, nat_lt, Bool, true, ◌||◌, ◌&&◌, inl, inr, List}
use Rattle.std.proofs.Common.{[], ◌∷◌, arith}
use Rattle.std.proofs.lemmas.Bool.{ltb-true, lt-ltb, and_parts, and_from, or_cases, or_left, or_right}
use Rattle.std.specs.List.{list_any}
use Rattle.cc_names.specs.declared.units.Unit.{Unit}
use Rattle.cc_names.proofs.Common.{same_test, same_number}
use Rattle.make_graph.proofs.Standing.{Needs}
use Rattle.make_graph.proofs.Standing.Needs.{Directly, Through}
use Rattle.make_graph.specs.Waits.{makes_one, makers_of, prerequisites_at, closure_of, is_in}
use Rattle.make_graph.proofs.MakerLemmas.{is_maker}
use Rattle.make_graph.proofs.NeedLemmas.{itself}
use Rattle.make_graph.proofs.StandingLaws.{closure_is}

-- whether a unit below a number is another, or stands on it
abbrev pub brings : List Unit → ℕ → ℕ → ℕ → Bool
brings units below n m = nat_lt m below && ((n == m) || is_in (closure_of units m) n)

-- one of the numbers that has a test
one_of : (test : ℕ → Bool) (numbers : List ℕ) → list_any test numbers ≡ true → (m : ℕ)
    × ((is_in numbers m ≡ true) × (test m ≡ true))
one_of test [] h = absurd (cc)
one_of test (k ∷ numbers) h =
    elim (or_cases (test k) (list_any test numbers) h) [
      | inl first ↦ (k, (or_left (k == k) _ (itself k k refl), first))
      | inr later ↦ let found = one_of test numbers later in (found.0, (or_right (found.0 == k) _ found.1.0, found.1.1))
    ]

any_of : (test : ℕ → Bool) (numbers : List ℕ) (m : ℕ) → is_in numbers m ≡ true → test m ≡ true → list_any test numbers ≡ true
any_of test [] m h is = absurd (cc)
any_of test (k ∷ numbers) m h is =
    elim (or_cases (m == k) (is_in numbers m) h) [
      | inl same ↦ or_left (test k) _ (subst (λ (j : ℕ). test j ≡ true) (same_number m k same) is)
      | inr later ↦ or_right (test k) _ (any_of test numbers m later is)
    ]

-- a unit is stood on by one that a maker brings
pub closure_step : (units : List Unit) (unit n : ℕ) →
    is_in (closure_of units unit) n ≡ list_any (brings units unit n) (makers_of units (prerequisites_at units unit))
closure_step units unit n = same_test (is_in (closure_of units unit) n)
    (list_any (brings units unit n) (makers_of units (prerequisites_at units unit))) down up
  where
    down : is_in (closure_of units unit) n ≡ true → list_any (brings units unit n) (makers_of units (prerequisites_at units unit))
        ≡ true
    down h = by ((closure_is units unit n).0 h)
      where
        by : Needs units unit (prerequisites_at units unit) n → list_any (brings units unit n)
            (makers_of units (prerequisites_at units unit)) ≡ true
        by (Directly lt makes) =
            any_of (brings units unit n) (makers_of units (prerequisites_at units unit)) n
            (is_maker units (prerequisites_at units unit) n ∙ makes)
            (and_from (nat_lt n unit) _ (lt-ltb _ _ lt) (or_left (n == n) _ (itself n n refl)))
        by (Through {m = m} lt makes more) =
            any_of (brings units unit n) (makers_of units (prerequisites_at units unit)) m
            (is_maker units (prerequisites_at units unit) m ∙ makes)
            (and_from (nat_lt m unit) _ (lt-ltb _ _ lt) (or_right (n == m) _ ((closure_is units m n).1 more)))

    up : list_any (brings units unit n) (makers_of units (prerequisites_at units unit)) ≡ true
        → is_in (closure_of units unit) n ≡ true
    up h =
        let found = one_of (brings units unit n) (makers_of units (prerequisites_at units unit)) h in
        let m = found.0 in
        let makes : makes_one units (prerequisites_at units unit) m ≡ true = sym (is_maker units (prerequisites_at units unit) m)
        ∙ found.1.0 in
        let parts = and_parts (nat_lt m unit) ((n == m) || is_in (closure_of units m) n) found.1.1 in
        let lt : m < unit = ltb-true _ _ parts.0 in
        elim (or_cases (n == m) (is_in (closure_of units m) n) parts.1) [
          | inl same ↦
              let at = same_number n m same in
              (closure_is units unit n).1 (Directly (omega (arith, at, lt))
              (subst (λ (j : ℕ). makes_one units (prerequisites_at units unit) j ≡ true) (sym at) makes))
          | inr stands ↦ (closure_is units unit n).1 (Through lt makes ((closure_is units m n).0 stands))
        ]
