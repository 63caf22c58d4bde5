-- The units that are listed as needed are those that are.
use Rattle.std.proofs.Common.{◌≡◌, ℕ, zero, suc, ◌==◌, true, false, List, ◌∷◌, ◌++◌, ◌⊎◌, inl, inr, sym, ap, subst, ◌∙◌, arith}
use Rattle.std.proofs.Common.{◌↔◌}
use Rattle.std.proofs.Math.Nat.{eq-or-lt_of_le}
use Rattle.std.proofs.lemmas.Bool.{cases_Bool, or_cases, or_left, or_right}
use Rattle.cc_names.specs.declared.units.Unit.{Unit}
use Rattle.cc_names.proofs.Common.{same_number}
use Rattle.make_graph.specs.Waits.{makes_one, needed_units, prerequisites_at, closure_of, is_in}
use Rattle.make_graph.proofs.Standing.{Needs}
use Rattle.make_graph.proofs.Standing.Needs.{Directly, Through}
use Rattle.make_graph.proofs.NeedLemmas.{itself, more_units, more_left}
use Rattle.make_graph.proofs.NeedLemmas.{more_right, split}

pub when_made : (units : List Unit) (k : ℕ) (paths : List (List ℕ)) → makes_one units paths k ≡ true →
    needed_units units (suc k) paths ≡ k ∷ needed_units units k (paths ++ prerequisites_at units k)
when_made units k paths made =
    ap (λ t. elim t as (λ b. List ℕ) [
      | true ↦ k ∷ needed_units units k (paths ++ prerequisites_at units k)
      | false ↦
          needed_units units k paths
    ]) made

pub when_not : (units : List Unit) (k : ℕ) (paths : List (List ℕ)) → makes_one units paths k ≡ false →
    needed_units units (suc k) paths ≡ needed_units units k paths
when_not units k paths not =
    ap (λ t. elim t as (λ b. List ℕ) [
      | true ↦ k ∷ needed_units units k (paths ++ prerequisites_at units k)
      | false ↦
          needed_units units k paths
    ]) not

-- ---- what is listed is needed

found : (units : List Unit) (k : ℕ) (paths : List (List ℕ)) (n : ℕ) → is_in (needed_units units k paths) n ≡ true
    → Needs units k paths n
found units zero paths n h = absurd (cc)
found units (suc k) paths n h =
    elim (cases_Bool (makes_one units paths k)) [
      | inl made ↦
          elim (or_cases (n == k) (is_in (needed_units units k (paths ++ prerequisites_at units k)) n)
          (sym (ap (λ l. is_in l n) (when_made units k paths made)) ∙ h)) [
            | inl same ↦
                let at = same_number n k same in
                Directly (omega (arith, at)) (subst (λ (m : ℕ). makes_one units paths m ≡ true) (sym at) made)
            | inr there ↦
                elim (split units k paths (prerequisites_at units k) n
                (found units k (paths ++ prerequisites_at units k) n there)) [
                  | inl by_paths ↦ more_units units k paths n by_paths
                  | inr by_unit ↦ Through (omega arith) made by_unit
                ]
          ]
      | inr not ↦ more_units units k paths n (found units k paths n (sym (ap (λ l. is_in l n) (when_not units k paths not)) ∙ h))
    ]

-- ---- what is needed is listed

-- the last of the units below a number has no part in the need, or makes one of the paths
peel : (units : List Unit) (k : ℕ) (paths : List (List ℕ)) (n : ℕ) → Needs units (suc k) paths n →
    Needs units k paths n ⊎ ((makes_one units paths k ≡ true) × ((n ≡ k) ⊎ Needs units k (prerequisites_at units k) n))
peel units k paths n (Directly lt makes) =
    elim (eq-or-lt_of_le {n = n} {m = k} (omega (arith, lt))) [
      | inl same ↦ inr (subst (λ (m : ℕ). makes_one units paths m ≡ true) same makes, inl same)
      | inr below ↦ inl (Directly below makes)
    ]
peel units k paths n (Through {m = m} lt makes more) =
    elim (eq-or-lt_of_le {n = m} {m = k} (omega (arith, lt))) [
      | inl same ↦ inr (
        subst (λ (j : ℕ). makes_one units paths j ≡ true) same makes,
        inr (subst (λ (j : ℕ). Needs units j (prerequisites_at units j) n) same more),
      )
      | inr below ↦ inl (Through below makes more)
    ]

nothing_below : (units : List Unit) (paths : List (List ℕ)) (n : ℕ) → Needs units 0 paths n → ⊥
nothing_below units paths n (Directly lt makes) = omega (arith, lt)
nothing_below units paths n (Through lt makes more) = omega (arith, lt)

listed : (units : List Unit) (k : ℕ) (paths : List (List ℕ)) (n : ℕ) → Needs units k paths n
    → is_in (needed_units units k paths) n ≡ true
listed units zero paths n needs = absurd (nothing_below units paths n needs)
listed units (suc k) paths n needs =
    let behind = λ (made : makes_one units paths k ≡ true) (h : is_in (needed_units units k (paths ++ prerequisites_at units k)) n
    ≡ true).
    ap (λ l. is_in l n) (when_made units k paths made) ∙ or_right (n == k) _ h in
    elim (peel units k paths n needs) [
      | inl before ↦
          elim (cases_Bool (makes_one units paths k)) [
            | inl made ↦ behind made (listed units k (paths ++ prerequisites_at units k) n
                (more_left units k paths (prerequisites_at units k) n before))
            | inr not ↦ ap (λ l. is_in l n) (when_not units k paths not) ∙ listed units k paths n before
          ]
      | inr (made, inl same) ↦ ap (λ l. is_in l n) (when_made units k paths made) ∙ or_left (n == k) _ (itself n k same)
      | inr (made, inr by_unit) ↦ behind made (listed units k (paths ++ prerequisites_at units k) n
          (more_right units k paths (prerequisites_at units k) n by_unit))
    ]

-- the closure of a unit has the units before it that its prerequisites need, and no others
pub closure_is : (units : List Unit) (number n : ℕ) → is_in (closure_of units number) n ≡ true
    ↔ Needs units number (prerequisites_at units number) n
closure_is units number n =
    (λ h. found units number (prerequisites_at units number) n h, λ h. listed units number (prerequisites_at units number) n h)
