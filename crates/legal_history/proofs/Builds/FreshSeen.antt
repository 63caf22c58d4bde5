-- A unit of a build that agrees with the build from nothing so far sees, and waits for, the same as there.
use Rattle.std.proofs.Common.{◌≡◌, refl, ap, sym, subst, ◌∙◌, ℕ, zero, suc, ◌+◌, ◌<◌, Bool, true, false, cond, ◌==◌, Option}
use Rattle.std.proofs.Common.{Some, None, List, [], ◌∷◌, map, arith}
use Rattle.std.proofs.lemmas.Bool.Decides.{nat_tests}
use Rattle.std.proofs.lemmas.Slice.Eq.{bytes_eq-Decides}
use Rattle.std.specs.Prelude.{option_map, find, slice_get, bytes_eq}
use Rattle.std.specs.List.{list_any}
use Rattle.std.proofs.lemmas.Bool.{or_left, or_right}
use Rattle.cc_names.specs.declared.steps.UnitEnd.TheVariants.{Kept, Blocked, Failed}
use Rattle.cc_names.specs.declared.refusals.UnitFault.TheVariants.{NoRule}
use Rattle.cc_names.specs.declared.units.Unit.{Unit}
use Rattle.cc_names.proofs.Common.{bytes_equal_themselves}
use Rattle.base_model.specs.Rows.{Base, first_rows}
use Rattle.legal_history.specs.Builds.Active.{Build, Came, Started, Concluded, Given, came_to, is_outcome, number_from, unit_at}
use Rattle.base_model.specs.Closures.{is_path_among}
use Rattle.legal_history.specs.Builds.Fresh.{sees_file, sees_directory}
use Rattle.legal_history.specs.Builds.Freshness.{Agrees, AgreesSoFar, done_in, outcome_in, early_from_nothing}
use Rattle.legal_history.specs.Builds.Consistency.{InOrder, IsReady}
use Rattle.legal_history.specs.Builds.Serials.{Outcome, Made, Without, Standing, standing_of_end, standing_of_outcome}
use Rattle.legal_history.specs.Builds.Serials.{standing_or_file, standing_in, is_missing, is_bad, makes, first_end, no_directory}
use Rattle.legal_history.specs.Builds.Serials.{no_script}
use Rattle.legal_history.specs.Builds.Turns.{standing_of_came, standing_of_unit, early_in}
use Rattle.legal_history.proofs.Builds.Pairs.{Pair, finished_of, with_pair, pairs_before, done_paired}

pub bytes_turned : (xs ys : List ℕ) → bytes_eq xs ys ≡ true → bytes_eq ys xs ≡ true
bytes_turned xs ys h = (bytes_eq-Decides ys xs).1 (sym ((bytes_eq-Decides xs ys).0 h))

-- tests that agree on the members find the same
find_agree : (f g : List ℕ → Bool) (xs : List (List ℕ)) → ((x : List ℕ) → is_path_among x xs ≡ true → f x ≡ g x)
    → find f xs ≡ find g xs
find_agree f g [] same = refl
find_agree f g (x ∷ xs) same =
    let first : f x ≡ g x = same x (or_left (bytes_eq x x) (list_any (bytes_eq x) xs) (bytes_equal_themselves x)) in
    let rest = find_agree f g xs (λ y among. same y (or_right (bytes_eq y x) (list_any (bytes_eq y) xs) among)) in
    ap (λ b. cond b (Some x) (find f xs)) first ∙ ap (cond (g x) (Some x)) rest

-- the number that is found for a target is that of a unit with it
numbered : (k m : ℕ) (path : List ℕ) (units : List Unit) → number_from k path units ≡ Some m → (j : ℕ) × (u : Unit) × (m ≡ k + j)
    × (slice_get units j ≡ Some u) × (makes path u ≡ true)
numbered k m path [] h = absurd (cc)
numbered k m path (u ∷ us) h = by (is_path_among path u.targets) refl h (numbered (k + 1) m path us)
  where
    by : (t : Bool) → is_path_among path u.targets ≡ t → (elim t as (λ x. Option ℕ) [
      | true ↦ Some k
      | false ↦
          number_from (k + 1) path us
    ]) ≡ Some m →
        (number_from (k + 1) path us ≡ Some m → (j : ℕ) × (v : Unit) × (m ≡ (k + 1) + j) × (slice_get us j ≡ Some v)
        × (makes path v ≡ true)) →
        (j : ℕ) × (v : Unit) × (m ≡ k + j) × (slice_get (u ∷ us) j ≡ Some v) × (makes path v ≡ true)
    by true test h rest = let same : k ≡ m = cc in (zero, u, omega arith, refl, test)
    by false test h rest = let r = rest h in let e = r.2 in (suc r.0, r.1, omega arith, r.3, r.4)

pub unit_numbered : (m : ℕ) (path : List ℕ) (units : List Unit) → number_from 0 path units ≡ Some m → (u : Unit)
    × (slice_get units m ≡ Some u) × (makes path u ≡ true)
unit_numbered m path units h =
    let r = numbered 0 m path units h in let e = r.2 in
    let same : r.0 ≡ m = omega arith in
    (r.1, subst (λ j. slice_get units j ≡ Some r.1) same r.3, r.4)

-- the pair of a target's unit among the first n
find_none : (rows : Base) (build : Build) (n : ℕ) (path : List ℕ) → InOrder build.units → number_from 0 path build.units ≡ None
    → find (λ p. makes path p.unit) (pairs_before rows build n) ≡ None
find_none rows build zero path order h = refl
find_none rows build (suc n) path order h = by (unit_at build n) refl (find_none rows build n path order h)
  where
    by_unit : (u : Unit) (t : Bool) → unit_at build n ≡ Some u → makes path u ≡ t
        → find (λ p. makes path p.unit) (pairs_before rows build n) ≡ None →
        cond t (Some (record { unit = u; came = came_to build n; outcome = outcome_in rows build n u }))
        (find (λ p. makes path p.unit) (pairs_before rows build n)) ≡ None
    by_unit u true is test rest = absurd (let first = order.one n u path is test in cc)
    by_unit u false is test rest = rest

    by : (o : Option Unit) → unit_at build n ≡ o → find (λ p. makes path p.unit) (pairs_before rows build n) ≡ None
        → find (λ p. makes path p.unit) (with_pair rows build n o (pairs_before rows build n)) ≡ None
    by None is rest = rest
    by (Some u) is rest = by_unit u (makes path u) is refl rest

find_some : (rows : Base) (build : Build) (n m : ℕ) (um : Unit) (path : List ℕ) → InOrder build.units → unit_at build m ≡ Some um
    → makes path um ≡ true → m < n →
    find (λ p. makes path p.unit) (pairs_before rows build n) ≡ Some (record {
      unit = um;
      came = came_to build m;
      outcome = outcome_in rows build m um;
    })
find_some rows build zero m um path order is made low = absurd (omega arith)
find_some rows build (suc n) m um path order is made low = by (unit_at build n) refl
    (λ lower. find_some rows build n m um path order is made lower)
  where
    answer : Option Pair
    answer = Some (record { unit = um; came = came_to build m; outcome = outcome_in rows build m um })

    lower_where : (m == n) ≡ false → m < n
    lower_where e = grind (arith, nat_tests)

    by_unit : (u : Unit) (t : Bool) → unit_at build n ≡ Some u → makes path u ≡ t
        → (m < n → find (λ p. makes path p.unit) (pairs_before rows build n)
        ≡ Some (record { unit = um; came = came_to build m; outcome = outcome_in rows build m um })) →
        cond t (Some (record { unit = u; came = came_to build n; outcome = outcome_in rows build n u }))
        (find (λ p. makes path p.unit) (pairs_before rows build n))
        ≡ Some (record { unit = um; came = came_to build m; outcome = outcome_in rows build m um })
    by_unit u true of_n test rest =
        let one = order.one n u path of_n test in
        let other = order.one m um path is made in
        let number : n ≡ m = cc in
        let same : u ≡ um = cc in
        ap Some (λ i. record {
          unit = same i;
          came = came_to build (number i);
          outcome = outcome_in rows build (number i) (same i);
        })
    by_unit u false of_n test rest = rest lower
      where
        lower : m < n
        lower = elim (m == n) as (λ (x : Bool). (m == n) ≡ x → m < n) [
          | true ↦ λ e. absurd (let number : m ≡ n = grind (arith, nat_tests) in let same : um ≡ u = cc in cc)
          | false ↦ λ e. lower_where e
        ] refl

    by : (o : Option Unit) → unit_at build n ≡ o → (m < n → find (λ p. makes path p.unit) (pairs_before rows build n)
        ≡ Some (record { unit = um; came = came_to build m; outcome = outcome_in rows build m um })) →
        find (λ p. makes path p.unit) (with_pair rows build n o (pairs_before rows build n))
        ≡ Some (record { unit = um; came = came_to build m; outcome = outcome_in rows build m um })
    by None of_n rest = rest (elim (m == n) as (λ (x : Bool). (m == n) ≡ x → m < n) [
      | true ↦ λ e. absurd (let number : m ≡ n = grind (arith, nat_tests) in cc)
      | false ↦ λ e. lower_where e
    ] refl)
    by (Some u) of_n rest = by_unit u (makes path u) of_n refl rest

find_mapped : (path : List ℕ) (pairs : List Pair) → find (λ f. makes path f.unit) (map finished_of pairs)
    ≡ option_map finished_of (find (λ p. makes path p.unit) pairs)
find_mapped path [] = refl
find_mapped path (p ∷ pairs) = by (makes path p.unit) (find_mapped path pairs)
  where
    by : (t : Bool) → find (λ f. makes path f.unit) (map finished_of pairs)
        ≡ option_map finished_of (find (λ p. makes path p.unit) pairs) →
        cond t (Some (finished_of p)) (find (λ f. makes path f.unit) (map finished_of pairs))
        ≡ option_map finished_of (cond t (Some p) (find (λ p. makes path p.unit) pairs))
    by true rest = refl
    by false rest = rest

-- what agrees stands the same
agree_standing : (b : Base) (u : Unit) (came : Came) (outcome : Outcome) → Agrees b u came outcome
    → standing_of_came (Some came) ≡ standing_of_outcome outcome
agree_standing b u (Given id) (Made outputs) h = refl
agree_standing b u (Given id) (Without end) h = absurd h
agree_standing b u (Concluded end) (Without other) h = ap standing_of_end h.0
agree_standing b u (Concluded (Kept id)) (Made outputs) h = refl
agree_standing b u (Concluded end) (Made outputs) h = absurd h
agree_standing b u Started outcome h = absurd h

-- an outcome that is there
pub outcome_there : (o : Option Came) → is_outcome o ≡ true → (came : Came) × (o ≡ Some came)
outcome_there None h = absurd (cc)
outcome_there (Some came) h = (came, refl)

-- a prerequisite of a ready unit stands as it does from nothing
standing_same : (b : Base) (build : Build) (n : ℕ) (u : Unit) (path : List ℕ) → AgreesSoFar b build → unit_at build n ≡ Some u
    → IsReady build u → is_path_among path u.prerequisites ≡ true →
    standing_or_file (sees_file (first_rows build.rows b) build.view path) (standing_of_unit build path)
    ≡ standing_in (sees_file (first_rows build.rows b) build.view) (done_in (first_rows build.rows b) build n) path
standing_same b build n u path h is ready among = ap (standing_or_file (sees_file rows build.view path))
    (by (number_from 0 path build.units) refl)
  where
    rows : Base
    rows = first_rows build.rows b

    paired : option_map (λ f. standing_of_outcome f.outcome) (find (λ f. makes path f.unit)
        (done_in (first_rows build.rows b) build n))
        ≡ option_map (λ f. standing_of_outcome f.outcome) (option_map finished_of
        (find (λ p. makes path p.unit) (pairs_before (first_rows build.rows b) build n)))
    paired = ap (λ fs. option_map (λ f. standing_of_outcome f.outcome) (find (λ f. makes path f.unit) fs))
        (done_paired (first_rows build.rows b) build n)
        ∙ ap (option_map (λ f. standing_of_outcome f.outcome)) (find_mapped path (pairs_before (first_rows build.rows b) build n))

    by : (o : Option ℕ) → number_from 0 path build.units ≡ o → option_map (λ m. standing_of_came (came_to build m)) o
        ≡ option_map (λ f. standing_of_outcome f.outcome) (find (λ f. makes path f.unit)
        (done_in (first_rows build.rows b) build n))
    by None e = sym (paired ∙ ap (λ o. option_map (λ f. standing_of_outcome f.outcome) (option_map finished_of o))
        (find_none (first_rows build.rows b) build n path h.consistent.in_order e))
    by (Some m) e =
        let um = unit_numbered m path build.units e in
        let found = find_some (first_rows build.rows b) build n m um.0 path h.consistent.in_order um.1 um.2
        (h.consistent.in_order.earlier n m u path is among e) in
        let there = outcome_there (came_to build m) (ready m path among e) in
        let over : is_outcome (Some there.0) ≡ true = subst (λ o. is_outcome o ≡ true) there.1 (ready m path among e) in
        let same = agree_standing b um.0 there.0 (outcome_in (first_rows build.rows b) build m um.0)
        (h.agrees m um.0 there.0 um.1 there.1 over) in
        ap Some (ap standing_of_came there.1 ∙ same) ∙ sym (paired ∙ ap
        (λ o. option_map (λ f. standing_of_outcome f.outcome) (option_map finished_of o)) found)

-- a ready unit ends without a run exactly as it does from nothing
pub early_same : (b : Base) (build : Build) (n : ℕ) (u : Unit) → AgreesSoFar b build → unit_at build n ≡ Some u → IsReady build u
    →
    early_in (first_rows build.rows b) build u ≡ early_from_nothing (first_rows build.rows b) build n u
early_same b build n u h is ready =
    ap (λ o. first_end (no_directory (sees_directory rows build.view) u.targets u.script
    ∷ option_map (λ path. Failed (NoRule path)) o
    ∷ option_map Blocked (find (λ path. is_bad (here path)) u.prerequisites) ∷ no_script u.targets u.script ∷ []))
    (find_agree (λ path. is_missing (here path)) (λ path. is_missing (fresh path)) u.prerequisites
    (λ path among. ap is_missing (standing_same b build n u path h is ready among)))
    ∙ ap (λ o. first_end (no_directory (sees_directory rows build.view) u.targets u.script
    ∷ option_map (λ path. Failed (NoRule path)) (find (λ path. is_missing (fresh path)) u.prerequisites)
    ∷ option_map Blocked o ∷ no_script u.targets u.script ∷ []))
    (find_agree (λ path. is_bad (here path)) (λ path. is_bad (fresh path)) u.prerequisites
    (λ path among. ap is_bad (standing_same b build n u path h is ready among)))
  where
    rows : Base
    rows = first_rows build.rows b

    here : List ℕ → Standing
    here path = standing_or_file (sees_file (first_rows build.rows b) build.view path) (standing_of_unit build path)

    fresh : List ℕ → Standing
    fresh path = standing_in (sees_file (first_rows build.rows b) build.view) (done_in (first_rows build.rows b) build n) path
