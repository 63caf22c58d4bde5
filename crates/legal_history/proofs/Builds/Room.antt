-- How many units of the active builds still wait: each may make one more row.
use Rattle.std.proofs.Common.{◌≡◌, refl, ap, ◌∙◌, ℕ, zero, suc, ◌+◌, ◌≤◌, Bool, true, false, cond, not, ◌==◌, T, Some}
use Rattle.std.proofs.Common.{None, List, [], ◌∷◌, length, arith}
use Rattle.std.proofs.lemmas.Cmp.{nat_cmp_total}
use Rattle.std.specs.Prelude.{slice_get}
use Rattle.std.specs.Ordering.{nat_cmp, is_eq, is_lt}
use Rattle.std.specs.declared.cmp.Ordering.{Ordering}
use Rattle.std.specs.declared.cmp.Ordering.TheVariants.{Less, Equal, Greater}
use Rattle.std.specs.FinMap.Entries.{put, find, where_key, by_order, below_all, is_sorted}
use Rattle.cc_names.specs.References.{one_where}
use Rattle.cc_names.specs.declared.units.Unit.{Unit}
use Rattle.cc_names.proofs.Common.{test_first, test_second, less_by_test, same_number}
use Rattle.legal_history.specs.Builds.Active.{Active, Build, Came, build_of, is_outcome, rows_reserved}
use Rattle.base_model.proofs.Tables.{find_after_put, find_put_same}

-- how many of some units, numbered from n on, have no outcome
abbrev pub waits_from : List (ℕ × Came) → ℕ → List Unit → ℕ
waits_from comes n [] = 0
waits_from comes n (unit ∷ units) = one_where (not (is_outcome (find nat_cmp n comes))) + waits_from comes (n + 1) units

-- how many units of a build wait
abbrev pub waiting : Build → ℕ
waiting build = waits_from build.comes 0 build.units

-- how many units of the active builds wait
abbrev pub all_waiting : Active → ℕ
all_waiting [] = 0
all_waiting (entry ∷ active) = waiting entry.1 + all_waiting active

one_at_most : (t : Bool) → one_where t ≤ 1
one_at_most true = omega arith
one_at_most false = omega arith

pub few_wait : (comes : List (ℕ × Came)) (n : ℕ) (units : List Unit) → waits_from comes n units ≤ length units
few_wait comes n [] = omega arith
few_wait comes n (unit ∷ units) = let rest = few_wait comes (n + 1) units in let one =
    one_at_most (not (is_outcome (find nat_cmp n comes))) in omega arith

pub all_reserved : (active : Active) → all_waiting active ≤ rows_reserved active
all_reserved [] = omega arith
all_reserved (entry ∷ active) = let rest = all_reserved active in let own = few_wait entry.1.comes 0 entry.1.units in omega arith

-- a unit that waited comes to something: no other waits that did not
one_less : (comes : List (ℕ × Came)) (n m : ℕ) (came : Came) → is_outcome (find nat_cmp n comes) ≡ false →
    one_where (not (is_outcome (find nat_cmp m (put nat_cmp n came comes)))) ≤ one_where (not (is_outcome (find nat_cmp m comes)))
one_less comes n m came waits = by (m == n) refl
  where
    by : (t : Bool) → (m == n) ≡ t → one_where (not (is_outcome (find nat_cmp m (put nat_cmp n came comes))))
        ≤ one_where (not (is_outcome (find nat_cmp m comes)))
    by true e =
        let number : m ≡ n = same_number m n e in
        let old : one_where (not (is_outcome (find nat_cmp m comes))) ≡ 1 =
        ap (λ k. one_where (not (is_outcome (find nat_cmp k comes)))) number ∙ ap (λ t. one_where (not t)) waits in
        let new = one_at_most (not (is_outcome (find nat_cmp m (put nat_cmp n came comes)))) in omega arith
    by false e =
        let same : one_where (not (is_outcome (find nat_cmp m (put nat_cmp n came comes))))
        ≡ one_where (not (is_outcome (find nat_cmp m comes))) =
        ap (λ o. one_where (not (is_outcome o))) (find_after_put m n came comes
        ∙ ap (λ b. cond b (Some came) (find nat_cmp m comes)) e) in
        omega arith

pub no_more_wait : (comes : List (ℕ × Came)) (n k : ℕ) (came : Came) (units : List Unit)
    → is_outcome (find nat_cmp n comes) ≡ false → waits_from (put nat_cmp n came comes) k units ≤ waits_from comes k units
no_more_wait comes n k came [] waits = omega arith
no_more_wait comes n k came (unit ∷ units) waits = let one = one_less comes n k came waits in let rest =
    no_more_wait comes n (k + 1) came units waits in omega arith

-- where it is an outcome, one less waits
pub fewer_wait : (comes : List (ℕ × Came)) (n k j : ℕ) (came : Came) (unit : Unit) (units : List Unit) → n ≡ k + j
    → slice_get units j ≡ Some unit → is_outcome (find nat_cmp n comes) ≡ false → is_outcome (Some came) ≡ true →
    waits_from (put nat_cmp n came comes) k units + 1 ≤ waits_from comes k units
fewer_wait comes n k j came unit [] place is waits over = absurd (cc)
fewer_wait comes n k zero came unit (u ∷ units) place is waits over =
    let number : k ≡ n = omega arith in
    let old : one_where (not (is_outcome (find nat_cmp k comes))) ≡ 1 =
    ap (λ m. one_where (not (is_outcome (find nat_cmp m comes)))) number ∙ ap (λ t. one_where (not t)) waits in
    let new : one_where (not (is_outcome (find nat_cmp k (put nat_cmp n came comes)))) ≡ 0 =
    ap (λ m. one_where (not (is_outcome (find nat_cmp m (put nat_cmp n came comes))))) number
    ∙ ap (λ o. one_where (not (is_outcome o))) (find_put_same n came comes) ∙ ap (λ t. one_where (not t)) over in
    let rest = no_more_wait comes n (k + 1) came units waits in
    omega arith
fewer_wait comes n k (suc j) came unit (u ∷ units) place is waits over =
    let one = one_less comes n k came waits in
    let rest = fewer_wait comes n (k + 1) j came unit units (omega arith) is waits over in
    omega arith

-- a key below all keys is none of them
none_below : (k x : ℕ) (active : Active) → nat_cmp k x ≡ Less → T (below_all nat_cmp x active) → build_of active k ≡ None
none_below k x [] low below = refl
none_below k x (entry ∷ active) low below =
    let after : nat_cmp x entry.0 ≡ Less = less_by_test (nat_cmp x entry.0)
    (test_first (is_lt (nat_cmp x entry.0)) (below_all nat_cmp x active) below) in
    let apart : nat_cmp k entry.0 ≡ Less = nat_cmp_total.trans k x entry.0 low after in
    ap (λ o. cond (is_eq o) (Some entry.1) (build_of active k)) apart ∙ none_below k x active low
    (test_second (is_lt (nat_cmp x entry.0)) (below_all nat_cmp x active) below)

-- the units that wait after one lane's build was put in the place of another
pub put_waiting : (active : Active) (lane : ℕ) (old new : Build) → T (is_sorted nat_cmp active) → build_of active lane ≡ Some old
    →
    all_waiting (put nat_cmp lane new active) + waiting old ≡ all_waiting active + waiting new
put_waiting [] lane old new sorted is = absurd (cc)
put_waiting (entry ∷ active) lane old new sorted is = by (nat_cmp lane entry.0) refl is
    (put_waiting active lane old new (test_second (below_all nat_cmp entry.0 active) (is_sorted nat_cmp active) sorted))
  where
    by : (o : Ordering) → nat_cmp lane entry.0 ≡ o → cond (is_eq o) (Some entry.1) (build_of active lane) ≡ Some old →
        (build_of active lane ≡ Some old → all_waiting (put nat_cmp lane new active) + waiting old
        ≡ all_waiting active + waiting new) →
        all_waiting (by_order o ((lane, new) ∷ entry ∷ active) ((entry.0, new) ∷ active) (entry ∷ put nat_cmp lane new active)) +
        waiting old ≡ (waiting entry.1 + all_waiting active) + waiting new
    by Less place is rest = absurd (let none = none_below lane entry.0 active place
        (test_first (below_all nat_cmp entry.0 active) (is_sorted nat_cmp active) sorted) in cc)
    by Equal place is rest = let build : entry.1 ≡ old = cc in let same : waiting entry.1 ≡ waiting old = ap waiting build in
        omega arith
    by Greater place is rest = let more = rest is in omega arith

-- or put in where there was none
pub put_new_waiting : (active : Active) (lane : ℕ) (new : Build) → build_of active lane ≡ None
    → all_waiting (put nat_cmp lane new active) ≡ all_waiting active + waiting new
put_new_waiting [] lane new is = omega arith
put_new_waiting (entry ∷ active) lane new is = by (nat_cmp lane entry.0) is (put_new_waiting active lane new)
  where
    by : (o : Ordering) → cond (is_eq o) (Some entry.1) (build_of active lane) ≡ None
        → (build_of active lane ≡ None → all_waiting (put nat_cmp lane new active) ≡ all_waiting active + waiting new) →
        all_waiting (by_order o ((lane, new) ∷ entry ∷ active) ((entry.0, new) ∷ active) (entry ∷ put nat_cmp lane new active))
        ≡ (waiting entry.1 + all_waiting active) + waiting new
    by Less is rest = omega arith
    by Equal is rest = absurd (cc)
    by Greater is rest = let more = rest is in omega arith

pub without_waiting : (active : Active) (p : ℕ → Bool) → all_waiting (where_key nat_cmp p active) ≤ all_waiting active
without_waiting [] p = omega arith
without_waiting (entry ∷ active) p = by (p entry.0) (without_waiting active p)
  where
    by : (t : Bool) → all_waiting (where_key nat_cmp p active) ≤ all_waiting active
        → all_waiting (cond t (entry ∷ where_key nat_cmp p active) (where_key nat_cmp p active))
        ≤ waiting entry.1 + all_waiting active
    by true rest = omega arith
    by false rest = omega arith
