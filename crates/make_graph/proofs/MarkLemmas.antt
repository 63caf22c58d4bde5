-- Marks of the units that are needed.
use Rattle.std.proofs.Common.{◌≡◌, inl, inr, refl, sym, ap, ◌∙◌, ℕ, zero, suc, ◌<◌, ◌≤◌, ◌==◌, nat_lt, nat_le, Bool, true, false}
use Rattle.std.proofs.Common.{◌||◌, ◌&&◌, List, ◌++◌, arith}
use Rattle.std.proofs.Math.Nat.{eq-or-lt_of_le}
use Rattle.std.proofs.lemmas.Bool.Decides.{nat_tests}
use Rattle.std.proofs.lemmas.Bool.{cases_Bool}
use Rattle.cc_names.specs.declared.units.Unit.{Unit}
use Rattle.cc_names.proofs.Common.{or_true, or_false, and_false, same_number}
use Rattle.make_graph.specs.Marks.{AddsMarks, IsEndBelow}
use Rattle.make_graph.specs.Waits.{makes_one, makers_of, needed_units, closure_of, prerequisites_at, is_in, is_marked}
use Rattle.make_graph.proofs.MakerLemmas.{is_maker}
use Rattle.make_graph.proofs.NeedLemmas.{makes_more}
use Rattle.make_graph.proofs.StandingLaws.{when_made, when_not}

less : (n k : ℕ) → n < k → nat_lt n k ≡ true
less n k h = grind (arith, nat_tests)

-- a mark for one number
pub one_mark : (below number n : ℕ) (old new : Bool) → number < below → new ≡ (old || (n == number))
    → new ≡ (old || (nat_lt n below && ((n == number) || false)))
one_mark below number n old new lt h = by (n == number) refl
  where
    by : (b : Bool) → (n == number) ≡ b → new ≡ (old || (nat_lt n below && ((n == number) || false)))
    by true same =
        let is : nat_lt n below ≡ true = ap (λ m. nat_lt m below) (same_number n number same) ∙ less number below lt in
        h ∙ (ap (λ t. old || t) same ∙ sym (ap (λ t. old || (t && ((n == number) || false))) is
        ∙ ap (λ t. old || (t || false)) same))
    by false apart =
        h ∙ (ap (λ t. old || t) apart ∙ sym (ap (λ t. old || (nat_lt n below && (t || false))) apart
        ∙ ap (λ t. old || t) (and_false (nat_lt n below))))

pub no_mark : (below number n : ℕ) (old : Bool) → below ≤ number → old ≡ (old || (nat_lt n below && ((n == number) || false)))
no_mark below number n old le = by (n == number) refl
  where
    by : (b : Bool) → (n == number) ≡ b → old ≡ (old || (nat_lt n below && ((n == number) || false)))
    by true same =
        let is : nat_lt n below ≡ false = grind (arith, nat_tests) in
        sym (ap (λ t. old || (t && ((n == number) || false))) is ∙ or_false old)
    by false apart =
        sym (ap (λ t. old || (nat_lt n below && (t || false))) apart ∙ (ap (λ t. old || t) (and_false (nat_lt n below))
        ∙ or_false old))

-- ---- the walk down the units

-- The units down to this number were looked at: those that are marked there are needed, and so are those below that make
-- what is wanted of them.
pub record HasMarks (units : List Unit) (unit number : ℕ) (marks : List Bool) : Type 0 where
  pub wanted : List (List ℕ)
  pub low : (n : ℕ) → n < number → is_marked marks n ≡ makes_one units wanted n
  pub all : (n : ℕ) → is_in (closure_of units unit) n ≡ (is_in (needed_units units number wanted) n
      || (nat_le number n && is_marked marks n))

added : (a b t m : Bool) → a ≡ b → t ≡ true → (a || (t && m)) ≡ (b || m)
added a b true m e h = ap (λ x. x || m) e
added a b false m e h = absurd (cc)

-- no unit from the end on makes what is wanted
pub none_behind : (units : List Unit) (wanted : List (List ℕ)) (end unit : ℕ) → end ≤ unit
    → IsEndBelow unit (makers_of units wanted) end → needed_units units unit wanted ≡ needed_units units end wanted
none_behind units wanted end zero le ends = let same : zero ≡ end = omega (arith, le) in
    ap (λ k. needed_units units k wanted) same
none_behind units wanted end (suc k) le ends =
    elim (eq-or-lt_of_le {n = end} {m = suc k} le) [
      | inl same ↦ ap (λ m. needed_units units m wanted) (sym same)
      | inr below ↦
          elim (cases_Bool (makes_one units wanted k)) [
            | inl made ↦ absurd (omega (arith, below, ends k (omega arith) (is_maker units wanted k ∙ made)))
            | inr not ↦ when_not units k wanted not ∙ none_behind units wanted end k (omega (arith, below))
                (λ n lt is. ends n (omega (arith, lt)) is)
          ]
    ]

pub first_marks : (units : List Unit) (unit end : ℕ) (clear marks : List Bool) → ((n : ℕ) → is_marked clear n ≡ false)
    → end ≤ unit → IsEndBelow unit (makers_of units (prerequisites_at units unit)) end →
    AddsMarks end (makers_of units (prerequisites_at units unit)) clear marks → HasMarks units unit end marks
first_marks units unit end clear marks unset le ends adds = record {
  wanted = prerequisites_at units unit;
  low = λ n lt. made n ∙ added (is_marked clear n) false (nat_lt n end) _ (unset n) (less n end lt);
  all = λ n. ap (λ l. is_in l n) (none_behind units (prerequisites_at units unit) end unit le ends) ∙ above n (nat_lt n end) refl;
}
  where
    made : (n : ℕ) → is_marked marks n ≡ (is_marked clear n || (nat_lt n end && makes_one units (prerequisites_at units unit) n))
    made n = adds n ∙ ap (λ t. is_marked clear n || (nat_lt n end && t)) (is_maker units (prerequisites_at units unit) n)

    above : (n : ℕ) (t : Bool) → nat_lt n end ≡ t →
        is_in (needed_units units end (prerequisites_at units unit)) n
        ≡ (is_in (needed_units units end (prerequisites_at units unit)) n || (nat_le end n && is_marked marks n))
    above n true h =
        let behind : nat_le end n ≡ false = grind (arith, nat_tests) in
        sym (ap (λ t. is_in (needed_units units end (prerequisites_at units unit)) n || (t && is_marked marks n)) behind
        ∙ or_false _)
    above n false h =
        let unmarked : is_marked marks n ≡ false = made n ∙ (ap (λ t. is_marked clear n
        || (t && makes_one units (prerequisites_at units unit) n)) h ∙ (or_false _ ∙ unset n)) in
        sym (ap (λ m. is_in (needed_units units end (prerequisites_at units unit)) n || (nat_le end n && m)) unmarked
        ∙ (ap (λ t. is_in (needed_units units end (prerequisites_at units unit)) n || t) (and_false (nat_le end n))
        ∙ or_false _))

step_bits : (n k : ℕ) (x a b m : Bool) → b ≡ (a || (nat_lt n k && m)) → ((n ≡ k) → a ≡ true) →
    (((n == k) || x) || (nat_le (suc k) n && a)) ≡ (x || (nat_le k n && b))
step_bits n k x a b m is at = by (n == k) (nat_lt n k) refl refl
  where
    by : (e l : Bool) → (n == k) ≡ e → nat_lt n k ≡ l → ((e || x) || (nat_le (suc k) n && a)) ≡ (x || (nat_le k n && b))
    by true l same is_less =
        let le : nat_le k n ≡ true = grind (arith, nat_tests) in
        let marked : b ≡ true = is ∙ ap (λ t. t || (nat_lt n k && m)) (at (same_number n k same)) in
        sym (ap (λ t. x || (t && b)) le ∙ (ap (λ t. x || t) marked ∙ or_true x))
    by false true other is_less =
        let one : nat_le (suc k) n ≡ false = grind (arith, nat_tests) in
        let two : nat_le k n ≡ false = grind (arith, nat_tests) in
        ap (λ t. x || (t && a)) one ∙ sym (ap (λ t. x || (t && b)) two)
    by false false other is_less =
        let one : nat_le (suc k) n ≡ true = grind (arith, nat_tests) in
        let two : nat_le k n ≡ true = grind (arith, nat_tests) in
        let same : b ≡ a = is ∙ (ap (λ t. a || (t && m)) is_less ∙ or_false a) in
        ap (λ t. x || (t && a)) one ∙ sym (ap (λ t. x || (t && b)) two ∙ ap (λ t. x || t) same)

-- a unit that is needed
pub marks_more : (units : List Unit) (unit k : ℕ) (old new : List Bool) → HasMarks units unit (suc k) old → is_marked old k ≡ true
    →
    AddsMarks k (makers_of units (prerequisites_at units k)) old new → HasMarks units unit k new
marks_more units unit k old new h set adds = record {
  wanted = h.wanted ++ prerequisites_at units k;
  low = λ n lt.
      made n ∙ (added (is_marked old n) (makes_one units h.wanted n) (nat_lt n k) _ (h.low n (omega (arith, lt))) (less n k lt)
      ∙ sym (makes_more units h.wanted (prerequisites_at units k) n));
  all = λ n.
      h.all n
      ∙ (ap (λ l. is_in l n || (nat_le (suc k) n && is_marked old n)) (when_made units k h.wanted (sym (h.low k (omega arith))
      ∙ set))
      ∙ step_bits n k (is_in (needed_units units k (h.wanted ++ prerequisites_at units k)) n) (is_marked old n) (is_marked new n)
      _ (made n)
      (λ same. ap (is_marked old) same ∙ set));
}
  where
    made : (n : ℕ) → is_marked new n ≡ (is_marked old n || (nat_lt n k && makes_one units (prerequisites_at units k) n))
    made n = adds n ∙ ap (λ t. is_marked old n || (nat_lt n k && t)) (is_maker units (prerequisites_at units k) n)

-- a unit that is not
pub marks_same : (units : List Unit) (unit k : ℕ) (marks : List Bool) → HasMarks units unit (suc k) marks
    → is_marked marks k ≡ false →
    HasMarks units unit k marks
marks_same units unit k marks h set = record {
  wanted = h.wanted;
  low = λ n lt. h.low n (omega (arith, lt));
  all = λ n.
      h.all n
      ∙ (ap (λ l. is_in l n || (nat_le (suc k) n && is_marked marks n)) (when_not units k h.wanted (sym (h.low k (omega arith))
      ∙ set))
      ∙ past n (n == k) (nat_lt n k) refl refl);
}
  where
    past : (n : ℕ) (e l : Bool) → (n == k) ≡ e → nat_lt n k ≡ l →
        (is_in (needed_units units k h.wanted) n || (nat_le (suc k) n && is_marked marks n))
        ≡ (is_in (needed_units units k h.wanted) n || (nat_le k n && is_marked marks n))
    past n true l same is_less =
        let one : nat_le (suc k) n ≡ false = grind (arith, nat_tests) in
        let two : nat_le k n ≡ true = grind (arith, nat_tests) in
        let none : is_marked marks n ≡ false = ap (is_marked marks) (same_number n k same) ∙ set in
        ap (λ t. is_in (needed_units units k h.wanted) n || (t && is_marked marks n)) one
        ∙ sym (ap (λ t. is_in (needed_units units k h.wanted) n || (t && is_marked marks n)) two
        ∙ ap (λ t. is_in (needed_units units k h.wanted) n || t) none)
    past n false true other is_less =
        let one : nat_le (suc k) n ≡ false = grind (arith, nat_tests) in
        let two : nat_le k n ≡ false = grind (arith, nat_tests) in
        ap (λ t. is_in (needed_units units k h.wanted) n || (t && is_marked marks n)) (one ∙ sym two)
    past n false false other is_less =
        let one : nat_le (suc k) n ≡ true = grind (arith, nat_tests) in
        let two : nat_le k n ≡ true = grind (arith, nat_tests) in
        ap (λ t. is_in (needed_units units k h.wanted) n || (t && is_marked marks n)) (one ∙ sym two)

-- after the last unit
pub all_marked : (units : List Unit) (unit : ℕ) (marks : List Bool) → HasMarks units unit 0 marks → (n : ℕ)
    → is_marked marks n ≡ is_in (closure_of units unit) n
all_marked units unit marks h n =
    let le : nat_le 0 n ≡ true = grind (arith, nat_tests) in
    sym (h.all n ∙ ap (λ t. t && is_marked marks n) le)
