use Rattle.std.proofs.Common.{◌≡◌, ℕ, ◌+◌, ◌-◌, ◌/◌, ◌<◌, ◌≤◌, Bool, true, false, List, map, refl, sym, subst, ⊎_elim, ◌∙◌}
use Rattle.std.proofs.Common.{lt_of_not-le, arith}
use Rattle.std.specs.Bool.{OnTrue}
use Rattle.std.specs.List.{range_with_len}
use native.Mathlib.Decide.{dec_le}
use mathlib.Core.Logic.{dite}
use mathlib.Core.List.{IsPrefix, Sublist}
use Rattle.turn_lock.specs.PassState.{IsLongerOf}
use Rattle.turn_lock_tests.specs.declared.tests.tally.Note.{Note}
use Rattle.turn_lock.proofs.Prefixes.{begins_itself}
use Rattle.turn_lock_tests.proofs.Standing.{stands_on}
use Rattle.turn_lock_tests.proofs.tests.tally.+fn-run_lanes-join+arg2+fn-run_lanes-join+arg3+run_lanes.Goals.{then-noted, else-noted}
use Rattle.turn_lock_tests.proofs.tests.tally.+fn-run_lanes-join+arg2+fn-run_lanes-join+arg3+run_lanes.Goals as goal

on_true : (b : Bool) (P : Type 0) → (b ≡ true → P) → OnTrue b P
on_true true P p = p refl
on_true false P p = tt

of_true : (b : Bool) (P : Type 0) → b ≡ true → OnTrue b P → P
of_true b P e p = let Q : Bool → Type 0 = λ c. OnTrue c P in subst Q e p

-- both stories begin the longer
both_begin : (one two seen : List Note) → IsLongerOf one two seen → IsPrefix one seen × IsPrefix two seen
both_begin one two seen l = ⊎_elim
    (λ (t : (seen ≡ one) × IsPrefix two one). (
      subst (IsPrefix one) (sym t.0) (begins_itself one),
      subst (IsPrefix two) (sym t.0) t.1,
    ))
    (λ (t : (seen ≡ two) × IsPrefix one two). (
      subst (IsPrefix one) (sym t.0) t.1,
      subst (IsPrefix two) (sym t.0) (begins_itself two),
    ))
    l

-- the notes of each lane stand in the longer of two stories, where those of some stand in the one and those of the others in the
-- other
each_lane : (notes : ℕ → List Note) (first next end : ℕ) (one two seen : List Note) → IsLongerOf one two seen
    → ((lane : ℕ) → first ≤ lane → lane < next → Sublist (notes lane) one)
    → ((lane : ℕ) → next ≤ lane → lane < end → Sublist (notes lane) two)
    → (lane : ℕ) → first ≤ lane → lane < end → Sublist (notes lane) seen
each_lane notes first next end one two seen l here there lane low high = let b = both_begin one two seen l in
    dite (dec_le next lane) (λ late. stands_on (notes lane) two seen (there lane late high) b.1)
    (λ early. stands_on (notes lane) one seen (here lane low (lt_of_not-le early)) b.0)

pub returns-clause-noted : goal.returns-clause-noted
returns-clause-noted g t c =
    let notes : ℕ → List Note = λ lane. map (λ (n : ℕ). let note : Note = record { lane = lane; number = n } in
    note) (range_with_len 0 c.args.count) in
    let next : ℕ = c.args.first + (c.args.lanes - c.args.lanes / 2) in
    elim c.if-noted.branch [
      | then-noted w ↦ on_true c.if-noted.result _ (λ all. λ lane low high.
          each_lane notes c.args.first next (next + c.args.lanes / 2) _ _ c.join.result.seen c.join.ensures.seen
          (of_true _ _ w.if-noted.true c.join-one.ensures.first.1)
          (of_true _ _ (sym w.result-is ∙ all) c.join-one.ensures.second.1)
          lane low (omega arith))
      | else-noted w ↦ on_true c.if-noted.result _ (λ all. absurd (cc (all, w.result-is, w.if-noted.false)))
    ]
