-- Passes that part and come together again.
use Rattle.std.proofs.Common.{◌≡◌, sym, subst, ◌∙◌, ℕ, ◌+◌, ◌-◌, ◌/◌, ⊎_elim, List, arith}
use mathlib.Core.List.{IsPrefix}
use Rattle.cc_names.specs.declared.steps.StoryStep.{StoryStep}
use Rattle.turn_lock.proofs.Prefixes.{begins_itself, begins_on}
use Rattle.turn_lock.specs.PassState.{IsLongerOf, PassState}
use Rattle.clearmake.specs.Passes.{IsLater}

-- both stories begin the longer
pub both_begin : (one two seen : List StoryStep) → IsLongerOf one two seen → IsPrefix one seen × IsPrefix two seen
both_begin one two seen l = ⊎_elim
    (λ (t : (seen ≡ one) × IsPrefix two one). (
      subst (IsPrefix one) (sym t.0) (begins_itself one),
      subst (IsPrefix two) (sym t.0) t.1,
    ))
    (λ (t : (seen ≡ two) × IsPrefix one two). (
      subst (IsPrefix one) (sym t.0) t.1,
      subst (IsPrefix two) (sym t.0) (begins_itself two),
    ))
    l

whole : (one two three four w : ℕ) → one ≡ w - w / 2 → two ≡ w / 2 → three ≡ one → four ≡ two → three + four ≡ w
whole one two three four w a b c d = omega (arith, a, b, c, d)

begins_on_both : (pass one later joined : List StoryStep) → one ≡ pass → IsPrefix one later → IsPrefix later joined
    → IsPrefix pass joined
begins_on_both pass one later joined same p q = subst (λ (t : List StoryStep). IsPrefix t joined) same
    (begins_on one later joined p q)

-- two halves of a pass, each of which went on, make one that went on
pub joined_later : (pass one two first second joined : PassState StoryStep) → one.lock ≡ pass.lock
    → (one.weight ≡ pass.weight - pass.weight / 2) × (two.weight ≡ pass.weight / 2) →
    (one.seen ≡ pass.seen) × (two.seen ≡ pass.seen) → IsLater one first → IsLater two second →
    joined.lock ≡ first.lock → joined.weight ≡ first.weight + second.weight → IsLongerOf first.seen second.seen joined.seen
    → IsLater pass joined
joined_later pass one two first second joined own weight seen a b lock sum longer = record {
  lock = lock ∙ (a.lock ∙ own);
  weight = sum ∙ whole one.weight two.weight first.weight second.weight pass.weight weight.0 weight.1 a.weight b.weight;
  begins = begins_on_both pass.seen one.seen first.seen joined.seen seen.0 a.begins
      (both_begin first.seen second.seen joined.seen longer).0;
}
