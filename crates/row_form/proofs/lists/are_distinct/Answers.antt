-- The keys tell which targets were seen.
use Rattle.std.proofs.Common.{◌≡◌, Bool, true, false, not, refl, sym, ◌∙◌, ap}
use Rattle.std.specs.Bool.{MatchBool}
use Rattle.row_form.proofs.AtExtents.{one_less}
use Rattle.row_form.proofs.Distinct.{is_seen, are_fresh, fresh_first, fresh_next, fresh_seen}
use Rattle.row_form.proofs.lists.are_distinct.Goals as goal

not_false : (a b : Bool) → a ≡ not b → a ≡ false → b ≡ true
not_false a true e h = refl
not_false a false e h = absurd (cc)

not_true : (a b : Bool) → a ≡ not b → a ≡ true → b ≡ false
not_true a true e h = absurd (cc)
not_true a false e h = refl

holds : (a : Bool) (P Q : Type 0) → a ≡ true → MatchBool a P Q → P
holds true P Q e h = h
holds false P Q e h = absurd (cc)

pub loop-target-init : goal.loop-target-init
loop-target-init c = fresh_first c.args.targets.now ∙ ap (λ keys. are_fresh keys c.args.targets.now)
    (sym c.in_ok-seen.ensures.empty)

pub returns-then-not-branch : goal.returns-then-not-branch
returns-then-not-branch c =
    let keys = c.loop-target.seen.keys in
    let there = not_false _ _ c.in_ok-insert.ensures.added c.if-not-branch.true in
    let seen : is_seen keys c.target-item.result ≡ true = ap (is_seen keys) (sym c.as_bytes.ensures.bytes) ∙ there in
    let prefix_is = one_less c.args.targets.now c.loop-target.target-index c.target-item.result c.loop-target-test.true
    c.target-item.is in
    sym (c.loop-target.invariant ∙ ap (are_fresh keys) prefix_is ∙ fresh_seen keys _ _ seen)

pub loop-target-preserved : goal.loop-target-preserved
loop-target-preserved c =
    let keys = c.loop-target.seen.keys in
    let away = not_true _ _ c.in_ok-insert.ensures.added c.if-not-branch.false in
    let fresh : is_seen keys c.target-item.result ≡ false = ap (is_seen keys) (sym c.as_bytes.ensures.bytes) ∙ away in
    let put = holds _ _ _ c.if-not-branch.false c.in_ok-insert.ensures.keys in
    let prefix_is = one_less c.args.targets.now c.loop-target.target-index c.target-item.result c.loop-target-test.true
    c.target-item.is in
    c.loop-target.invariant ∙ ap (are_fresh keys) prefix_is ∙ fresh_next keys c.insert.new.self.keys c.as_bytes.result _ _
    c.as_bytes.ensures.bytes fresh put
