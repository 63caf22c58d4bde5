use Rattle.std.proofs.Common.{◌≡◌, rules, sym, ap, ◌∙◌, Some}
use mathlib.Core.Option.{some-injective}
use Rattle.turn_lock.proofs.Keeps.{closes}
use Rattle.turn_lock.proofs.lock.TurnLock.close.Goals as goal

pub unwrap-requires : goal.unwrap-requires
unwrap-requires g c =
    let last = closes g.T.Storied.story _ _ _ _ _ c.pass.invariant.0 (search rules) c.pass.invariant.2
    c.close_with-closed.ensures.values.2 in
    let is : c.take-value.result ≡ Some last.0 = some-injective _ _ (sym c.take-value.ensures.value ∙ last.1) in
    rw is

pub returns : goal.returns
returns g c =
    let last = closes g.T.Storied.story _ _ _ _ _ c.pass.invariant.0 (search rules) c.pass.invariant.2
    c.close_with-closed.ensures.values.2 in
    let is : c.take-value.result ≡ Some last.0 = some-injective _ _ (sym c.take-value.ensures.value ∙ last.1) in
    let same : c.unwrap.result ≡ last.0 = cc (is, c.unwrap.ensures) in
    ap g.T.Storied.story same ∙ (last.2 ∙ ap (λ s. s.seen) c.pass.view_is)
