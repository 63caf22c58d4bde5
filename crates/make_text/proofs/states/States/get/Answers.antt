use Rattle.std.proofs.Common.{◌<◌, sym, ap, ◌∙◌, List, length, unwrap_or, arith}
use Rattle.std.specs.BTreeMap.{get}
use Rattle.std.specs.Ordering.{nat_cmp}
use Rattle.make_text.specs.States.{state_at}
use Rattle.make_text.specs.declared.states.State.{State}
use Rattle.make_text.specs.declared.states.State.TheVariants.{Untouched}
use Rattle.make_text.proofs.StateLemmas.{length-states, state_known}
use Rattle.make_text.proofs.states.States.get.Goals as goal

pub returns-in-Some : goal.returns-in-Some
returns-in-Some c =
    let known = get nat_cmp c.self.inside.touched in
    let within : c.args.index < c.self.inside.count = omega (
      arith,
      c.requires,
      ap length c.self.view_is,
      length-states known 0 c.self.inside.count,
    ) in
    ap (λ o. unwrap_or o Untouched) c.in-Some.ensures.value
    ∙ (sym (state_known known c.self.inside.count c.args.index within)
    ∙ ap (λ (states : List State). state_at states c.args.index) c.self.view_is)

pub returns-in-None : goal.returns-in-None
returns-in-None c =
    let known = get nat_cmp c.self.inside.touched in
    let within : c.args.index < c.self.inside.count = omega (
      arith,
      c.requires,
      ap length c.self.view_is,
      length-states known 0 c.self.inside.count,
    ) in
    ap (λ o. unwrap_or o Untouched) c.in-None.ensures.value
    ∙ (sym (state_known known c.self.inside.count c.args.index within)
    ∙ ap (λ (states : List State). state_at states c.args.index) c.self.view_is)
