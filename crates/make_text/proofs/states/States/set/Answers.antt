use Rattle.std.proofs.Common.{◌<◌, ap, ◌∙◌, List, length, set, arith}
use Rattle.std.specs.BTreeMap.{get}
use Rattle.std.specs.Ordering.{nat_cmp}
use Rattle.make_text.specs.declared.states.State.{State}
use Rattle.make_text.proofs.StateLemmas.{length-states, state_put}
use Rattle.make_text.proofs.states.States.set.Goals as goal

pub returns : goal.returns
returns c =
    let known = get nat_cmp c.self.inside.touched in
    let count = c.self.inside.count in
    let within : c.args.index < count = omega (arith, c.requires, ap length c.self.view_is, length-states known 0 count) in
    state_put c.self.inside.touched c.insert.new.self c.args.state count c.args.index within c.in_ok-insert.ensures.updates
    ∙ ap (λ (states : List State). set states c.args.index c.args.state) c.self.view_is
