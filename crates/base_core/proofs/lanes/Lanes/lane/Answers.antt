-- the lane at the place of its number
use Rattle.std.proofs.Common.{◌≡◌, suc, sym, ap, ◌∙◌, arith}
use Rattle.std.specs.Option.{option_copied}
use Rattle.std.specs.Prelude.{slice_get}
use Rattle.base_core.specs.Keeping.Lanes.{lane_in}
use Rattle.base_core.proofs.Keeping.Waiting.{looked_up}
use Rattle.base_core.proofs.lanes.Lanes.lane.Goals as goal

pub returns-in_err-index : goal.returns-in_err-index
returns-in_err-index c =
    let zero : c.args.lane ≡ 0 = omega (arith, c.in_err-index.ensures) in
    ap option_copied c.from_residual.ensures ∙ sym (ap (lane_in c.args.self.now) zero)

pub returns : goal.returns
returns c =
    let number : c.args.lane ≡ suc c.in_ok-index.index = omega (arith, c.in_ok-index.ensures) in
    looked_up c.deref.result.now c.in_ok-index.index c.get.result c.get.ensures.lookup.0 c.get.ensures.lookup.1
    ∙ ap (λ lanes. slice_get lanes c.in_ok-index.index) (c.deref.ensures.value ∙ c.self.view_is)
    ∙ sym (ap (lane_in c.args.self.now) number)
