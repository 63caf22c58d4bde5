-- The slot at the unit's number has what the unit has come to.
use Rattle.std.proofs.Common.{◌≡◌, ◌<◌, ◌≤◌, length, get_or, ap, sym, ◌∙◌, arith}
use Rattle.std.specs.Option.{option_map, option_copied}
use Rattle.legal_history.specs.Builds.Active.{came_to}
use Rattle.build_core.specs.Comes.{came_of}
use Rattle.build_core.proofs.Cames.{found_in_slot, found_past}
use Rattle.build_core.proofs.active.ActiveBuild.came_to.Goals as goal

pub returns-in_err-get : goal.returns-in_err-get
returns-in_err-get c =
    let lookup = c.in_err-get.ensures.lookup in
    let past : length c.self.inside.comes.items ≤ c.args.unit = omega (arith, lookup.3, ap length c.deref.ensures.value) in
    ap (λ found. option_map came_of (option_copied found)) c.from_residual.ensures
    ∙ sym (found_past c.self.inside.comes.items c.args.unit past)
    ∙ ap (λ build. came_to build c.args.unit) c.self.view_is

pub returns : goal.returns
returns c =
    let lookup = c.in_ok-get.ensures.lookup in
    let within : c.args.unit < length c.self.inside.comes.items = omega (arith, lookup.3.0, ap length c.deref.ensures.value) in
    let slot : c.in_ok-get.field-0.now ≡ get_or c.self.inside.comes.items c.args.unit c.in_ok-get.field-0.now =
    lookup.1 ∙ ap (λ slots. get_or slots c.args.unit c.in_ok-get.field-0.now) c.deref.ensures.value
    in
    ap (option_map came_of) c.as_ref.ensures.value
    ∙ sym (found_in_slot c.self.inside.comes.items c.args.unit c.in_ok-get.field-0.now within slot)
    ∙ ap (λ build. came_to build c.args.unit) c.self.view_is
