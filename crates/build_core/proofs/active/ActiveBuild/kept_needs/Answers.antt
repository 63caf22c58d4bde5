-- The slot of the unit has its closure.
use Rattle.std.proofs.Common.{◌≡◌, ◌<◌, Option, List, Bool, IfSome, length, get_or, ap, sym, subst, ◌∙◌, arith}
use Rattle.std.proofs.lemmas.Option.{IfSome_then}
use Rattle.std.specs.Option.{option_copied}
use Rattle.legal_history.specs.Builds.Active.{Build}
use Rattle.build_core.specs.Slots.{held_in}
use Rattle.build_core.specs.VisibleObjects.{AreMarked, AreNeeds}
use Rattle.build_core.proofs.Cames.{held_in_read}
use Rattle.build_core.proofs.active.ActiveBuild.kept_needs.Goals as goal

pub returns-in_err-get : goal.returns-in_err-get
returns-in_err-get c =
    subst (λ (found : Option (List Bool)). IfSome found (AreNeeds c.args.self.now c.args.unit))
    (sym (ap option_copied c.from_residual.ensures)) tt

pub returns : goal.returns
returns c =
    let unit = c.args.unit in
    let inside = c.self.inside in
    let closures = inside.closures.items in
    let lookup = c.in_ok-get.ensures.lookup in
    let within : unit < length closures = omega (arith, lookup.3.0, ap length c.deref.ensures.value) in
    let slot = lookup.1 ∙ ap (λ (slots : List (Option (List Bool))). get_or slots unit c.in_ok-get.field-0.now)
    c.deref.ensures.value in
    let held : option_copied c.as_ref.result ≡ held_in closures unit =
    c.as_ref.ensures.value ∙ sym (held_in_read closures unit c.in_ok-get.field-0.now within slot) in
    let kept = subst (λ (found : Option (List Bool)). IfSome found (AreMarked inside.graph unit)) (sym held)
    (c.self.invariant.kept unit) in
    subst (λ (build : Build). IfSome (option_copied c.as_ref.result) (AreNeeds build unit)) c.self.view_is
    (IfSome_then (option_copied c.as_ref.result) kept (λ marks needed. record {
      in_order = c.self.invariant.in_order;
      needed = needed;
    }))
