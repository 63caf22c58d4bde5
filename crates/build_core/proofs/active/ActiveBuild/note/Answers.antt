-- The slot of the unit is filled, and its closure is kept or let go.
use Rattle.std.proofs.Common.{◌≡◌, ◌<◌, ◌∙◌, IfSome, length, ap, sym, subst, Some, arith}
use Rattle.std.proofs.lemmas.List.{length-set}
use Rattle.std.proofs.lemmas.Option.{IfSome_then}
use Rattle.legal_history.specs.Builds.Active.{Build}
use Rattle.build_core.specs.Comes.{came_of}
use Rattle.build_core.specs.VisibleObjects.{AreMarked}
use Rattle.build_core.proofs.Cames.{noted_in_slot, with_comes}
use Rattle.build_core.proofs.SlotLaws.{set_held}
use Rattle.build_core.proofs.active.ActiveBuild.note.Goals as goal

pub returns : goal.returns
returns c =
    let inside = c.self.inside in
    let slots : length inside.comes.items ≡ length inside.graph = c.self.invariant.each in
    let within : c.args.unit < length inside.comes.items = omega (
      arith,
      slots,
      c.requires,
      ap (λ (build : Build). length build.units) c.self.view_is,
    ) in
    with_comes _ _ _ c.args.unit (came_of c.args.came) (noted_in_slot inside.comes.items c.args.unit c.args.came within)
    c.self.view_is

pub invariant_of-self : goal.invariant_of-self
invariant_of-self c =
    let inside = c.self.inside in
    let needs = c.needs_to_keep-needs in
    let kept = IfSome_then needs.result needs.ensures (λ marks are. are.needed) in
    record {
      each = length-set inside.comes.items c.args.unit (Some c.args.came) ∙ c.self.invariant.each;
      in_order = c.self.invariant.in_order;
      each_closure = length-set inside.closures.items c.args.unit needs.result ∙ c.self.invariant.each_closure;
      kept = set_held (AreMarked inside.graph) inside.closures.items c.args.unit needs.result c.self.invariant.kept
          (subst (λ (build : Build). IfSome needs.result (AreMarked build.units c.args.unit)) (sym c.self.view_is) kept);
    }
