-- No closure is kept as yet.
use Rattle.std.proofs.Common.{◌≡◌, ap, sym, subst, ◌∙◌, Option, None, List, Bool, IfSome, length, replicate}
use Rattle.std.proofs.lemmas.List.{length-replicate}
use Rattle.build_core.specs.Slots.{held_in}
use Rattle.build_core.specs.VisibleObjects.{AreMarked}
use Rattle.build_core.proofs.SlotLaws.{none_held}
use Rattle.build_core.proofs.active.ActiveBuild.begin.Goals as goal

pub invariant_of-result : goal.invariant_of-result
invariant_of-result c =
    let graph = c.args.graph in
    let none : c.in_ok-closures.closures.items ≡ replicate (length graph) None =
    c.in_ok-closures.ensures ∙ ap (λ n. replicate n None) (ap length c.units-2.ensures.units) in
    record {
      each = c.in_ok-comes.ensures.length ∙ ap length c.units.ensures.units;
      in_order = c.requires;
      each_closure = ap length none ∙ length-replicate (length graph) None;
      kept = λ n. subst (λ (closures : List (Option (List Bool))). IfSome (held_in closures n) (AreMarked graph n)) (sym none)
          (none_held (AreMarked graph) (length graph) n);
    }
