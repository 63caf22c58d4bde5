-- One more empty slot.
use Rattle.std.proofs.Common.{None, [], ◌∷◌, length, ap, ◌∙◌, arith, length-append}
use Rattle.build_core.specs.Comes.{comes_of}
use Rattle.build_core.proofs.Cames.{empty_more}
use Rattle.build_core.proofs.active.slots_for.Goals as goal

pub loop-unit-preserved : goal.loop-unit-preserved
loop-unit-preserved c = record {
  length = grind (arith, length-append c.loop-unit.slots.items (None ∷ []), ap length c.in_ok-push.ensures.items);
  empty = ap comes_of c.in_ok-push.ensures.items ∙ empty_more c.loop-unit.slots.items c.loop-unit.invariant.empty;
}
