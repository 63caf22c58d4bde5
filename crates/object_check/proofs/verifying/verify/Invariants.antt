use Rattle.std.proofs.Common.{◌<◌, nat_eq}
use Rattle.std.specs.BTreeSet.{contains}
use Rattle.std.specs.HashMap.{get}
use Rattle.std.specs.Ordering.{nat_cmp}
use Rattle.object_check.specs.Kept.{KeepsBelow}
use Rattle.object_check.proofs.NextRows.{SoundBefore}
use Rattle.object_check.proofs.verifying.verify.Given as goal

-- what was found of the rows so far
abbrev pub invariant-loop-id : goal.invariant-loop-id
invariant-loop-id l = record {
  low : l.count < l.id;
  sound : SoundBefore l.rows l.id l.count;
  keeps : KeepsBelow l.id (contains nat_cmp l.needed) l.rows (get nat_eq l.values);
}
