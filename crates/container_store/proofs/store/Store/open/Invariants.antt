-- The first extents are taken, and what remains may be taken if all may.
use Rattle.std.proofs.Common.{◌≡◌, ◌+◌, [], length, take, drop}
use Rattle.std.specs.List.Sorted.{IsPermutation}
use Rattle.container_store.specs.Extents.{may_take}
use Rattle.container_store.proofs.store.Store.open.Given as goal

abbrev pub invariant-loop-extent : goal.invariant-loop-extent
invariant-loop-extent l = (may_take l.length [] l.taken ≡ may_take l.length l.store.taken (drop l.extent-index l.taken))
    × IsPermutation (take l.extent-index l.taken) l.store.taken × (l.store.room + l.extent-index ≡ length l.taken)
