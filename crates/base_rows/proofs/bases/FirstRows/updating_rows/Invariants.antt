use Rattle.std.proofs.Common.{◌≡◌, ◌<◌, ◌≤◌, ◌++◌, length, reverse, IfSome}
use Rattle.base_rows.specs.LookUps.{update_at}
use Rattle.base_rows.specs.Marked.{rows_from, AreLinked}
use Rattle.base_rows.specs.Walks.{updating_rows, updating_rows_below}
use Rattle.base_rows.proofs.bases.FirstRows.updating_rows.Given as goal

-- what is found, and then what is told along the links that are left
abbrev pub invariant-loop-next : goal.invariant-loop-next
invariant-loop-next g l = record {
  within : IfSome l.next (λ place. place < length l.links);
  shorter : length l.links ≤ length l.initial.links;
  linked : AreLinked (reverse l.links);
  left : l.numbers.items ++ updating_rows_below (update_at (g.L.LookUp.effect l.look) l.self) l.bound
      (rows_from (reverse l.links) l.next) ≡ updating_rows (g.L.LookUp.effect l.look) l.self;
}

abbrev pub decreases-loop-next : goal.decreases-loop-next
decreases-loop-next g l = length l.links
