use Rattle.std.proofs.Common.{◌≡◌, ◌<◌, ◌≤◌, length, reverse, IfSome}
use Rattle.std.specs.Option.{option_or}
use Rattle.base_rows.specs.LookUps.{from_row, oldest, last_set, set_at}
use Rattle.base_rows.specs.Marked.{rows_from, AreLinked, Sink}
use Rattle.base_rows.proofs.RowsSince.{numbers_from}
use Rattle.base_rows.proofs.bases.FirstRows.oldest_from.Given as goal

-- the search goes on along the links of the key
abbrev pub invariant-loop-next : goal.invariant-loop-next
invariant-loop-next g l = record {
  within : IfSome l.next (λ place. place < length l.links);
  shorter : length l.links ≤ length l.initial.links;
  linked : AreLinked (reverse l.links);
  sinks : Sink (rows_from (reverse l.links) l.next);
  left : option_or (last_set (set_at (g.L.LookUp.effect l.look) l.self)
      (numbers_from l.since (rows_from (reverse l.links) l.next))) l.oldest
      ≡ oldest (from_row l.since (g.L.LookUp.effect l.look)) l.self;
}

abbrev pub decreases-loop-next : goal.decreases-loop-next
decreases-loop-next g l = length l.links
