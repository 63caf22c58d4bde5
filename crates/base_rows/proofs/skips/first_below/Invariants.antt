use Rattle.std.proofs.Common.{◌≡◌, ◌<◌, ℕ, suc, length, reverse, Option, Some, None, IfSome}
use Rattle.base_rows.specs.Marked.{Sink, rows_below, rows_from}
use Rattle.base_rows.proofs.skips.first_below.Given as goal

-- the rows that are passed do not lie below the bound
abbrev pub invariant-loop-next : goal.invariant-loop-next
invariant-loop-next l = record {
  there : IfSome l.next (λ place. place < length l.links);
  sinks : Sink (rows_from (reverse l.links) l.next);
  below : rows_below l.bound (rows_from (reverse l.links) l.next) ≡ rows_below l.bound (rows_from (reverse l.links) l.fn.start);
}

-- places fall
abbrev pub height : Option ℕ → ℕ
height None = 0
height (Some place) = suc place

abbrev pub decreases-loop-next : goal.decreases-loop-next
decreases-loop-next l = height l.next
