use Rattle.std.proofs.Common.{◌≡◌, ℕ, ◌+◌, ◌≤◌, nat_eq, drop, vec_len, vec_capacity}
use Rattle.std.specs.HashMap.{get, spare}
use Rattle.base_rows.specs.Marked.{IsChained, rows_by, with_marks}
use Rattle.base_rows.proofs.marks.mark_keys.Given as goal

abbrev pub invariant-loop-key : goal.invariant-loop-key
invariant-loop-key l = record {
  chained : IsChained l.links.items (get nat_eq l.newest);
  rows : (q : ℕ) → with_marks l.row q (drop l.key-index l.keys) (rows_by l.links.items (get nat_eq l.newest) q)
      ≡ with_marks l.row q l.keys (rows_by l.initial.links.items (get nat_eq l.initial.newest) q);
  len : vec_len l.links ≡ vec_len l.initial.links + l.key-index;
  capacity : vec_capacity l.initial.links ≤ vec_capacity l.links;
  spare : spare l.initial.newest ≤ spare l.newest + l.key-index;
}
