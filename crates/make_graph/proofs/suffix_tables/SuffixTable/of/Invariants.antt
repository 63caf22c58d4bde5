use Rattle.std.proofs.Common.{◌≡◌, ◌+◌, ◌<◌, ◌≤◌, ℕ, List, drop, length, unwrap_or}
use Rattle.std.specs.HashMap.{get}
use Rattle.std.specs.Prelude.{slice_index_or}
use Rattle.std.specs.Str.{bytes_eq}
use Rattle.make_graph.specs.Suffixes.{next_place, rule_place}
use Rattle.make_graph.proofs.suffix_tables.SuffixTable.of.Given as goal

abbrev pub invariant-loop-place : goal.invariant-loop-place
invariant-loop-place l = record {
  within : l.place ≤ length l.rules;
  size : length l.next.items ≡ length l.rules;
  firsts : (key : List ℕ) → unwrap_or (get bytes_eq l.first key) (length l.rules)
      ≡ l.place + rule_place l.by_suffix key (drop l.place l.rules);
  nexts : (k : ℕ) → l.place ≤ k → k < length l.rules → slice_index_or l.next.items k 0 ≡ next_place l.by_suffix l.rules k;
}

abbrev pub decreases-loop-place : goal.decreases-loop-place
decreases-loop-place l = l.place
