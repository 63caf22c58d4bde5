use Rattle.std.proofs.Common.{◌≡◌, ℕ, List, drop}
use Rattle.std.specs.BTreeMap.{get}
use Rattle.std.specs.Cmp.Lexicographic.{slice_cmp}
use Rattle.std.specs.Ordering.{nat_cmp}
use Rattle.base_model.specs.Objects.{row_in}
use Rattle.vob_history.proofs.record_differences.rows_by_path.Given as goal

-- the rows of the entries from a place on
abbrev pub invariant-loop-index : goal.invariant-loop-index
invariant-loop-index l = (path : List ℕ) → get (slice_cmp nat_cmp) l.found path ≡ row_in (drop l.index l.entries) path
