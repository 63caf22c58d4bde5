use Rattle.std.proofs.Common.{◌≡◌, ◌||◌, ℕ, List, drop}
use Rattle.base_model.specs.Closures.{is_path_among}
use Rattle.vob_history.specs.Differences.{is_path_read}
use Rattle.vob_history.proofs.record_differences.add_paths.Given as goal

-- the paths of the entries that are left, and those that were taken
abbrev pub invariant-loop-entry : goal.invariant-loop-entry
invariant-loop-entry l =
    (path : List ℕ) → (is_path_read path (drop l.entry-index l.entries) || is_path_among path l.paths.keys)
    ≡ (is_path_read path l.entries || is_path_among path l.initial.paths.keys)
