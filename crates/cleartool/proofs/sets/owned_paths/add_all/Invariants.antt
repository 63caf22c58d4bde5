use Rattle.std.proofs.Common.{◌≡◌, ◌||◌, ℕ, List, drop}
use Rattle.base_model.specs.Closures.{is_path_among}
use Rattle.cleartool.proofs.sets.owned_paths.add_all.Given as goal

-- the paths that are left, and those that were found
abbrev pub invariant-loop-path : goal.invariant-loop-path
invariant-loop-path l =
    (path : List ℕ) → (is_path_among path (drop l.path-index l.paths) || is_path_among path l.found.keys)
    ≡ (is_path_among path l.paths || is_path_among path l.initial.found.keys)
