use Rattle.std.proofs.Common.{◌≡◌, ◌||◌, ℕ, true, false, List, drop}
use Rattle.std.specs.List.{list_any}
use Rattle.cc_names.specs.Formed.{IsBelowRoot}
use Rattle.base_model.specs.Closures.{is_path_among}
use Rattle.cleartool.specs.Owned.{is_given_by}
use Rattle.cleartool.proofs.sets.owned_paths.paths_owned.Given as goal

-- the paths of the rows that are left, and those that were found, which lie below the root
abbrev pub invariant-loop-number : goal.invariant-loop-number
invariant-loop-number l = record {
  found : (path : List ℕ) → (list_any (is_given_by l.rows path) (drop l.number-index l.number-items)
      || is_path_among path l.found.keys) ≡ list_any (is_given_by l.rows path) l.number-items;
  below : (path : List ℕ) → list_any (is_given_by l.rows path) l.number-items ≡ true
      → list_any (is_given_by l.rows path) (drop l.number-index l.number-items) ≡ false → IsBelowRoot path;
}
