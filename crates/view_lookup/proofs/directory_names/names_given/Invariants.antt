use Rattle.std.proofs.Common.{◌≡◌, ◌||◌, ℕ, List, drop}
use Rattle.std.specs.List.{list_any}
use Rattle.base_model.specs.Closures.{is_path_among}
use Rattle.view_lookup.specs.GivenNames.{is_name, name_at}
use Rattle.view_lookup.proofs.directory_names.names_given.Given as goal

-- the names of the rows that are left, and those that were found
abbrev pub invariant-loop-number : goal.invariant-loop-number
invariant-loop-number l =
    (name : List ℕ) → (list_any (λ n. is_name name (name_at l.rows n)) (drop l.number-index l.number-items)
    || is_path_among name l.found.keys) ≡ list_any (λ n. is_name name (name_at l.rows n)) l.number-items
