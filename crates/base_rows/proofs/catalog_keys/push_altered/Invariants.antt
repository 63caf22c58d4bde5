use Rattle.std.proofs.Common.{◌≡◌, ◌++◌, map, drop}
use Rattle.base_rows.specs.Changed.{names_by}
use Rattle.base_rows.specs.Subjects.{Altered, key}
use Rattle.base_rows.proofs.catalog_keys.push_altered.Given as goal

-- the keys so far, and then those of the names that are left
abbrev pub invariant-loop-number : goal.invariant-loop-number
invariant-loop-number l =
    l.keys.items ++ map (key l.hashing) (map (Altered l.branch) (names_by l.rows (drop l.number-index l.numbers)))
    ≡ l.initial.keys.items ++ map (key l.hashing) (map (Altered l.branch) (names_by l.rows l.numbers))
