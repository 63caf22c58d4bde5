use Rattle.std.proofs.Common.{◌≡◌, ◌++◌, length, map, reverse}
use Rattle.legal_history.specs.Queries.VersionNames.{behind_slashes}
use Rattle.view_lookup.proofs.version_names.push_names.Given as goal

-- what is written, and then the names that are left
abbrev pub invariant-loop-left : goal.invariant-loop-left
invariant-loop-left l =
    l.text.items ++ behind_slashes (reverse (map (λ name. name.now) l.left.items)) ≡ l.fn.text.items
    ++ behind_slashes (reverse (map (λ name. name.now) l.fn.names.items))

abbrev pub decreases-loop-left : goal.decreases-loop-left
decreases-loop-left l = length l.left.items
