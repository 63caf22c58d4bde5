use Rattle.std.proofs.Common.{◌≡◌, ℕ, ◌≤◌, ◌<◌, false, length, get_or}
use Rattle.cc_names.specs.Paths.{is_slash}
use Rattle.cc_names.proofs.paths.last_slash.Given as goal

abbrev pub invariant-end : goal.invariant-end
invariant-end l =
    (l.end ≤ length l.path) × ((k : ℕ) → l.end ≤ k → k < length l.path → is_slash (get_or l.path k 0) ≡ false)

abbrev pub decreases-end : goal.decreases-end
decreases-end l = l.end
