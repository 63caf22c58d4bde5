use Rattle.std.proofs.Common.{◌≡◌, ◌-◌, ◌≤◌, length, reverse}
use Rattle.base_model.specs.Seen.{at_names}
use Rattle.view_lookup.proofs.PathPrefixes.{BeginsName, names_before}
use Rattle.view_lookup.proofs.seen.at.Given as goal

-- a name begins at the place, and what is seen is what stands at the path of the names before it
abbrev pub invariant-loop-length : goal.invariant-loop-length
invariant-loop-length l = record {
  within : l.start ≤ length l.bytes;
  begins : BeginsName l.bytes l.start;
  seen : l.seen ≡ at_names l.rows l.view (reverse (names_before l.bytes l.start));
}

abbrev pub decreases-loop-length : goal.decreases-loop-length
decreases-loop-length l = length l.bytes - l.start
