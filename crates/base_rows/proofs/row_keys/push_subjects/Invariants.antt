use Rattle.std.proofs.Common.{◌≡◌, ◌-◌, ◌≤◌, ◌++◌, length, map, drop}
use Rattle.base_rows.specs.Subjects.{key, subjects}
use Rattle.base_rows.proofs.row_keys.push_subjects.Given as goal

-- the keys so far, and then those of the subjects that are left
abbrev pub invariant-loop-subject : goal.invariant-loop-subject
invariant-loop-subject l = record {
  within : l.index ≤ length (subjects l.number l.targets l.branch l.deed);
  added : l.keys.items ++ drop l.index (map (key l.fn.hashing) (subjects l.number l.targets l.branch l.deed))
      ≡ l.initial.keys.items ++ map (key l.fn.hashing) (subjects l.number l.targets l.branch l.deed);
}

abbrev pub decreases-loop-subject : goal.decreases-loop-subject
decreases-loop-subject l = length (subjects l.number l.targets l.branch l.deed) - l.index
