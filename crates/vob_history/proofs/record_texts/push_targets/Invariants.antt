use Rattle.std.proofs.Common.{◌≡◌, ◌++◌, drop, map}
use Rattle.std.specs.List.{concat}
use Rattle.vob_history.specs.Recorded.{target_line}
use Rattle.vob_history.proofs.record_texts.push_targets.Given as goal

-- what is written, and then the lines of the targets that are left
abbrev pub invariant-loop-target : goal.invariant-loop-target
invariant-loop-target l = l.text.items ++ concat (map target_line (drop l.target-index l.targets)) ≡ l.initial.text.items
    ++ concat (map target_line l.targets)
