use Rattle.std.proofs.Common.{◌≡◌, ◌++◌, drop, flat_map}
use Rattle.make_text.specs.SuffixOrder.{placed_target}
use Rattle.make_text.proofs.suffix_rules.put_targets.Given as goal

abbrev pub invariant-loop-target : goal.invariant-loop-target
invariant-loop-target l = l.placed.items ++ flat_map (placed_target l.suffixes l.rule) (drop l.target-index l.targets)
    ≡ l.fn.placed.items ++ flat_map (placed_target l.suffixes l.rule) l.targets
