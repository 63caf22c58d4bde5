use Rattle.std.proofs.Common.{◌≡◌, ◌++◌, drop, flat_map}
use Rattle.make_text.specs.SuffixOrder.{placed_rules}
use Rattle.make_text.proofs.suffix_rules.placed_rules.Given as goal

abbrev pub invariant-loop-rule : goal.invariant-loop-rule
invariant-loop-rule l = l.placed.items ++ flat_map (placed_rules l.suffixes) (drop l.rule-index l.rules)
    ≡ flat_map (placed_rules l.suffixes) l.rules
