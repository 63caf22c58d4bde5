use Rattle.std.proofs.Common.{◌≡◌, drop}
use Rattle.std.specs.List.{list_any}
use Rattle.make_grammar.specs.Contents.{groups_of}
use Rattle.make_text.specs.SuffixRules.{is_suffix_target}
use Rattle.make_text.proofs.suffix_rules.has_suffix_target.Given as goal

abbrev pub invariant-loop-target : goal.invariant-loop-target
invariant-loop-target l = list_any (is_suffix_target l.suffixes (groups_of l.lines)) (drop l.target-index l.targets)
    ≡ list_any (is_suffix_target l.suffixes (groups_of l.lines)) l.targets
