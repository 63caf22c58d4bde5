use Rattle.std.proofs.Common.{◌≡◌, filter, not}
use Rattle.make_grammar.specs.Contents.{groups_of, is_suffix_rule}
use Rattle.make_text.specs.Joining.{rules_of}
use Rattle.make_text.proofs.endings.part_rules.Given as goal

abbrev pub invariant-loop-joined_rule : goal.invariant-loop-joined_rule
invariant-loop-joined_rule l =
    record {
      rules : l.rules.items ≡ filter (λ rule. not (is_suffix_rule l.suffixes (groups_of l.lines) rule))
          (rules_of l.lines l.yielded);
      suffix_rules : l.suffix_rules.items ≡ filter (is_suffix_rule l.suffixes (groups_of l.lines)) (rules_of l.lines l.yielded);
    }
