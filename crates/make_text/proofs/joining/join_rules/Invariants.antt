use Rattle.std.proofs.Common.{◌≡◌, fold, drop}
use Rattle.make_grammar.specs.Contents.{groups_of, with_rule_line, joined_rules}
use Rattle.make_text.specs.Joining.{rules_of, KnowsJoined}
use Rattle.make_text.proofs.joining.join_rules.Given as goal

abbrev pub invariant-loop-index : goal.invariant-loop-index
invariant-loop-index l =
    record {
      goes : fold (with_rule_line (groups_of l.lines)) (rules_of l.lines l.joining.rules.items) (drop l.index l.lines)
          ≡ joined_rules l.lines;
      known : KnowsJoined l.joining.numbers l.joining.rules.items;
    }
