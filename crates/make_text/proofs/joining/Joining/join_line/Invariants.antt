use Rattle.std.proofs.Common.{◌≡◌, fold, drop}
use Rattle.make_grammar.specs.Contents.{groups_of, with_target}
use Rattle.make_text.specs.Joining.{rules_of, KnowsJoined}
use Rattle.make_text.proofs.joining.Joining.join_line.Given as goal

abbrev pub invariant-loop-target : goal.invariant-loop-target
invariant-loop-target l =
    record {
      goes : fold (with_target (groups_of l.lines) l.line) (rules_of l.lines l.self.rules.items)
          (drop l.target-index l.line.targets)
          ≡ fold (with_target (groups_of l.lines) l.line) (rules_of l.lines l.fn.self.rules.items) l.line.targets;
      known : KnowsJoined l.self.numbers l.self.rules.items;
    }
