use Rattle.std.proofs.Common.{◌≡◌, fold, drop}
use Rattle.make_text.specs.Joining.{joined_at}
use Rattle.make_text.proofs.joining.JoinedRule.into_rule.Given as goal

abbrev pub invariant-loop-number : goal.invariant-loop-number
invariant-loop-number l = fold (joined_at l.lines) l.rule (drop l.number-index l.number-items)
    ≡ fold (joined_at l.lines) l.initial.rule l.number-items
