use Rattle.std.proofs.Common.{refl}
use Rattle.make_text.proofs.JoinLemmas.{joined_last}
use Rattle.make_text.proofs.joining.JoinedRule.join.Goals as goal

pub returns-then-ends_with : goal.returns-then-ends_with
returns-then-ends_with c = (
  refl,
  λ lines. joined_last lines c.args.self.now c.args.number
      (c.ends_with.ensures c.if-ends_with.true),
)
