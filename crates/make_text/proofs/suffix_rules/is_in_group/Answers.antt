use Rattle.std.proofs.Common.{ap, ◌∙◌, is_some}
use Rattle.make_text.proofs.JoinLemmas.{in_group}
use Rattle.make_text.proofs.suffix_rules.is_in_group.Goals as goal

pub returns-in-Some : goal.returns-in-Some
returns-in-Some c = ap is_some c.in-Some.ensures ∙ in_group c.args.lines.now c.args.target.now

pub returns-in-None : goal.returns-in-None
returns-in-None c = ap is_some c.in-None.ensures ∙ in_group c.args.lines.now c.args.target.now
