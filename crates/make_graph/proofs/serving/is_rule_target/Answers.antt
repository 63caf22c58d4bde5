use Rattle.std.proofs.Common.{ap, ◌∙◌, is_some}
use Rattle.make_grammar.specs.Units.{targets_of}
use Rattle.make_graph.proofs.ServingLemmas.{numbered_among}
use Rattle.make_graph.proofs.serving.is_rule_target.Goals as goal

pub returns : goal.returns
returns c = c.is_some.ensures ∙ (ap is_some (c.number.ensures ∙ c.requires c.args.path.now)
    ∙ numbered_among targets_of 0 c.args.path.now c.args.make.now.rules)
