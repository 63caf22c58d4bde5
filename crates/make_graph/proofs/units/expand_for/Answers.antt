use Rattle.std.proofs.Common.{ap, ◌∙◌, option_copied}
use Rattle.make_grammar.specs.Contents.{expansion}
use Rattle.make_grammar.specs.Graphs.{first_of, first_target}
use Rattle.make_graph.proofs.units.expand_for.Goals as goal

pub returns : goal.returns
returns c =
    c.in_ok-expand.ensures
    ∙ (ap (λ t. expansion c.args.make.now c.args.script.now t (option_copied c.first_of-first.result) c.stem.result.now)
    c.first_target-target.ensures
    ∙ (ap (λ f. expansion c.args.make.now c.args.script.now (first_target c.targets.result.now) f c.stem.result.now)
    c.first_of-first.ensures
    ∙ (ap (λ ts. expansion c.args.make.now c.args.script.now (first_target ts) (first_of c.args.prerequisites.now)
    c.stem.result.now) c.targets.ensures
    ∙ (ap (λ ps. expansion c.args.make.now c.args.script.now (first_target c.args.serving.now.targets) (first_of ps)
    c.stem.result.now) c.requires
    ∙ ap (expansion c.args.make.now c.args.script.now (first_target c.args.serving.now.targets)
    (first_of c.args.serving.now.prerequisites)) c.stem.ensures))))
