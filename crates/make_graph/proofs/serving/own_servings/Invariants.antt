use Rattle.std.proofs.Common.{◌≡◌, ◌++◌, drop, map}
use Rattle.make_grammar.specs.Serving.{serving_of}
use Rattle.make_graph.proofs.serving.own_servings.Given as goal

abbrev pub invariant-loop-rule : goal.invariant-loop-rule
invariant-loop-rule g l =
    l.units.items ++ map (serving_of l.make (g.E.Exists.is_file l.files)) (drop l.rule-index l.rule-items)
    ≡ map (serving_of l.make (g.E.Exists.is_file l.files)) l.rule-items
