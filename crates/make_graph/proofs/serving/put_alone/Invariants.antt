use Rattle.std.proofs.Common.{◌≡◌, ◌++◌, drop, filter_map}
use Rattle.make_grammar.specs.Serving.{serving_alone}
use Rattle.make_graph.proofs.serving.put_alone.Given as goal

abbrev pub invariant-loop-path : goal.invariant-loop-path
invariant-loop-path g l =
    l.units.items ++ filter_map (serving_alone l.make (g.E.Exists.is_file l.files)) (drop l.path-index l.paths) ≡
    l.initial.units.items ++ filter_map (serving_alone l.make (g.E.Exists.is_file l.files)) l.paths
