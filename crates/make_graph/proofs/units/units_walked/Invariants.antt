use Rattle.std.proofs.Common.{◌≡◌, ◌++◌, drop}
use Rattle.make_grammar.specs.Graphs.{units_walked}
use Rattle.make_graph.proofs.units.units_walked.Given as goal

abbrev pub invariant-loop-number : goal.invariant-loop-number
invariant-loop-number l = l.made.items ++ units_walked l.make l.units (drop l.number-index l.order)
    ≡ units_walked l.make l.units l.order
