use Rattle.std.proofs.Common.{◌≡◌, drop}
use Rattle.make_graph.specs.Suffixes.{are_dotted}
use Rattle.make_graph.proofs.suffix_tables.are_dotted.Given as goal

abbrev pub invariant-loop-rule : goal.invariant-loop-rule
invariant-loop-rule l = are_dotted (drop l.rule-index l.rules) ≡ are_dotted l.rules
