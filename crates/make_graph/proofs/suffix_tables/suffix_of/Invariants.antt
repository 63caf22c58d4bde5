use Rattle.std.proofs.Common.{◌≡◌, [], drop}
use Rattle.make_graph.specs.Suffixes.{last_dotted}
use Rattle.make_graph.proofs.suffix_tables.suffix_of.Given as goal

abbrev pub invariant-loop-place : goal.invariant-loop-place
invariant-loop-place l = last_dotted l.suffix (drop l.place l.bytes) ≡ last_dotted [] l.bytes
