use Rattle.std.proofs.Common.{◌≡◌, ◌==◌, drop}
use Rattle.std.specs.List.{list_any}
use Rattle.make_graph.proofs.suffix_tables.is_dotted.Given as goal

abbrev pub invariant-loop-byte : goal.invariant-loop-byte
invariant-loop-byte l = list_any (λ b. b == 46) (drop l.byte-index l.bytes) ≡ list_any (λ b. b == 46) l.bytes
