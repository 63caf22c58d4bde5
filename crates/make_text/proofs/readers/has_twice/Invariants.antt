use Rattle.std.proofs.Common.{◌≡◌, ◌||◌, drop}
use Rattle.std.specs.List.{list_any}
use Rattle.make_grammar.specs.Macros.{is_among}
use Rattle.make_grammar.specs.Statements.{has_twice}
use Rattle.make_text.proofs.readers.has_twice.Given as goal

abbrev pub invariant-loop-path : goal.invariant-loop-path
invariant-loop-path l =
    (list_any (is_among l.seen.keys) (drop l.path-index l.paths) || has_twice (drop l.path-index l.paths)) ≡ has_twice l.paths
