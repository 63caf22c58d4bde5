use Rattle.std.proofs.Common.{◌≡◌, drop}
use Rattle.std.specs.List.{list_any}
use Rattle.make_grammar.specs.Macros.{is_among}
use Rattle.make_text.proofs.special_targets.has_some.Given as goal

abbrev pub invariant-loop-path : goal.invariant-loop-path
invariant-loop-path l = list_any (is_among l.set.keys) (drop l.path-index l.paths) ≡ list_any (is_among l.set.keys) l.paths
