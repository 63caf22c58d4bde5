use Rattle.std.proofs.Common.{◌≡◌, drop}
use Rattle.make_grammar.specs.Macros.{is_among}
use Rattle.make_text.proofs.special_targets.is_target_named.Given as goal

abbrev pub invariant-loop-target : goal.invariant-loop-target
invariant-loop-target l = is_among (drop l.target-index l.targets) l.name ≡ is_among l.targets l.name
