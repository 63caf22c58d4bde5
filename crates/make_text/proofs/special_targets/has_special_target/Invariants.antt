use Rattle.std.proofs.Common.{◌≡◌, drop}
use Rattle.std.specs.List.{list_any}
use Rattle.make_grammar.specs.Statements.{is_special}
use Rattle.make_text.proofs.special_targets.has_special_target.Given as goal

abbrev pub invariant-loop-target : goal.invariant-loop-target
invariant-loop-target l = list_any is_special (drop l.target-index l.targets) ≡ list_any is_special l.targets
