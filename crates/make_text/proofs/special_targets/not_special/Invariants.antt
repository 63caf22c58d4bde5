use Rattle.std.proofs.Common.{◌≡◌, ◌++◌, filter, not, drop}
use Rattle.make_grammar.specs.Statements.{is_special}
use Rattle.make_text.proofs.special_targets.not_special.Given as goal

abbrev pub invariant-loop-target : goal.invariant-loop-target
invariant-loop-target l =
    l.plain.items ++ filter (λ target. not (is_special target)) (drop l.target-index l.targets)
    ≡ filter (λ target. not (is_special target)) l.targets
