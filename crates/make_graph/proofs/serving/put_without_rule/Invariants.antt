use Rattle.std.proofs.Common.{◌≡◌, drop, filter, fold, not}
use Rattle.make_grammar.specs.WordPaths.{with_path_once}
use Rattle.make_grammar.specs.Units.{is_rule_target}
use Rattle.make_graph.proofs.serving.put_without_rule.Given as goal

abbrev pub invariant-loop-path : goal.invariant-loop-path
invariant-loop-path l =
    fold with_path_once l.others.keys (filter (λ path. not (is_rule_target l.make.rules path)) (drop l.path-index l.paths)) ≡
    fold with_path_once l.initial.others.keys (filter (λ path. not (is_rule_target l.make.rules path)) l.paths)
