use Rattle.std.proofs.Common.{◌≡◌, fold, drop}
use Rattle.make_grammar.specs.WordPaths.{with_path_once}
use Rattle.make_text.proofs.special_targets.put_paths.Given as goal

abbrev pub invariant-loop-path : goal.invariant-loop-path
invariant-loop-path l = fold with_path_once l.set.keys (drop l.path-index l.paths)
    ≡ fold with_path_once l.initial.set.keys l.paths
