use Rattle.std.proofs.Common.{◌≡◌, fold, map, drop}
use Rattle.make_grammar.specs.WordPaths.{with_path_once, once_joined}
use Rattle.make_text.proofs.rules.MakeRule.put_prerequisites.Given as goal

abbrev pub invariant-loop-part : goal.invariant-loop-part
invariant-loop-part l = fold (fold with_path_once) l.paths.keys (map (λ part. part.value) (drop l.part-index l.part-items))
    ≡ once_joined (map (λ part. part.value) l.part-items)
