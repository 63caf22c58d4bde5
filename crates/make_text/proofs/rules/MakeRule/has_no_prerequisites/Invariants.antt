use Rattle.std.proofs.Common.{◌≡◌, map, drop}
use Rattle.make_grammar.specs.WordPaths.{once_joined}
use Rattle.make_text.proofs.rules.MakeRule.has_no_prerequisites.Given as goal

abbrev pub invariant-loop-part : goal.invariant-loop-part
invariant-loop-part l = once_joined (map (λ part. part.value) (drop l.part-index l.part-items))
    ≡ once_joined (map (λ part. part.value) l.part-items)
