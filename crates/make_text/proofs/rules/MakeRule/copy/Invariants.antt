use Rattle.std.proofs.Common.{◌≡◌, ◌++◌, map, drop}
use Rattle.make_text.proofs.rules.MakeRule.copy.Given as goal

abbrev pub invariant-loop-part : goal.invariant-loop-part
invariant-loop-part l = map (λ part. part.value) l.parts.items ++ map (λ part. part.value) (drop l.part-index l.part-items)
    ≡ map (λ part. part.value) l.part-items
