use Rattle.std.proofs.Common.{◌≡◌, ap, ◌∙◌, ◌==◌, false, length, map, arith}
use Rattle.make_grammar.specs.Rules.{MakeRule}
use Rattle.make_grammar.specs.WordPaths.{once_joined}
use Rattle.make_text.proofs.OnceLemmas.{some_later}
use Rattle.make_text.proofs.rules.MakeRule.has_no_prerequisites.Goals as goal

pub returns-then-not-is_empty : goal.returns-then-not-is_empty
returns-then-not-is_empty c =
    let some : false ≡ (length c.part-item.result.value == 0) = first_of (cc, grind arith) in
    some_later (λ part. part.value) c.loop-part.part-index c.part-item.result c.deref-part-items.result.now c.loop-part-test.true
    c.part-item.is some c.loop-part.invariant
    ∙ (ap (λ items. length (once_joined (map (λ part. part.value) items)) == 0) c.deref-part-items.ensures.value
    ∙ ap (λ (rule : MakeRule). length rule.prerequisites == 0) c.self.view_is)
