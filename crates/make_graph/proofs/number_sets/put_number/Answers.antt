use Rattle.std.proofs.Common.{ap, ◌∙◌, ◌/◌}
use Rattle.std.specs.Int.{bit_at}
use Rattle.make_graph.proofs.NumberSetLemmas.{number_added, read_at}
use Rattle.make_graph.proofs.number_sets.put_number.Goals as goal

pub returns-clause-numbers : goal.returns-clause-numbers
returns-clause-numbers c n =
    number_added c.args.words.now.items c.args.number c.with_bit.result n c.requires c.with_bit.ensures.set
    (λ i apart.
    c.with_bit.ensures.others i apart
    ∙ ap (λ w. bit_at w i) (read_at c.args.words.now.items (c.args.number / 64) c.index.result.now c.requires c.index.ensures))
