use Rattle.std.proofs.Common.{ap, ◌∙◌, ◌%◌, ◌==◌}
use Rattle.std.specs.Int.{bit_at}
use Rattle.make_graph.proofs.NumberSetLemmas.{truth}
use Rattle.make_graph.proofs.number_sets.has_number.Goals as goal

pub returns : goal.returns
returns c =
    truth c.has_bit.result (bit_at c.word_at.result (c.args.number % 64)) c.has_bit.ensures
    ∙ ap (λ w. bit_at w (c.args.number % 64) == 1) c.word_at.ensures
