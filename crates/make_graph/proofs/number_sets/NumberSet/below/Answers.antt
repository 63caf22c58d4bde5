use Rattle.std.proofs.Common.{◌/◌, ◌+◌}
use Rattle.make_graph.proofs.NumberSetLemmas.{none_marked, room}
use Rattle.make_graph.proofs.number_sets.NumberSet.below.Goals as goal

pub returns-clause-none : goal.returns-clause-none
returns-clause-none c n = none_marked c.in_ok-vec.field-0.items (c.args.end / 64 + 1) n
    (c.in_ok-vec.ensures.items_if_clones_equal (λ y same. same))

pub returns-clause-room : goal.returns-clause-room
returns-clause-room c = room c.in_ok-vec.field-0.items (c.args.end / 64 + 1)
    (c.in_ok-vec.ensures.items_if_clones_equal (λ y same. same))
