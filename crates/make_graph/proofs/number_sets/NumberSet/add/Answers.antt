use Rattle.std.proofs.Common.{ap, ◌∙◌, sym, List, Bool, length, ◌||◌, ◌==◌, arith}
use Rattle.make_graph.specs.Waits.{is_marked}
use Rattle.make_graph.proofs.NumberSetLemmas.{marked, length_bits, same_room}
use Rattle.make_graph.proofs.number_sets.NumberSet.add.Goals as goal

pub put_number-requires : goal.put_number-requires
put_number-requires c =
    let room = length_bits c.self.inside.words.items in
    let seen = ap (λ (marks : List Bool). length marks) c.self.view_is in
    omega (arith, room, seen, c.requires)

pub returns-clause-room : goal.returns-clause-room
returns-clause-room c =
    same_room c.put_number.new.words.items c.self.inside.words.items c.put_number.ensures.length
    ∙ ap (λ (marks : List Bool). length marks) c.self.view_is

pub returns-clause-marks : goal.returns-clause-marks
returns-clause-marks c n =
    marked c.put_number.new.words.items n
    ∙ (c.put_number.ensures.numbers n
    ∙ ap (λ t. t || (n == c.args.number)) (sym (marked c.self.inside.words.items n)
    ∙ ap (λ (marks : List Bool). is_marked marks n) c.self.view_is))
