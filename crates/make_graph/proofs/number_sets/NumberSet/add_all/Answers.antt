use Rattle.std.proofs.Common.{ap, ◌∙◌, sym, ℕ, List, Bool, length, ◌||◌, arith}
use Rattle.make_graph.specs.NumberSets.{has_number}
use Rattle.make_graph.specs.Waits.{is_marked}
use Rattle.make_graph.proofs.NumberSetLemmas.{marked, length_bits, same_room}
use Rattle.make_graph.proofs.number_sets.NumberSet.add_all.Goals as goal

pub put_numbers-requires : goal.put_numbers-requires
put_numbers-requires c =
    let room = length_bits c.self.inside.words.items in
    let seen = ap (λ (marks : List Bool). length marks) c.self.view_is in
    let other = length_bits c.other.inside.words.items in
    let other_seen = ap (λ (marks : List Bool). length marks) c.other.view_is in
    omega (arith, room, seen, other, other_seen, ap length c.as_slice.ensures.value, c.requires)

pub returns-clause-room : goal.returns-clause-room
returns-clause-room c =
    same_room c.put_numbers.new.words.items c.self.inside.words.items c.put_numbers.ensures.length
    ∙ ap (λ (marks : List Bool). length marks) c.self.view_is

pub returns-clause-marks : goal.returns-clause-marks
returns-clause-marks c n =
    marked c.put_numbers.new.words.items n
    ∙ (c.put_numbers.ensures.numbers n
    ∙ (ap (λ t. t || has_number c.as_slice.result.now n) (sym (marked c.self.inside.words.items n)
    ∙ ap (λ (marks : List Bool). is_marked marks n) c.self.view_is)
    ∙ ap (λ t. is_marked c.args.self.now n || t)
    (ap (λ (words : List ℕ). has_number words n) c.as_slice.ensures.value
    ∙ (sym (marked c.other.inside.words.items n) ∙ ap (λ (marks : List Bool). is_marked marks n) c.other.view_is))))
