use Rattle.std.proofs.Common.{◌≡◌, true, ltb, vec_len, vec_capacity, [], ◌∷◌, ◌++◌, get_or, set, sym, ap, subst, ◌∙◌, arith}
use Rattle.std.proofs.Common.{rules}
use Rattle.std.specs.List.{list_any}
use Rattle.std.proofs.lemmas.Bool.Decides.{nat_tests}
use Rattle.cc_names.specs.Falling.{IsAbove}
use Rattle.label_book.specs.Marks.{is_that, rows_of_pair, AddsLabelChange}
use Rattle.label_book.specs.Holding.{Held, MoveList, all_held, change_by, all_changes, ready_pairs, IsPlaceOf, HasNoPlace}
use Rattle.label_book.specs.BookFields.{marks_in}
use Rattle.label_book.proofs.Added.{about_at, added, falls_more}
use Rattle.label_book.proofs.Entries.{fall_at, held_moves, step_set, writes}
use Rattle.label_book.proofs.Ready.{none_ready, ready_room, others_keep}
use Rattle.label_book.proofs.Book.add.Goals as goal

-- the label has one change more on the element
pub invariant_of-self : goal.invariant_of-self
invariant_of-self c =
    let names = c.self.inside.labels.keys in
    let entries = c.self.inside.moves.entries in
    let all = all_held names entries in
    let p = c.in-Some.place in
    let on = c.index_mut-moves.result.now in
    let place : IsPlaceOf c.args.label.now c.args.element all p = search rules in
    let f : Held = record { label = []; element = 0; moves = on } in
    let there = held_moves names entries p on c.index_mut-moves.ensures.value place.within f in
    let above : IsAbove c.args.change.row (rows_of_pair c.args.label.now c.args.element (all_changes all)) =
    rw (← c.self.view_is) at c.requires.above in
    step_set names entries c.self.invariant p c.push_reserved.new.self
    (falls_more all c.args.label.now c.args.element p place c.args.change on.items c.push_reserved.new.self.items f
    (ap (λ (m : MoveList). m.items) there)
    (fall_at names entries c.self.invariant p on c.index_mut-moves.ensures.value place.within) c.push_reserved.ensures.items
    above)

-- there is room for it
pub push_reserved-requires : goal.push_reserved-requires
push_reserved-requires c =
    let names = c.self.inside.labels.keys in
    let entries = c.self.inside.moves.entries in
    let all = all_held names entries in
    let p = c.in-Some.place in
    let on = c.index_mut-moves.result.now in
    let place : IsPlaceOf c.args.label.now c.args.element all p = search rules in
    let f : Held = record { label = []; element = 0; moves = on } in
    let there = held_moves names entries p on c.index_mut-moves.ensures.value place.within f in
    let ready : list_any (is_that c.args.label.now c.args.element) (ready_pairs all) ≡ true =
    rw (← c.self.view_is) at c.requires.ready in
    let room : ltb (vec_len on) (vec_capacity on) ≡ true =
    ap (λ (m : MoveList). ltb (vec_len m) (vec_capacity m)) (sym there)
    ∙ ready_room c.args.label.now c.args.element all p f place.within place.alone ready in
    grind (arith, nat_tests)

-- a label that is ready on an element stands there
pub unreachable-requires : goal.unreachable-requires
unreachable-requires c =
    let all = all_held c.self.inside.labels.keys c.self.inside.moves.entries in
    let absent : HasNoPlace c.args.label.now c.args.element all = search rules in
    let unready = none_ready c.args.label.now c.args.element all absent.none in
    let ready : list_any (is_that c.args.label.now c.args.element) (ready_pairs all) ≡ true =
    rw (← c.self.view_is) at c.requires.ready in
    cc

-- and no other pair sees it
pub returns : goal.returns
returns c =
    let names = c.self.inside.labels.keys in
    let entries = c.self.inside.moves.entries in
    let all = all_held names entries in
    let l = c.args.label.now in
    let e = c.args.element in
    let p = c.in-Some.place in
    let on = c.index_mut-moves.result.now in
    let move = c.args.change in
    let place : IsPlaceOf l e all p = search rules in
    let write = writes names entries p c.push_reserved.new.self place.within in
    let there = held_moves names entries p on c.index_mut-moves.ensures.value place.within in
    let more : (f : Held) → write.held.moves.items ≡ (get_or all p f).moves.items ++ move ∷ [] =
    λ f. ap (λ (m : MoveList). m.items) write.written ∙ c.push_reserved.ensures.items
    ∙ ap (λ (m : MoveList). m.items ++ move ∷ []) (sym (there f)) in
    let adds : AddsLabelChange (marks_in all) (marks_in (set all p write.held)) (change_by l e move.row move.version) = record {
      pairs = added all l e p place move write.held write.same more;
      ready = λ k n other is. others_keep k n all p write.held place.within
          (λ f. sym (about_at all l e p place move.row move.version k n f) ∙ other) is;
    } in
    rw (← c.self.view_is) (subst (λ after. AddsLabelChange (marks_in all) (marks_in after) (change_by l e move.row move.version))
    (sym write.set) adds)
