use Rattle.std.proofs.Common.{◌≡◌, true, ltb, vec_len, vec_capacity, get_or, sym, ap, subst, ◌∙◌, arith, rules}
use Rattle.std.specs.List.{list_any}
use Rattle.std.proofs.lemmas.Bool.Decides.{nat_tests}
use Rattle.std.proofs.lemmas.Grind.{common_steps}
use Rattle.label_book.specs.Marks.{is_that}
use Rattle.label_book.specs.Holding.{MovesByPlace, MoveList, all_held, held_among, is_pair, ready_pairs, IsPlaceOf, HasNoPlace}
use Rattle.label_book.proofs.Added.{same_pair}
use Rattle.label_book.proofs.Entries.{held_grown, held_push, step_grown, step_listed, step_push, step_same, writes}
use Rattle.label_book.proofs.Found.{no_key}
use Rattle.label_book.proofs.StoredMoves.{stored_set, stored_grown, stored_push}
use Rattle.label_book.proofs.Newest.{is_itself}
use Rattle.label_book.proofs.Ready.{has_room, set_ready, push_ready}
use Rattle.label_book.proofs.Book.reserve_one.Goals as goal

-- the label keeps its changes on the element
pub invariant_of-self : goal.invariant_of-self
invariant_of-self c =
    let names = c.self.inside.labels.keys in
    let entries = c.self.inside.moves.entries in
    let place : IsPlaceOf c.args.label.now c.args.element (all_held names entries) c.in-Some.place = search rules in
    step_same names entries c.self.invariant c.in-Some.place c.index_mut-moves.result.now c.reserve.new.self
    c.index_mut-moves.ensures.value place.within c.reserve.ensures.items

pub invariant_of-self-in-Some : goal.invariant_of-self-in-Some
invariant_of-self-in-Some c =
    let names = c.self.inside.labels.keys in
    let entries = c.self.inside.moves.entries in
    let place : IsPlaceOf c.args.label.now c.args.element (all_held names entries) c.in-Some.place = search rules in
    step_same names entries c.self.invariant c.in-Some.place c.index_mut-moves.result.now c.reserve.new.self
    c.index_mut-moves.ensures.value place.within c.reserve.ensures.items

pub returns-in_err-reserve-clause-kept : goal.returns-in_err-reserve-clause-kept
returns-in_err-reserve-clause-kept c =
    let names = c.self.inside.labels.keys in
    let entries = c.self.inside.moves.entries in
    let place : IsPlaceOf c.args.label.now c.args.element (all_held names entries) c.in-Some.place = search rules in
    rw (← c.self.view_is)
    (stored_set names entries c.in-Some.place c.index_mut-moves.result.now c.reserve.new.self place.within
    c.index_mut-moves.ensures.value c.reserve.ensures.items c.reserve.ensures.len c.reserve.ensures.capacity)

pub returns-in-Some-clause-kept : goal.returns-in-Some-clause-kept
returns-in-Some-clause-kept c =
    let names = c.self.inside.labels.keys in
    let entries = c.self.inside.moves.entries in
    let place : IsPlaceOf c.args.label.now c.args.element (all_held names entries) c.in-Some.place = search rules in
    rw (← c.self.view_is)
    (stored_set names entries c.in-Some.place c.index_mut-moves.result.now c.reserve.new.self place.within
    c.index_mut-moves.ensures.value c.reserve.ensures.items c.reserve.ensures.len c.reserve.ensures.capacity)

-- it has room there
pub returns-in-Some-clause-ready : goal.returns-in-Some-clause-ready
returns-in-Some-clause-ready c =
    let names = c.self.inside.labels.keys in
    let entries = c.self.inside.moves.entries in
    let all = all_held names entries in
    let p = c.in-Some.place in
    let l = c.args.label.now in
    let e = c.args.element in
    let place : IsPlaceOf l e all p = search rules in
    let write = writes names entries p c.reserve.new.self place.within in
    let roomy : ltb (vec_len c.reserve.new.self) (vec_capacity c.reserve.new.self) ≡ true =
    grind (arith, nat_tests, common_steps, c.reserve.ensures.ok, c.in_ok-reserve.was) in
    let room : has_room write.held ≡ true = ap (λ (m : MoveList). ltb (vec_len m) (vec_capacity m)) write.written ∙ roomy in
    subst (λ after. list_any (is_that l e) (ready_pairs after) ≡ true) (sym write.set)
    (set_ready l e all p write.held place.within (same_pair l e write.held (get_or all p write.held) (write.same write.held)
    ∙ place.is write.held) room)

-- a label may be new, while no change is
pub returns-in_err-label-clause-kept : goal.returns-in_err-label-clause-kept
returns-in_err-label-clause-kept c =
    rw (← c.self.view_is) (stored_grown c.self.inside.labels.keys c.place_of_label.new.labels.keys c.self.inside.moves.entries
    c.place_of_label.ensures.grown c.self.invariant.named)

pub returns-in_err-put_last-clause-kept : goal.returns-in_err-put_last-clause-kept
returns-in_err-put_last-clause-kept c =
    rw (← c.self.view_is, c.in_err-put_last.ensures.unchanged)
    (stored_grown c.self.inside.labels.keys c.place_of_label.new.labels.keys c.self.inside.moves.entries
    c.place_of_label.ensures.grown c.self.invariant.named)

-- nor where the element has the label already
pub invariant_of-self-in_err-list_label : goal.invariant_of-self-in_err-list_label
invariant_of-self-in_err-list_label c =
    let names = c.self.inside.labels.keys in
    let entries = c.self.inside.moves.entries in
    let more = c.place_of_label.new.labels.keys in
    step_listed more entries
    (step_grown names entries c.self.invariant more c.place_of_label.ensures.grown c.place_of_label.ensures.apart)
    c.list_label.new.lists.entries c.list_label.ensures.kept

pub returns-in_err-list_label-clause-kept : goal.returns-in_err-list_label-clause-kept
returns-in_err-list_label-clause-kept c =
    rw (← c.self.view_is) (stored_grown c.self.inside.labels.keys c.place_of_label.new.labels.keys c.self.inside.moves.entries
    c.place_of_label.ensures.grown c.self.invariant.named)

pub invariant_of-self-in_err-put_last : goal.invariant_of-self-in_err-put_last
invariant_of-self-in_err-put_last c =
    let names = c.self.inside.labels.keys in
    let entries = c.self.inside.moves.entries in
    let more = c.place_of_label.new.labels.keys in
    rw c.in_err-put_last.ensures.unchanged
    (step_listed more entries
    (step_grown names entries c.self.invariant more c.place_of_label.ensures.grown c.place_of_label.ensures.apart)
    c.list_label.new.lists.entries c.list_label.ensures.kept)

pub invariant_of-self-2 : goal.invariant_of-self-2
invariant_of-self-2 c =
    let names = c.self.inside.labels.keys in
    let entries = c.self.inside.moves.entries in
    let more = c.place_of_label.new.labels.keys in
    let entry : MovesByPlace = (record { label = c.in_ok-label.label; element = c.args.element }, c.in_ok-moves.moves) in
    rw c.in_ok-put_last.ensures.put
    (step_push more entries
    (step_listed more entries
    (step_grown names entries c.self.invariant more c.place_of_label.ensures.grown c.place_of_label.ensures.apart)
    c.list_label.new.lists.entries c.list_label.ensures.kept)
    entry c.in_ok-label.ensures.place.within c.in_ok-moves.ensures.items c.in_ok-list_label.ensures.listed)

-- what stands nowhere has no key
pub put_last-requires : goal.put_last-requires
put_last-requires c =
    let names = c.self.inside.labels.keys in
    let entries = c.self.inside.moves.entries in
    let more = c.place_of_label.new.labels.keys in
    let l = c.args.label.now in
    let e = c.args.element in
    let absent : HasNoPlace l e (all_held names entries) = search rules in
    let still : HasNoPlace l e (all_held more entries) = subst (HasNoPlace l e)
    (sym (held_grown names more entries c.place_of_label.ensures.grown c.self.invariant.named)) absent in
    let step = step_grown names entries c.self.invariant more c.place_of_label.ensures.grown c.place_of_label.ensures.apart in
    no_key more step.apart entries step.named l e c.in_ok-label.label c.in_ok-label.ensures.place still

-- the label has no change yet on the element
pub returns-clause-kept : goal.returns-clause-kept
returns-clause-kept c =
    let entry : MovesByPlace = (record { label = c.in_ok-label.label; element = c.args.element }, c.in_ok-moves.moves) in
    rw (← c.self.view_is, c.in_ok-put_last.ensures.put)
    (stored_push c.self.inside.labels.keys c.place_of_label.new.labels.keys c.self.inside.moves.entries entry
    c.place_of_label.ensures.grown c.self.invariant.named c.in_ok-moves.ensures.items)

pub returns-clause-ready : goal.returns-clause-ready
returns-clause-ready c =
    let l = c.args.label.now in
    let e = c.args.element in
    let entries = c.self.inside.moves.entries in
    let more = c.place_of_label.new.labels.keys in
    let entry : MovesByPlace = (record { label = c.in_ok-label.label; element = e }, c.in_ok-moves.moves) in
    let held = held_among more entry in
    let room : has_room held ≡ true = grind (
      arith,
      nat_tests,
      common_steps,
      c.in_ok-moves.ensures.len,
      c.in_ok-moves.ensures.capacity,
    ) in
    let is : is_pair l e held ≡ true = rw c.in_ok-label.ensures.place.is (is_itself l e) in
    rw c.in_ok-put_last.ensures.put (rw (held_push more entries entry) (push_ready l e (all_held more entries) held is room))
