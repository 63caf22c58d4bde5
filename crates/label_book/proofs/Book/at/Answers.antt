use Rattle.std.proofs.Common.{sym, ap, ◌∙◌, rules}
use Rattle.cc_names.specs.Labels.{labels_of_first_rows, holder}
use Rattle.label_book.specs.Holding.{Held, MoveList, changes_by, all_held, IsPlaceOf, HasNoPlace}
use Rattle.label_book.proofs.Added.{holder_at, holder_nowhere}
use Rattle.label_book.proofs.Entries.{fall_at, held_moves}
use Rattle.label_book.proofs.Book.at.Goals as goal

-- the label never stood on the element
pub returns-in_err-place : goal.returns-in_err-place
returns-in_err-place c =
    let all = all_held c.self.inside.labels.keys c.self.inside.moves.entries in
    let absent : HasNoPlace c.args.label.now c.args.element all = search rules in
    c.from_residual.ensures ∙ sym (rw (← c.self.view_is) (holder_nowhere all c.args.label.now c.args.element c.args.rows absent))

-- its changes are in order
pub version_at-requires : goal.version_at-requires
version_at-requires c =
    let names = c.self.inside.labels.keys in
    let entries = c.self.inside.moves.entries in
    let place : IsPlaceOf c.args.label.now c.args.element (all_held names entries) c.in_ok-place.place = search rules in
    rw c.deref.ensures.value (fall_at names entries c.self.invariant c.in_ok-place.place c.index.result.now c.index.ensures
    place.within)

-- it is held where its own changes say
pub returns : goal.returns
returns c =
    let names = c.self.inside.labels.keys in
    let entries = c.self.inside.moves.entries in
    let all = all_held names entries in
    let l = c.args.label.now in
    let e = c.args.element in
    let place : IsPlaceOf l e all c.in_ok-place.place = search rules in
    let on = c.index.result.now in
    let f : Held = record { label = l; element = e; moves = on } in
    let there = held_moves names entries c.in_ok-place.place on c.index.ensures place.within f in
    rw (← c.self.view_is) (c.version_at.ensures l e
    ∙ ap (λ moves. holder (labels_of_first_rows c.args.rows (changes_by l e moves)) l e) c.deref.ensures.value
    ∙ sym (holder_at all l e c.in_ok-place.place place c.args.rows on.items f (ap (λ (m : MoveList). m.items) there)))
