-- The extent fits before the next one, or it is not free.
use Rattle.std.proofs.Common.{◌<◌, ◌≤◌, length, take, sym, arith, rules}
use Rattle.std.proofs.lemmas.Bool.{ltb-true}
use Rattle.container_store.specs.Places.{last_behind}
use Rattle.container_store.proofs.Fitting.{fits_free, fits_last, fits_before, blocked_prefix, blocked_back}
use Rattle.container_store.proofs.places.find_free.Goals as goal

pub returns-then-extent-last_behind-clause-free : goal.returns-then-extent-last_behind-clause-free
returns-then-extent-last_behind-clause-free c =
    let xs = c.args.taken.now in
    let at = c.count_extents_below-at.result in
    let e = c.args.extent in
    let lower : e.place < last_behind 0 (take at xs) = omega (arith, c.if-extent-last_behind.true, c.last_behind.ensures) in
    sym (blocked_prefix xs at e c.requires.in_place c.count_extents_below-at.ensures.below c.requires.some lower)

pub returns-in-Some-clause-free : goal.returns-in-Some-clause-free
returns-in-Some-clause-free c =
    let xs = c.args.taken.now in
    let at = c.count_extents_below-at.result in
    let e = c.args.extent in
    let next = c.in-Some.next.now in
    let within : at < length xs = ltb-true at (length xs) (sym c.in-Some.ensures.lookup.0) in
    sym (blocked_back xs at e c.requires.in_place c.count_extents_below-at.ensures.below next within c.in-Some.ensures.lookup.1
    c.requires.some c.if-next-extent.true)

pub returns-in_default-clause-free : goal.returns-in_default-clause-free
returns-in_default-clause-free c =
    let xs = c.args.taken.now in
    let at = c.count_extents_below-at.result in
    let e = c.args.extent in
    let next = c.in-Some.next.now in
    let within : at < length xs = ltb-true at (length xs) (sym c.in-Some.ensures.lookup.0) in
    let prefix : last_behind 0 (take at xs) ≤ e.place = omega (arith, c.if-extent-last_behind.false, c.last_behind.ensures) in
    sym (fits_free xs at e c.requires.in_place
    (fits_before xs at e next within c.in-Some.ensures.lookup.1 c.requires.in_place prefix c.if-next-extent.false))

pub returns-in_default-clause-at : goal.returns-in_default-clause-at
returns-in_default-clause-at c =
    let xs = c.args.taken.now in
    let at = c.count_extents_below-at.result in
    let e = c.args.extent in
    let next = c.in-Some.next.now in
    let within : at < length xs = ltb-true at (length xs) (sym c.in-Some.ensures.lookup.0) in
    let prefix : last_behind 0 (take at xs) ≤ e.place = omega (arith, c.if-extent-last_behind.false, c.last_behind.ensures) in
    fits_before xs at e next within c.in-Some.ensures.lookup.1 c.requires.in_place prefix c.if-next-extent.false

pub returns-in_default-2-clause-free : goal.returns-in_default-2-clause-free
returns-in_default-2-clause-free c =
    let xs = c.args.taken.now in
    let at = c.count_extents_below-at.result in
    let e = c.args.extent in
    let prefix : last_behind 0 (take at xs) ≤ e.place = omega (arith, c.if-extent-last_behind.false, c.last_behind.ensures) in
    let past : length xs ≤ at = search rules in
    sym (fits_free xs at e c.requires.in_place (fits_last xs at e c.count_extents_below-at.ensures.within past prefix))
