-- The walk from one extent to the next.
use Rattle.std.proofs.Common.{ℕ, ◌+◌, ◌<◌, length, get_or, take, sym, subst, arith}
use Rattle.container_store.specs.Extents.{extent_at}
use Rattle.container_store.specs.Places.{HasNoLonger}
use Rattle.container_store.proofs.Fitting.{end_within, itself, last_more, rest_of}
use Rattle.container_store.proofs.Walking.{walk_holes, walk_found}
use Rattle.container_store.proofs.places.first_hole.Goals as goal

pub overflow_sub-hole : goal.overflow_sub-hole
overflow_sub-hole c =
    let xs = c.args.taken.now in
    let at = c.loop-at.at in
    let e = get_or xs at (extent_at 0 0) in
    let within : at < length xs = c.loop-at-test.true in
    let is = itself xs at (extent_at 0 0) within in
    let rest = rest_of xs at e within is c.requires.in_place in
    omega (arith, rest.0, c.loop-at.invariant.0)

pub returns-then-length-hole : goal.returns-then-length-hole
returns-then-length-hole c =
    let xs = c.args.taken.now in
    let at = c.loop-at.at in
    let e = get_or xs at (extent_at 0 0) in
    let within : at < length xs = c.loop-at-test.true in
    let is = itself xs at (extent_at 0 0) within in
    let inv = c.loop-at.invariant in
    walk_found xs at e c.loop-at.from c.loop-at.longest within is inv.0 inv.1 c.args.length c.requires.in_place inv.2
    c.if-length-hole.true

pub overflow_add-from : goal.overflow_add-from
overflow_add-from c =
    let xs = c.args.taken.now in
    let at = c.loop-at.at in
    let e = get_or xs at (extent_at 0 0) in
    let within : at < length xs = c.loop-at-test.true in
    let is = itself xs at (extent_at 0 0) within in
    omega (arith, end_within xs at e within is, c.requires.fits)

pub loop-at-preserved : goal.loop-at-preserved
loop-at-preserved c =
    let xs = c.args.taken.now in
    let at = c.loop-at.at in
    let e = get_or xs at (extent_at 0 0) in
    let within : at < length xs = c.loop-at-test.true in
    let is = itself xs at (extent_at 0 0) within in
    let inv = c.loop-at.invariant in (
      last_more xs at e within is,
      subst (λ (m : ℕ). HasNoLonger m 0 (take (at + 1) xs)) (sym c.max-longest.ensures)
          (walk_holes xs at e c.loop-at.from c.loop-at.longest within is inv.0 inv.1),
      omega (arith, c.max-longest.ensures, inv.2, c.if-length-hole.false),
    )
