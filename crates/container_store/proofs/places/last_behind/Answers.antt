-- The extent before the index is the last of them.
use Rattle.std.proofs.Common.{◌≡◌, ℕ, ◌+◌, ◌-◌, ◌<◌, length, get_or, take, subst, arith}
use Rattle.container_store.specs.Extents.{extent_at}
use Rattle.container_store.specs.Places.{last_behind}
use Rattle.container_store.proofs.Fitting.{end_within, itself, last_more}
use Rattle.container_store.proofs.places.last_behind.Goals as goal

pub overflow_add-result : goal.overflow_add-result
overflow_add-result c =
    let xs = c.args.taken.now in
    let at = c.args.count - 1 in
    let within : at < length xs = omega arith in
    omega (arith, end_within xs at (get_or xs at (extent_at 0 0)) within (itself xs at (extent_at 0 0) within), c.requires.fits)

pub returns : goal.returns
returns c =
    let xs = c.args.taken.now in
    let at = c.args.count - 1 in
    let within : at < length xs = omega arith in
    let e = get_or xs at (extent_at 0 0) in
    let count : at + 1 ≡ c.args.count = omega arith in
    subst (λ (n : ℕ). e.place + e.length ≡ last_behind 0 (take n xs)) count
    (last_more xs at e within (itself xs at (extent_at 0 0) within))
