-- An extent begins after those before it.
use Rattle.std.proofs.Common.{◌<◌, length, sym, arith}
use Rattle.std.proofs.lemmas.Bool.{ltb-true}
use Rattle.container_store.proofs.Fitting.{rest_of}
use Rattle.container_store.proofs.places.hole_before.Goals as goal

pub overflow_sub-result : goal.overflow_sub-result
overflow_sub-result c =
    let xs = c.args.taken.now in
    let at = c.args.at in
    let within : at < length xs = ltb-true at (length xs) (sym c.in-Some.ensures.lookup.0) in
    let rest = rest_of xs at c.in-Some.extent.now within c.in-Some.ensures.lookup.1 c.requires.in_place in
    omega (arith, rest.0, c.last_behind.ensures)
