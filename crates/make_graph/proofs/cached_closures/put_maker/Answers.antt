use Rattle.std.proofs.Common.{refl, ◌<◌, length, arith}
use Rattle.std.proofs.lemmas.Option.{slice_get_read, slice_get_past}
use Rattle.make_graph.proofs.CachedLemmas.{put_two, put_none}
use Rattle.make_graph.proofs.cached_closures.put_maker.Goals as goal

pub add_all-requires : goal.add_all-requires
add_all-requires c =
    let within : c.args.maker < length c.args.sets.now = c.in-Some.ensures.lookup.3.0 in
    let is = slice_get_read c.args.sets.now (length c.args.sets.now) c.args.maker c.in-Some.other.now refl within
    c.in-Some.ensures.lookup.1 in
    let other = c.requires.rooms c.args.maker c.in-Some.other.now is in
    omega (arith, within, other, c.requires.room, c.add.ensures.room)

pub returns-in-Some-clause-marks : goal.returns-in-Some-clause-marks
returns-in-Some-clause-marks c n =
    let within : c.args.maker < length c.args.sets.now = c.in-Some.ensures.lookup.3.0 in
    let is = slice_get_read c.args.sets.now (length c.args.sets.now) c.args.maker c.in-Some.other.now refl within
    c.in-Some.ensures.lookup.1 in
    put_two n c.args.maker c.args.set.now c.add.new.self c.add_all.new.self c.in-Some.other.now c.args.sets.now
    (c.add.ensures.marks n) (c.add_all.ensures.marks n) is

pub returns-in_default-clause-marks : goal.returns-in_default-clause-marks
returns-in_default-clause-marks c n =
    put_none n c.args.maker c.args.set.now c.args.sets.now (slice_get_past c.args.sets.now c.args.maker
    c.in_default.ensures.lookup.3)
