use Rattle.std.proofs.Common.{◌≡◌, ap, ◌∙◌, sym, subst, ℕ, ◌<◌, List, Bool, get_or, length, take, arith}
use Rattle.std.proofs.lemmas.List.{get_or-take}
use Rattle.std.specs.List.{list_any}
use Rattle.make_graph.specs.NumberSets.{AreClosures, HaveRooms, brings_marked, room_below}
use Rattle.make_graph.specs.Waits.{is_marked, makers_of, prerequisites_at}
use Rattle.make_graph.proofs.CachedLemmas.{closure_put, cached_within, room_put, maker_at}
use Rattle.make_graph.proofs.cached_closures.cached_closures.Goals as goal

pub loop-made_by-preserved : goal.loop-made_by-preserved
loop-made_by-preserved c =
    let units = c.args._units.now in
    let sets = c.loop-made_by.sets.items in
    let set = c.in_ok-set.set in
    let index = c.loop-made_by.made_by-index in
    let count : length sets ≡ index = c.loop-made_by.invariant.count in
    let lent : c.as_slice-in-loop-made_by.result.now ≡ sets = c.as_slice-in-loop-made_by.ensures.value in
    let most = c.min.result in
    let few : index < length (take most c.args.makers.now) = omega arith in
    let within : (index < most) × (index < length c.args.makers.now) = cached_within most index c.args.makers.now few in
    let item : c.made_by-item.result ≡ get_or c.args.makers.now index c.made_by-item.result =
    c.made_by-item.is ∙ get_or-take most c.args.makers.now index c.made_by-item.result within.0 in
    let made = c.as_slice.ensures ∙ (maker_at units c.args.makers.now index c.made_by-item.result c.requires within.1 item
    ∙ ap (λ k. makers_of units (prerequisites_at units k)) (sym count)) in
    let marks : (n : ℕ) → is_marked set n ≡ list_any (brings_marked sets n) c.as_slice.result.now =
    subst (λ (s : List (List Bool)). (n : ℕ) → is_marked set n ≡ list_any (brings_marked s n) c.as_slice.result.now) lent
    c.in_ok-set.ensures.marks in
    record {
      count = omega (arith, c.in_ok-push.ensures.len, count);
      rooms = subst HaveRooms (sym c.in_ok-push.ensures.items) (room_put sets set c.loop-made_by.invariant.rooms
          (c.in_ok-set.ensures.room ∙ ap (λ (s : List (List Bool)). room_below (length s)) lent));
      closures = subst (AreClosures units) (sym c.in_ok-push.ensures.items)
          (closure_put units sets set c.as_slice.result.now c.loop-made_by.invariant.closures made marks);
    }
