-- One place after the other is that of the next target.
use Rattle.std.proofs.Common.{ℕ, ◌<◌, length, ap, ◌∙◌}
use Rattle.std.proofs.lemmas.List.{take_all}
use Rattle.std.proofs.lemmas.List.Elements.{All-nil, All-push, All-same}
use Rattle.std.specs.List.{list_any}
use Rattle.std.specs.Str.{bytes_eq}
use Rattle.base_model.specs.Closures.{is_path_among}
use Rattle.base_rows.specs.TargetOrders.{target_at}
use Rattle.base_rows.proofs.TargetOrders.{one_more}
use Rattle.base_rows.proofs.target_orders.all_places.Goals as goal

pub loop-place-init : goal.loop-place-init
loop-place-init c = record {
  all = λ path. ap (list_any (λ place. bytes_eq path (target_at c.args.targets.now place))) c.in_ok-places.ensures.items;
  within = All-same (λ place. place < length c.args.targets.now) _ _ c.in_ok-places.ensures.items (All-nil _);
}

pub loop-place-preserved : goal.loop-place-preserved
loop-place-preserved c = record {
  all = λ path.
      ap (list_any (λ place. bytes_eq path (target_at c.args.targets.now place))) c.in_ok-push.ensures.items
      ∙ one_more c.args.targets.now c.loop-place.places.items c.loop-place.place path c.loop-place-test.true
      (c.loop-place.invariant.all path);
  within =
      let is_low : ℕ → Type 0 = λ place. place < length c.args.targets.now in
      All-same is_low _ _ c.in_ok-push.ensures.items (All-push is_low _ _ c.loop-place.invariant.within c.loop-place-test.true);
}

pub returns-clause-all : goal.returns-clause-all
returns-clause-all c = λ path. c.loop-place.invariant.all path
    ∙ ap (is_path_among path) (take_all c.loop-place.place c.args.targets.now c.loop-place-test.false)
