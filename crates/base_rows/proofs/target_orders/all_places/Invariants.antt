-- The places so far are those of the first targets.
use Rattle.std.proofs.Common.{◌≡◌, ℕ, ◌<◌, List, length, take}
use Rattle.std.specs.List.{All, list_any}
use Rattle.std.specs.Str.{bytes_eq}
use Rattle.base_model.specs.Closures.{is_path_among}
use Rattle.base_rows.specs.TargetOrders.{target_at}
use Rattle.base_rows.proofs.target_orders.all_places.Given as goal

abbrev pub invariant-loop-place : goal.invariant-loop-place
invariant-loop-place l = record {
  all : (path : List ℕ) → list_any (λ place. bytes_eq path (target_at l.targets place)) l.places.items
      ≡ is_path_among path (take l.place l.targets);
  within : All (λ place. place < length l.targets) l.places.items;
}
