use Rattle.std.proofs.Common.{◌≡◌, ◌||◌, ℕ, List, drop}
use Rattle.std.specs.List.{list_any}
use Rattle.base_model.specs.Closures.{is_path_among}
use Rattle.view_lookup.specs.GivenNames.{is_name}
use Rattle.cleartool.specs.Owned.{winker_at}
use Rattle.cleartool.proofs.sets.holders.add_winkers.Given as goal

-- the views of the winks that are left, and those that were found
abbrev pub invariant-loop-wink : goal.invariant-loop-wink
invariant-loop-wink l =
    (view : List ℕ) → (list_any (λ n. is_name view (winker_at l.rows n)) (drop l.wink-index l.winks)
    || is_path_among view l.views.keys)
    ≡ (list_any (λ n. is_name view (winker_at l.rows n)) l.winks || is_path_among view l.initial.views.keys)
