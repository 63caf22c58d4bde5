-- A sort moves the places alone.
use Rattle.std.proofs.Common.{◌<◌, length, sym, ◌∙◌, rules}
use Rattle.std.specs.Cmp.Lexicographic.{nat_list_cmp_total, slice_cmp}
use Rattle.std.specs.Ordering.{is_lt, nat_cmp}
use Rattle.std.specs.Str.{bytes_eq}
use Rattle.std.proofs.lemmas.List.Sorted.{All-permutation, list_any-IsPermutation, ranks_by}
use Rattle.std.proofs.lemmas.Fn.{always_returns_same}
use Rattle.base_rows.specs.TargetOrders.{target_at}
use Rattle.base_rows.proofs.target_orders.ordered_places.Goals as goal

pub returns : goal.returns
returns c =
    let targets = c.args.targets.now in
    record {
      within = All-permutation (λ place. place < length targets) _ _ c.sort_unstable_by.ensures.permutation
          c.in_ok-places.ensures.within;
      all = λ path.
          sym (list_any-IsPermutation (λ place. bytes_eq path (target_at targets place)) _ _
          c.sort_unstable_by.ensures.permutation)
          ∙ c.in_ok-places.ensures.all path;
      ascend = c.sort_unstable_by.ensures.sorted
          (λ one two. is_lt (slice_cmp nat_cmp (target_at targets one) (target_at targets two)))
          (ranks_by nat_list_cmp_total (target_at targets))
          (always_returns_same _ _ _ (λ a r f called. search rules));
    }
