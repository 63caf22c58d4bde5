-- The rows that gave the view something are looked at one after the other.
use Rattle.std.proofs.Common.{◌≡◌, ℕ, ◌+◌, true, false, ◌||◌, List, drop, get_or, refl, ap, sym, ◌∙◌}
use Rattle.std.proofs.lemmas.List.{at_drop_all, at_drop_more}
use Rattle.std.specs.List.{list_any}
use Rattle.cc_names.specs.Formed.{IsBelowRoot}
use Rattle.cc_names.proofs.Common.{or_moved}
use Rattle.base_model.specs.Closures.{is_path_among}
use Rattle.cleartool.specs.Owned.{is_given_by}
use Rattle.cleartool.proofs.GivenPaths.{paths_found}
use Rattle.cleartool.proofs.sets.owned_paths.paths_owned.Goals as goal

pub loop-number-preserved : goal.loop-number-preserved
loop-number-preserved c =
    let b = c.args.rows.now in
    let numbers = c.deref-number-items.result.now in
    let i = c.loop-number.number-index in
    let old = c.loop-number.found in
    let n = get_or numbers i 0 in
    record {
      found = λ q.
          let more = list_any (is_given_by b q) (drop (i + 1) numbers) in
          ap (λ among. more || among) (c.in_ok-add_paths_of_row.ensures.found q)
          ∙ or_moved more (is_given_by b q n) (is_path_among q old.keys)
          ∙ sym (at_drop_more (λ (left : List ℕ). list_any (is_given_by b q) left || is_path_among q old.keys) numbers i 0
          c.loop-number-test.true)
          ∙ c.loop-number.invariant.found q;
      below = λ q among none.
          let left : list_any (is_given_by b q) (drop i numbers) ≡ (is_given_by b q n
          || list_any (is_given_by b q) (drop (i + 1) numbers)) = at_drop_more (list_any (is_given_by b q)) numbers i 0
          c.loop-number-test.true in
          elim (is_given_by b q n) as (λ t. is_given_by b q n ≡ t → IsBelowRoot q) [
            | true ↦ λ e. c.in_ok-add_paths_of_row.ensures.below q e
            | false ↦ λ e. c.loop-number.invariant.below q among (left
                ∙ ap (λ t. t || list_any (is_given_by b q) (drop (i + 1) numbers)) e ∙ none)
          ] refl;
    }

pub returns : goal.returns
returns c =
    let b = c.args.rows.now in
    let v = c.args.view.now in
    let numbers = c.deref-number-items.result.now in
    let same = c.deref-number-items.ensures.value ∙ c.in_ok-numbers.ensures in
    record {
      found = λ q.
          sym (at_drop_all (λ (left : List ℕ). list_any (is_given_by b q) left || is_path_among q c.loop-number.found.keys)
          numbers c.loop-number.number-index c.loop-number-test.false)
          ∙ c.loop-number.invariant.found q
          ∙ ap (list_any (is_given_by b q)) same
          ∙ paths_found b v q b (λ n low. refl);
      below = λ q given.
          c.loop-number.invariant.below q
          (ap (list_any (is_given_by b q)) same ∙ paths_found b v q b (λ n low. refl) ∙ given)
          (at_drop_all (list_any (is_given_by b q)) numbers c.loop-number.number-index c.loop-number-test.false);
    }
