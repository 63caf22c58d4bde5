-- One wink after the other is looked at.
use Rattle.std.proofs.Common.{ℕ, ◌+◌, Bool, ◌||◌, List, drop, get_or, ap, sym, ◌∙◌}
use Rattle.std.proofs.lemmas.List.{at_drop_all, at_drop_more}
use Rattle.std.specs.List.{list_any}
use Rattle.cc_names.proofs.Common.{or_moved}
use Rattle.base_model.specs.Closures.{is_path_among}
use Rattle.view_lookup.specs.GivenNames.{is_name}
use Rattle.cleartool.specs.Owned.{winker_at}
use Rattle.cleartool.proofs.sets.holders.add_winkers.Goals as goal

pub loop-wink-preserved : goal.loop-wink-preserved
loop-wink-preserved c = λ q.
    let b = c.args.rows.now in
    let winks = c.args.winks.now in
    let i = c.loop-wink.wink-index in
    let old = c.loop-wink.views in
    let is : ℕ → Bool = λ n. is_name q (winker_at b n) in
    let more = list_any is (drop (i + 1) winks) in
    ap (λ among. more || among) (c.in_ok-add_name.ensures q ∙ ap (λ view. is_name q view || is_path_among q old.keys)
    c.winker_at.ensures)
    ∙ or_moved more (is (get_or winks i 0)) (is_path_among q old.keys)
    ∙ sym (at_drop_more (λ (left : List ℕ). list_any is left || is_path_among q old.keys) winks i 0 c.loop-wink-test.true)
    ∙ c.loop-wink.invariant q

pub returns : goal.returns
returns c = λ q.
    let is : ℕ → Bool = λ n. is_name q (winker_at c.args.rows.now n) in
    sym (at_drop_all (λ (left : List ℕ). list_any is left || is_path_among q c.loop-wink.views.keys) c.args.winks.now
    c.loop-wink.wink-index c.loop-wink-test.false)
    ∙ c.loop-wink.invariant q
