-- The tail of one arrow after the other is added.
use Rattle.std.proofs.Common.{ℕ, ◌+◌, Bool, false, ◌||◌, List, drop, ap, sym, ◌∙◌, refl}
use Rattle.std.proofs.lemmas.List.{at_drop_all, at_drop_more}
use Rattle.std.specs.List.{list_any}
use Rattle.cc_names.specs.Versions.{is_number}
use Rattle.legal_history.specs.Queries.Merges.{is_arrow_between}
use Rattle.vob_history.specs.Reached.{arrow_source_at}
use Rattle.vob_history.proofs.ArrowTails.{tails_found}
use Rattle.vob_history.proofs.AddedVersions.{alike, both_taken, none_taken}
use Rattle.vob_history.proofs.reached.Walk.add_arrow_sources.Goals as goal

pub loop-arrow-preserved : goal.loop-arrow-preserved
loop-arrow-preserved c = λ next more.
    let b = c.args.rows.now in
    let arrows = c.deref-arrow-items.result.now in
    let i = c.loop-arrow.arrow-index in
    let tails : List ℕ → ℕ → Bool = λ rows n. list_any (λ row. is_number n (arrow_source_at b row)) rows in
    let here : ℕ → Bool = λ n. is_number n c.arrow_source_at.result in
    c.loop-arrow.invariant next
    (alike (λ n. here n || tails (drop (i + 1) arrows) n) (tails (drop i arrows)) c.loop-arrow.self next
    (λ n.
    ap (λ tail. is_number n tail || tails (drop (i + 1) arrows) n) c.arrow_source_at.ensures
    ∙ sym (at_drop_more (λ (left : List ℕ). tails left n) arrows i 0 c.loop-arrow-test.true))
    (both_taken here (tails (drop (i + 1) arrows)) c.loop-arrow.self c.take.new.self next c.in_ok-take.ensures more))

pub returns : goal.returns
returns c =
    let b = c.args.rows.now in
    let arrows = c.deref-arrow-items.result.now in
    let i = c.loop-arrow.arrow-index in
    let walk = c.loop-arrow.self in
    let tails : List ℕ → ℕ → Bool = λ rows n. list_any (λ row. is_number n (arrow_source_at b row)) rows in
    alike (tails arrows) (λ n. is_arrow_between b n c.args.version) c.args.self.now walk
    (λ n. ap (λ (rows : List ℕ). tails rows n) (c.deref-arrow-items.ensures.value ∙ c.in_ok-arrows.ensures)
    ∙ tails_found b n c.args.version b (λ m low. refl))
    (c.loop-arrow.invariant walk
    (alike (λ n. false) (tails (drop i arrows)) walk walk (λ n. sym (at_drop_all (λ (left : List ℕ). tails left n) arrows i
    c.loop-arrow-test.false)) (none_taken walk)))
