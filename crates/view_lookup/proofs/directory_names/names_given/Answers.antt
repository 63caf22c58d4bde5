-- The rows that gave a name in the directory are looked at one after the other.
use Rattle.std.proofs.Common.{ℕ, ◌+◌, Bool, ◌||◌, List, drop, get_or, ap, sym, ◌∙◌, refl}
use Rattle.std.proofs.lemmas.List.{at_drop_all, at_drop_more}
use Rattle.std.specs.List.{list_any}
use Rattle.cc_names.proofs.Common.{or_moved}
use Rattle.base_model.specs.Closures.{is_path_among}
use Rattle.view_lookup.specs.GivenNames.{is_name, name_at}
use Rattle.view_lookup.proofs.GivenRows.{names_found}
use Rattle.view_lookup.proofs.directory_names.names_given.Goals as goal

pub loop-number-preserved : goal.loop-number-preserved
loop-number-preserved c = λ q.
    let b = c.args.rows.now in
    let numbers = c.deref-number-items.result.now in
    let i = c.loop-number.number-index in
    let old = c.loop-number.found in
    let is : ℕ → Bool = λ n. is_name q (name_at b n) in
    let more = list_any is (drop (i + 1) numbers) in
    ap (λ among. more || among) (c.in_ok-add_name.ensures q ∙ ap (λ name. is_name q name || is_path_among q old.keys)
    c.name_at.ensures)
    ∙ or_moved more (is (get_or numbers i 0)) (is_path_among q old.keys)
    ∙ sym (at_drop_more (λ (left : List ℕ). list_any is left || is_path_among q old.keys) numbers i 0 c.loop-number-test.true)
    ∙ c.loop-number.invariant q

pub returns : goal.returns
returns c = λ q.
    let b = c.args.rows.now in
    let is : ℕ → Bool = λ n. is_name q (name_at b n) in
    sym (at_drop_all (λ (left : List ℕ). list_any is left || is_path_among q c.loop-number.found.keys)
    c.deref-number-items.result.now c.loop-number.number-index c.loop-number-test.false)
    ∙ c.loop-number.invariant q
    ∙ ap (list_any is) (c.deref-number-items.ensures.value ∙ c.in_ok-numbers.ensures)
    ∙ names_found b c.args.directory q b (λ n low. refl)
