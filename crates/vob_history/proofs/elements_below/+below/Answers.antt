-- The element at a path is found there, and what lies below it by the names that were given in it.
use Rattle.std.proofs.Common.{◌≡◌, ℕ, zero, suc, ◌-◌, true, Some, cond, List, refl, ap, sym, ◌∙◌, arith}
use Rattle.std.specs.Prelude.{is_some}
use Rattle.std.specs.BTreeMap.{get, is_at}
use Rattle.std.specs.Cmp.Lexicographic.{slice_cmp}
use Rattle.std.specs.List.{list_any}
use Rattle.std.specs.Ordering.{nat_cmp}
use Rattle.cc_names.specs.declared.selection.Seen.{Seen}
use Rattle.base_model.specs.Catalogs.{element_named}
use Rattle.base_model.specs.Closures.{is_path_among}
use Rattle.vob_history.specs.ElementsBelow.{is_element, lies_below, seen_where}
use Rattle.vob_history.proofs.CatalogsGiven.{names_given}
use Rattle.vob_history.proofs.ElementsBelow.{all_put_in, catalog_at, lies_named, one_put_in, put_in}
use Rattle.vob_history.proofs.elements_below.+below.Goals as goal

pub add_elements-loop-name-preserved : goal.add_elements-loop-name-preserved
add_elements-loop-name-preserved t c = λ q.
    let b = c.args.rows.now in
    let v = c.args.view.now in
    let path = c.args.path.now in
    let depth = c.args.depth - 1 in
    let old = get (slice_cmp nat_cmp) c.loop-name.found q in
    one_put_in b v depth path c.in-Some.name.now q c.next.new.self old (get (slice_cmp nat_cmp) c.add_named.new.found q)
    c.in_ok-copy.ensures.path c.in_ok-add_named.ensures.name (c.in_ok-add_named.ensures.found q)
    ∙ ap (λ (left : List (List ℕ)). seen_where (list_any (lies_named b v depth path q) left) b v q old)
    (sym c.in-Some.ensures.steps)
    ∙ c.loop-name.invariant q

deeper : (depth : ℕ) → (depth ≡ 0 → ⊥) → suc (depth - 1) ≡ depth
deeper zero above = absurd (above refl)
deeper (suc depth) above = omega arith

pub add_elements-returns : goal.add_elements-returns
add_elements-returns t c = λ q.
    let b = c.args.rows.now in
    let v = c.args.view.now in
    let path = c.args.path.now in
    let depth = c.args.depth - 1 in
    let names = c.into_iter-name-iterator.result in
    let old = get (slice_cmp nat_cmp) c.args.found.now q in
    let inserted = get (slice_cmp nat_cmp) c.insert.new.self q in
    let found = get (slice_cmp nat_cmp) c.loop-name.found q in
    let given : (name : List ℕ) → is_some (element_named name (catalog_at b v path)) ≡ true → is_path_among name names ≡ true =
    λ name is.
    ap (is_path_among name) c.into_iter-name-iterator.ensures.into_iter_gives.0
    ∙ c.in_ok-names.ensures name
    ∙ names_given b v path c.in-Element.element c.in-Element.field-1 c.are_base.ensures (sym c.at-seen.ensures
    ∙ c.in-Element.is) name is in
    all_put_in b v depth path q names (ap is_element (sym c.at-seen.ensures ∙ c.in-Element.is)) given old inserted found
    (c.in_ok-insert.ensures.updates.0 q
    ∙ ap (λ (seen : Seen). cond (is_at (slice_cmp nat_cmp c.in_ok-copy.field-0) q) (Some seen) old) (sym c.in-Element.is
    ∙ c.at-seen.ensures)
    ∙ put_in b v path c.in_ok-copy.field-0 q old c.in_ok-copy.ensures.copy)
    (sym (ap (λ (left : List (List ℕ)). seen_where (list_any (lies_named b v depth path q) left) b v q found)
    c.in-None.ensures.steps.0) ∙ c.loop-name.invariant q)
    ∙ ap (λ levels. seen_where (lies_below levels b v path q) b v q old) (deeper c.args.depth c.if-depth-eq0.false)
