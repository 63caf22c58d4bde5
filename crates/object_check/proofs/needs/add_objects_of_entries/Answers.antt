-- One entry after the other is added.
use Rattle.std.proofs.Common.{◌+◌, ◌||◌, List, ◌∷◌, drop, ap, sym, ◌∙◌}
use Rattle.std.proofs.lemmas.List.{at_drop_all, at_drop_more}
use Rattle.std.specs.BTreeSet.{contains}
use Rattle.std.specs.Ordering.{nat_cmp}
use Rattle.cc_names.specs.declared.rows.ReadOf.{ReadOf}
use Rattle.cc_names.proofs.Common.{or_moved}
use Rattle.object_check.specs.Needed.{is_object_of, name_object}
use Rattle.object_check.proofs.needs.add_objects_of_entries.Goals as goal

pub loop-entry-preserved : goal.loop-entry-preserved
loop-entry-preserved c = λ q.
    let b = c.args.rows.now in
    let entries = c.args.entries.now in
    let i = c.loop-entry.entry-index in
    let entry = c.entry-item.result in
    let more = name_object b (drop (i + 1) entries) q in
    let old = contains nat_cmp c.loop-entry.needed q in
    ap (λ has. more || has) (c.in_ok-add_object_of_entry.ensures q)
    ∙ or_moved more (is_object_of b q entry) old
    ∙ ap (λ (one : ReadOf). name_object b (one ∷ drop (i + 1) entries) q || old) c.entry-item.is
    ∙ sym (at_drop_more (λ (left : List ReadOf). name_object b left q || old) entries i entry c.loop-entry-test.true)
    ∙ c.loop-entry.invariant q

pub returns : goal.returns
returns c = λ q.
    let b = c.args.rows.now in
    sym (at_drop_all (λ (left : List ReadOf). name_object b left q || contains nat_cmp c.loop-entry.needed q) c.args.entries.now
    c.loop-entry.entry-index c.loop-entry-test.false)
    ∙ c.loop-entry.invariant q
