-- A needed row is taken with the objects that its entries name.
use Rattle.std.proofs.Common.{◌||◌, true, cond, List, ap, sym, ◌∙◌}
use Rattle.std.specs.BTreeMap.{is_at}
use Rattle.std.specs.BTreeSet.{contains}
use Rattle.std.specs.Ordering.{nat_cmp}
use Rattle.std.specs.Prelude.{is_some}
use Rattle.std.proofs.lemmas.Bool.{or_parts}
use Rattle.cc_names.specs.declared.rows.ReadOf.{ReadOf}
use Rattle.base_model.specs.Changes.{live_row}
use Rattle.object_check.specs.Needed.{name_object}
use Rattle.object_check.proofs.Needing.{needs_more, needs_same}
use Rattle.object_check.proofs.needs.take_row.Goals as goal

pub returns-then-not-is_needed : goal.returns-then-not-is_needed
returns-then-not-is_needed c =
    let b = c.args.rows.now in
    let id = c.args.id in
    let old = contains nat_cmp c.args.needed.now in
    let none = or_parts (old id) (is_some (live_row b id)) (sym c.is_needed.ensures ∙ c.if-not-is_needed.true) in
    needs_same b id old c.requires none.0 none.1

pub returns : goal.returns
returns c =
    let b = c.args.rows.now in
    let id = c.args.id in
    let old = contains nat_cmp c.args.needed.now in
    needs_more b id old c.requires (contains nat_cmp c.add_objects_of_entries.new.needed) c.are_base.ensures
    (λ q. c.in_ok-add_objects_of_entries.ensures q
    ∙ ap (λ has. name_object b c.record_of.result.now q || has) (c.in_ok-insert.ensures.updates.0 q)
    ∙ ap (λ (entries : List ReadOf). name_object b entries q || cond (is_at (nat_cmp id) q) true (old q)) c.record_of.ensures)
