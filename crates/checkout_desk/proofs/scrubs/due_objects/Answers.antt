-- The rows are read from the oldest on.
use Rattle.std.proofs.Common.{ℕ, List, ap, sym, subst, ◌∙◌, arith}
use Rattle.std.specs.List.Sorted.{IsStrictlySortedBy}
use Rattle.std.specs.Ordering.{nat_cmp}
use Rattle.cc_names.specs.Formed.{IsListOf, IsLong}
use Rattle.base_model.specs.Rows.{row_at}
use Rattle.checkout_desk.proofs.DueRows.{all_read, due_formed, numbered_row}
use Rattle.checkout_desk.proofs.scrubs.due_objects.Goals as goal

pub is_due-requires : goal.is_due-requires
is_due-requires c =
    ap (λ n. row_at c.args.rows.now n) (omega arith)
    ∙ numbered_row c.args.rows.now c.as_slice-all.result.now c.loop-row.row-index c.row-item.result c.as_slice-all.ensures
    c.loop-row-test.true c.row-item.is

pub returns-clause-due_objects : goal.returns-clause-due_objects
returns-clause-due_objects c =
    all_read c.args.rows.now c.args.moment c.args.age c.loop-row.number c.loop-row.row-index c.as_slice-all.result.now
    c.loop-row.objects.items c.as_slice-all.ensures c.loop-row-test.false c.loop-row.invariant.found

pub returns-clause-formed : goal.returns-clause-formed
returns-clause-formed c =
    let b = c.args.rows.now in
    subst (λ (objects : List ℕ). IsListOf IsLong objects × IsStrictlySortedBy nat_cmp objects)
    (sym (all_read b c.args.moment c.args.age c.loop-row.number c.loop-row.row-index c.as_slice-all.result.now
    c.loop-row.objects.items c.as_slice-all.ensures c.loop-row-test.false c.loop-row.invariant.found))
    (due_formed b c.args.moment c.args.age (omega arith))
