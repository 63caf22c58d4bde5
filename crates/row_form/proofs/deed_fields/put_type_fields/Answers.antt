use Rattle.std.proofs.Common.{◌≡◌, ◌++◌, OnOk, sym, subst}
use Rattle.row_form.specs.Fields.{long}
use Rattle.row_form.specs.Spelled.{type_fields}
use Rattle.row_form.proofs.Joins.{then_three}
use Rattle.row_form.proofs.deed_fields.put_type_fields.Goals as goal

pub returns-in_ok-put_pair-in-Arrow : goal.returns-in_ok-put_pair-in-Arrow
returns-in_ok-put_pair-in-Arrow c =
    let s = c.in-Arrow in
    subst (λ d. OnOk c.put_long.result (c.put_long.new.out.items ≡ c.args.out.now.items ++ type_fields d)) (sym s.is)
    (then_three c.put_long.result c.args.out.now.items (long s.element) (long s.tail) (long s.head) _ _
    c.in_ok-put_pair-in-Arrow.ensures c.put_long.ensures)
