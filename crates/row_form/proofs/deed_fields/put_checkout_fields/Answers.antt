use Rattle.std.proofs.Common.{◌≡◌, ◌++◌, OnOk, sym, subst}
use Rattle.row_form.specs.Fields.{long, text, flag, out_byte}
use Rattle.row_form.specs.Spelled.{checkout_fields}
use Rattle.row_form.proofs.Joins.{then_three, three_then_one, three_then_two}
use Rattle.row_form.proofs.deed_fields.put_checkout_fields.Goals as goal

pub returns-in_ok-put_three-in-Checkout : goal.returns-in_ok-put_three-in-Checkout
returns-in_ok-put_three-in-Checkout c =
    let s = c.in-Checkout in
    subst (λ d. OnOk c.put_flag.result (c.put_flag.new.out.items ≡ c.args.out.now.items ++ checkout_fields d)) (sym s.is)
    (three_then_one c.put_flag.result c.args.out.now.items (text s.view) (long s.element) (long s.origin) (flag s.reserved) _ _
    c.in_ok-put_three-in-Checkout.ensures c.put_flag.ensures)

pub returns-in_ok-put_name-in-Branch : goal.returns-in_ok-put_name-in-Branch
returns-in_ok-put_name-in-Branch c =
    let s = c.in-Branch in
    subst (λ d. OnOk c.put_out.result (c.put_out.new.out.items ≡ c.args.out.now.items ++ checkout_fields d)) (sym s.is)
    (three_then_two c.put_out.result c.args.out.now.items (text s.view) (long s.element) (long s.origin) (text s.name)
    (out_byte s.how) _ _ _ c.in_ok-put_three-in-Branch.ensures c.in_ok-put_name-in-Branch.ensures c.put_out.ensures)

pub returns-in_ok-put_two-in-Save : goal.returns-in_ok-put_two-in-Save
returns-in_ok-put_two-in-Save c =
    let s = c.in-Save in
    subst (λ d. OnOk c.put_body.result (c.put_body.new.out.items ≡ c.args.out.now.items ++ checkout_fields d)) (sym s.is)
    (then_three c.put_body.result c.args.out.now.items (text s.view) (long s.element) (text s.text) _ _
    c.in_ok-put_two-in-Save.ensures c.put_body.ensures)
