use Rattle.std.proofs.Common.{◌≡◌, ◌++◌, OnOk, sym, subst}
use Rattle.row_form.specs.Fields.{long, text, flag, kind}
use Rattle.row_form.specs.Spelled.{directory_fields}
use Rattle.row_form.proofs.Joins.{then_three, then_four, then_five}
use Rattle.row_form.proofs.deed_fields.put_directory_fields.Goals as goal

pub returns-in_ok-put_kind-in-Mkelem : goal.returns-in_ok-put_kind-in-Mkelem
returns-in_ok-put_kind-in-Mkelem c =
    let s = c.in-Mkelem in
    subst (λ d. OnOk c.put_flag.result (c.put_flag.new.out.items ≡ c.args.out.now.items ++ directory_fields d)) (sym s.is)
    (then_five c.put_flag.result c.args.out.now.items (text s.view) (long s.directory) (text s.name) (kind s.kind) (flag s.is_out)
    _ _ _ _ c.in_ok-put_two-in-Mkelem.ensures c.in_ok-put_name-in-Mkelem.ensures c.in_ok-put_kind-in-Mkelem.ensures
    c.put_flag.ensures)

pub returns-in_ok-put_two-in-Rmname : goal.returns-in_ok-put_two-in-Rmname
returns-in_ok-put_two-in-Rmname c =
    let s = c.in-Rmname in
    subst (λ d. OnOk c.put_name-in-Rmname.result (c.put_name-in-Rmname.new.out.items ≡ c.args.out.now.items
    ++ directory_fields d)) (sym s.is)
    (then_three c.put_name-in-Rmname.result c.args.out.now.items (text s.view) (long s.directory) (text s.name) _ _
    c.in_ok-put_two-in-Rmname.ensures c.put_name-in-Rmname.ensures)

pub returns-in_ok-put_name-in-Mv : goal.returns-in_ok-put_name-in-Mv
returns-in_ok-put_name-in-Mv c =
    let s = c.in-Mv in
    subst (λ d. OnOk c.put_name-in-Mv-2.result (c.put_name-in-Mv-2.new.out.items ≡ c.args.out.now.items ++ directory_fields d))
    (sym s.is)
    (then_four c.put_name-in-Mv-2.result c.args.out.now.items (text s.view) (long s.directory) (text s.from_name) (text s.to_name)
    _ _ _ c.in_ok-put_two-in-Mv.ensures c.in_ok-put_name-in-Mv.ensures c.put_name-in-Mv-2.ensures)
