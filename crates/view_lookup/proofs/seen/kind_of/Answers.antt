-- The row of the element tells its kind.
use Rattle.std.proofs.Common.{◌≡◌, ◌==◌, true, false, cond, Some, sym, ap, ◌∙◌, arith}
use Rattle.std.specs.Prelude.{option_and_then}
use Rattle.std.proofs.lemmas.Bool.Decides.{nat_tests}
use Rattle.cc_names.specs.declared.rows.Kind.TheVariants.{Directory}
use Rattle.base_model.specs.Rows.{deed_of}
use Rattle.base_rows.specs.Made.{kind_made}
use Rattle.view_lookup.proofs.ElementKinds.{kind_at, kind_by_its_row}
use Rattle.view_lookup.proofs.seen.kind_of.Goals as goal

pub returns-then-element-eq0 : goal.returns-then-element-eq0
returns-then-element-eq0 c =
    let root : (c.args.element == 0) ≡ true = grind (arith, nat_tests) in
    sym (kind_by_its_row c.args.rows.now c.args.element ∙ ap (λ is. cond is (Some Directory)
    (kind_at c.args.rows.now c.args.element)) root)

pub returns-in_err-row : goal.returns-in_err-row
returns-in_err-row c =
    let below : (c.args.element == 0) ≡ false = grind (arith, nat_tests) in
    c.from_residual.ensures
    ∙ ap (λ row. option_and_then kind_made (deed_of row)) c.in_err-row.ensures
    ∙ sym (kind_by_its_row c.args.rows.now c.args.element ∙ ap (λ is. cond is (Some Directory)
    (kind_at c.args.rows.now c.args.element)) below)

pub returns : goal.returns
returns c =
    let below : (c.args.element == 0) ≡ false = grind (arith, nat_tests) in
    c.kind_made.ensures
    ∙ ap kind_made c.deed.ensures.deed
    ∙ ap (λ row. option_and_then kind_made (deed_of row)) c.in_ok-row.ensures
    ∙ sym (kind_by_its_row c.args.rows.now c.args.element ∙ ap (λ is. cond is (Some Directory)
    (kind_at c.args.rows.now c.args.element)) below)
