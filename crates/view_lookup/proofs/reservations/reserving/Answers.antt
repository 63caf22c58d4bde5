-- The newest reserved checkout that was made on the branch, where it stands.
use Rattle.std.proofs.Common.{Some, ap, sym, ◌∙◌}
use Rattle.std.specs.Prelude.{option_map}
use Rattle.base_model.specs.Rows.{only_where}
use Rattle.base_rows.specs.Effects.{plain_taken}
use Rattle.view_lookup.proofs.ReservedOnce.{if_standing, reserving_is}
use Rattle.view_lookup.proofs.reservations.reserving.Goals as goal

pub returns-in_err-taken : goal.returns-in_err-taken
returns-in_err-taken c =
    let b = c.args.rows.now in
    ap (option_map plain_taken) c.from_residual.ensures
    ∙ ap (if_standing b) c.in_err-taken.ensures
    ∙ sym (reserving_is b c.args.branch c.are_base.ensures)

pub returns-then-stands : goal.returns-then-stands
returns-then-stands c =
    let b = c.args.rows.now in
    let taken = plain_taken c.in_ok-taken.taken in
    ap (λ is. only_where is (Some taken)) (sym c.if-stands.true ∙ c.stands.ensures)
    ∙ ap (if_standing b) c.in_ok-taken.ensures
    ∙ sym (reserving_is b c.args.branch c.are_base.ensures)

pub returns-else-stands : goal.returns-else-stands
returns-else-stands c =
    let b = c.args.rows.now in
    let taken = plain_taken c.in_ok-taken.taken in
    ap (λ is. only_where is (Some taken)) (sym c.if-stands.false ∙ c.stands.ensures)
    ∙ ap (if_standing b) c.in_ok-taken.ensures
    ∙ sym (reserving_is b c.args.branch c.are_base.ensures)
