-- The view that reserves the branch, where it is another one.
use Rattle.std.proofs.Common.{Some, not, ap, sym, ◌∙◌}
use Rattle.std.specs.Option.{option_copied}
use Rattle.base_model.specs.Rows.{only_where}
use Rattle.view_lookup.proofs.ReservedOnce.{other_is, other_view}
use Rattle.view_lookup.proofs.reservations.other_reserver.Goals as goal

pub returns-in_err-reserver : goal.returns-in_err-reserver
returns-in_err-reserver c =
    ap option_copied c.from_residual.ensures
    ∙ ap (other_view c.args.view.now) c.in_err-reserver.ensures
    ∙ sym (other_is c.args.rows.now c.args.view.now c.args.branch c.are_base.ensures)

pub returns-then-same_name : goal.returns-then-same_name
returns-then-same_name c =
    ap (λ is. only_where (not is) (Some c.in_ok-reserver.reserver.now)) (sym c.if-same_name.true ∙ c.same_name.ensures)
    ∙ ap (other_view c.args.view.now) c.in_ok-reserver.ensures
    ∙ sym (other_is c.args.rows.now c.args.view.now c.args.branch c.are_base.ensures)

pub returns-else-same_name : goal.returns-else-same_name
returns-else-same_name c =
    ap (λ is. only_where (not is) (Some c.in_ok-reserver.reserver.now)) (sym c.if-same_name.false ∙ c.same_name.ensures)
    ∙ ap (other_view c.args.view.now) c.in_ok-reserver.ensures
    ∙ sym (other_is c.args.rows.now c.args.view.now c.args.branch c.are_base.ensures)
