-- Each branch that leaves the version was made by a row that says so.
use Rattle.std.proofs.Common.{◌≡◌, ℕ, List, subst}
use Rattle.std.specs.Prelude.{IfOk}
use Rattle.view_lookup.proofs.LeavingRows.{leaving_rows}
use Rattle.view_lookup.proofs.leaving.branches_leaving.Goals as goal

pub returns : goal.returns
returns c =
    subst (λ (branches : List ℕ). IfOk c.updating_rows.result (λ numbers. numbers.items ≡ branches))
    (leaving_rows c.args.version c.args.rows.now) c.updating_rows.ensures
