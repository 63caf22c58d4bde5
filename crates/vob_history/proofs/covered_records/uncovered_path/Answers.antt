-- The first path at which the view sees another row.
use Rattle.std.proofs.Common.{◌≡◌, IfOk, subst}
use Rattle.std.specs.Option.{option_copied}
use Rattle.vob_history.proofs.Uncovered.{first_uncovered}
use Rattle.vob_history.proofs.covered_records.uncovered_path.Goals as goal

pub returns : goal.returns
returns c = subst (λ first. IfOk c.first_input.result (λ path. option_copied path ≡ first))
    (first_uncovered c.args.rows.now c.args.view.now c.args.object) c.first_input.ensures
