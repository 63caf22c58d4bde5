-- The first path where a row is there that made no version.
use Rattle.std.proofs.Common.{◌≡◌, IfOk, subst}
use Rattle.std.specs.Option.{option_copied}
use Rattle.checkout_desk.proofs.Outsiders.{first_outsider}
use Rattle.checkout_desk.proofs.recorded_labels.outsider.Goals as goal

pub returns : goal.returns
returns c = subst (λ first. IfOk c.first_input.result (λ path. option_copied path ≡ first))
    (first_outsider c.args.rows.now c.args.object) c.first_input.ensures
