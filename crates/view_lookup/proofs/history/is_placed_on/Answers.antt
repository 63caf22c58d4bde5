-- One is found where there is one.
use Rattle.std.proofs.Common.{◌∙◌, rules, ◌≡◌}
use Rattle.std.specs.Prelude.{find, is_some}
use Rattle.base_rows.specs.Histories.{is_placed_on}
use Rattle.view_lookup.proofs.PlacedFinds.{found_any}
use Rattle.view_lookup.proofs.history.is_placed_on.Goals as goal

pub returns : goal.returns
returns c =
    let found : c.is_some.result ≡ is_some (find (is_placed_on c.args.element) c.args.placed.now) = search rules in
    found ∙ found_any (is_placed_on c.args.element) c.args.placed.now
