-- The view of the reserved checkout that stands on the branch.
use Rattle.std.proofs.Common.{ap, ◌∙◌}
use Rattle.std.specs.Option.{option_copied}
use Rattle.std.specs.Prelude.{option_map}
use Rattle.base_model.specs.Checkouts.{checkout_view}
use Rattle.view_lookup.proofs.reservations.reserver.Goals as goal

pub returns-in_err-reserving : goal.returns-in_err-reserving
returns-in_err-reserving c = ap option_copied c.from_residual.ensures ∙ ap (option_map checkout_view) c.in_err-reserving.ensures

pub returns : goal.returns
returns c = ap (option_map checkout_view) c.in_ok-reserving.ensures
