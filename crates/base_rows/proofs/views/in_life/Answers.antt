-- what is known of is left where it lies after the last end
use Rattle.std.proofs.Common.{ap, ◌∙◌}
use Rattle.base_rows.specs.Lifetimes.{within}
use Rattle.base_rows.proofs.views.in_life.Goals as goal

pub returns-in-Some : goal.returns-in-Some
returns-in-Some g c = c.within.ensures ∙ ap (λ ended. within ended c.args.update_by_row) c.last_end.ensures
