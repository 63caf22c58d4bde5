-- A unit that has no outcome can be driven where those that make its prerequisites have theirs.
use Rattle.std.proofs.Common.{◌≡◌, ◌<◌, ◌&&◌, not, false, length, ap, sym, ◌∙◌, arith}
use Rattle.std.specs.List.{list_all}
use Rattle.std.specs.Prelude.{unwrap_or, option_map}
use Rattle.legal_history.specs.Builds.Active.{came_to, is_outcome, unit_at}
use Rattle.legal_history.specs.Builds.Turns.{is_unit_ready}
use Rattle.build_core.proofs.ReleasedUnits.{ready_by_makers}
use Rattle.build_core.proofs.releases.can_be_driven.Goals as goal

pub returns : goal.returns
returns c =
    let build = c.args.build.now in
    let within : c.args.unit < length build.units = omega (arith, c.if-unit-units.false, ap length c.units.ensures) in
    let ready = unwrap_or (option_map (is_unit_ready build) (unit_at build c.args.unit)) false in
    let over : c.are_over.result ≡ ready =
    c.are_over.ensures
    ∙ (ap (list_all (λ n. is_outcome (came_to build n))) c.makers.ensures
    ∙ ready_by_makers build c.args.unit within) in
    let waits : is_outcome (came_to build c.args.unit) ≡ false = sym c.has_outcome.ensures ∙ c.if-has_outcome.false in
    over ∙ ap (λ b. not b && ready) (sym waits)
