-- The rules are the view's, and what they are asked over is what the view selects from.
use Rattle.std.proofs.Common.{ap, ap₂, ◌∙◌}
use Rattle.cc_names.specs.Paths.{names_of}
use Rattle.base_model.specs.ConfigSpecs.Rules.{pick}
use Rattle.base_model.specs.Seen.{sources}
use Rattle.view_lookup.specs.Picking.{selectables}
use Rattle.view_lookup.proofs.picks.pick.Goals as goal

pub returns-in_err-spec : goal.returns-in_err-spec
returns-in_err-spec c =
    let b = c.args.rows.now in
    let e = c.args.element in
    c.from_residual.ensures ∙ ap (pick (sources b c.args.view.now e) e (names_of c.args.path.now)) c.in_err-spec.ensures

pub returns : goal.returns
returns c =
    let b = c.args.rows.now in
    let e = c.args.element in
    c.pick_from.ensures
    ∙ ap₂ (λ out rules. pick (selectables b out) e (names_of c.args.path.now) rules) c.making.ensures c.in_ok-spec.ensures
