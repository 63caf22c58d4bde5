-- The output stands at the place of the target.
use Rattle.std.proofs.Common.{◌<◌, ◌≤◌, Some, length, refl, ap, sym, ◌∙◌, arith}
use Rattle.std.proofs.lemmas.Bool.Decides.{nat_tests}
use Rattle.std.proofs.lemmas.Option.{slice_get_past, slice_get_read}
use Rattle.std.specs.Option.{option_copied}
use Rattle.base_model.specs.Changes.{targets_of}
use Rattle.base_rows.proofs.RowTexts.{output_of_none, output_there}
use Rattle.view_lookup.proofs.texts.output_at.Goals as goal

pub returns-in_err-place : goal.returns-in_err-place
returns-in_err-place c =
    ap option_copied c.from_residual.ensures
    ∙ sym (output_of_none c.args.path.now (targets_of c.args.rows.now c.args.object) c.args.outputs.now c.in_err-place.ensures.place)

pub returns-in_err-output : goal.returns-in_err-output
returns-in_err-output c =
    let targets = targets_of c.args.rows.now c.args.object in
    let outputs = c.args.outputs.now in
    let place = c.in_ok-place.place in
    let past : length outputs ≤ place = grind (arith, nat_tests, c.in_err-output.ensures.lookup.0) in
    ap option_copied c.from_residual-in_err-output.ensures
    ∙ sym (output_there c.args.path.now targets outputs place c.in_ok-place.ensures.distinct c.in_ok-place.ensures.place ∙ slice_get_past outputs place past)

pub returns : goal.returns
returns c =
    let targets = targets_of c.args.rows.now c.args.object in
    let outputs = c.args.outputs.now in
    let place = c.in_ok-place.place in
    let within : place < length outputs = grind (arith, nat_tests, c.in_ok-output.ensures.lookup.0) in
    ap Some c.as_bytes.ensures
    ∙ sym (output_there c.args.path.now targets outputs place c.in_ok-place.ensures.distinct c.in_ok-place.ensures.place
    ∙ slice_get_read outputs (length outputs) place c.in_ok-output.output.now refl within c.in_ok-output.ensures.lookup.1)
