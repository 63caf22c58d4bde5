-- The object of a unit that is needed, else the file.
use Rattle.std.proofs.Common.{◌≡◌, Some, None, ap, sym, ◌∙◌}
use Rattle.std.specs.Option.{option_or}
use Rattle.base_model.specs.Rows.{first_rows}
use Rattle.base_model.specs.Seen.{file_at}
use Rattle.build_core.proofs.NeededUnits.{seen_object}
use Rattle.build_core.specs.VisibleObjects.{object_before}
use Rattle.build_core.proofs.fetches.visible.Goals as goal

pub returns-in-Some : goal.returns-in-Some
returns-in-Some c = λ it is.
    let build = c.args.build.now in
    let found : object_before build it.prerequisites c.args.unit c.args.path.now ≡ Some c.in-Some.id =
    sym (seen_object build c.args.unit it c.args.closure.now c.args.path.now is c.requires.needs)
    ∙ (sym c.object_in.ensures ∙ c.in-Some.is)
    in
    sym (ap (λ object. option_or object (file_at (first_rows build.rows c.args.rows.now) build.view c.args.path.now)) found)

pub returns : goal.returns
returns c = λ it is.
    let build = c.args.build.now in
    let none : object_before build it.prerequisites c.args.unit c.args.path.now ≡ None =
    sym (seen_object build c.args.unit it c.args.closure.now c.args.path.now is c.requires.needs)
    ∙ (sym c.object_in.ensures ∙ c.in_default.is)
    in
    c.file_in.ensures ∙ sym (ap (λ object. option_or object (file_at (first_rows build.rows c.args.rows.now) build.view
    c.args.path.now)) none)
