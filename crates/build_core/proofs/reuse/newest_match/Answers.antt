-- The newest of the unit's targets that is of its script and of what it sees.
use Rattle.std.proofs.Common.{sym, ap, ◌∙◌}
use Rattle.base_rows.specs.Pool.{newest_object}
use Rattle.build_core.specs.Reusing.{agrees_with}
use Rattle.build_core.proofs.ReusedObjects.{newest_matched}
use Rattle.build_core.proofs.reuse.newest_match.Goals as goal

pub returns : goal.returns
returns c =
    let it = c.args.unit.now in
    let b = it.rows.now in
    c.newest_object.ensures
    ∙ ap (λ targets. newest_object b targets (agrees_with b it.build.now it.number it.unit.now)) c.as_slice.ensures
    ∙ sym (newest_matched b it.build.now it.number it.unit.now)
