use Rattle.std.proofs.Common.{◌≡◌, IfOk, sym, subst}
use Rattle.row_form.specs.Spelled.{spelling_of}
use Rattle.row_form.proofs.AtExtents.{same_at_extents}
use Rattle.row_form.proofs.extents.spell_at.Goals as goal

pub returns-in_default : goal.returns-in_default
returns-in_default c =
    let same = same_at_extents c.args.extents.now c.args.row.now c.deed.result.now c.deed.ensures.deed c.in_default.not-Publish in
    subst (λ row. IfOk c.spell-in_default.result (λ bytes. bytes ≡ spelling_of row)) (sym same) c.spell-in_default.ensures
