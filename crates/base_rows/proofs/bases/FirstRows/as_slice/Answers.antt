-- The first rows stand first in the list of all.
use Rattle.std.proofs.Common.{suc, reverse, take, ap, sym, ◌∙◌}
use Rattle.std.proofs.lemmas.List.{reverse-reverse}
use Rattle.base_model.specs.Rows.{Base, first_rows}
use Rattle.base_rows.specs.Shown.{Shown}
use Rattle.base_rows.proofs.Prefixes.{first_of_slice}
use Rattle.base_rows.proofs.bases.FirstRows.as_slice.Goals as goal

pub returns : goal.returns
returns c =
    let count = c.self.inside.count in
    let first : Base = take count c.base.inside.rows.items in
    ap (λ (rows : Base). take count rows) c.as_slice.ensures.value
    ∙ sym (reverse-reverse first)
    ∙ ap (λ (rows : Base). reverse rows) (first_of_slice c.base.inside.rows.items count
    ∙ ap (λ (shown : Shown). first_rows (suc count) shown.base) c.base.view_is
    ∙ c.self.view_is)
