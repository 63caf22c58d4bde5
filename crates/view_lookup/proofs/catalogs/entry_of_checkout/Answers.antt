-- The later of the row that began the checkout and of the row that changed the name in it.
use Rattle.std.proofs.Common.{refl, sym, ap, ap₂, ◌∙◌}
use Rattle.base_rows.specs.Lifetimes.{later}
use Rattle.base_rows.specs.Entries.{begun_effect, changed_effect, entry_effect}
use Rattle.base_rows.specs.LookUps.{left_by}
use Rattle.base_rows.proofs.Endings.{newest_of_two}
use Rattle.view_lookup.proofs.EntryRows.{entry_by, entry_by_row}
use Rattle.base_rows.proofs.Newest.{last_by_newest}
use Rattle.view_lookup.proofs.catalogs.entry_of_checkout.Goals as goal

pub entry_by-requires : goal.entry_by-requires
entry_by-requires c =
    let b = c.args.rows.now in
    let v = c.args.view.now in
    let d = c.args.directory in
    let name = c.args.name.now in
    last_by_newest (entry_effect v d name) b
    ∙ ap left_by (newest_of_two (entry_effect v d name) (begun_effect v d) (changed_effect v d name) (λ older deed. refl) b
    ∙ sym (ap₂ later c.newest-begun.ensures c.newest-changed.ensures) ∙ sym c.later.ensures)
    ∙ sym c.left_by.ensures
    ∙ c.in-Some.is

pub returns-in-None : goal.returns-in-None
returns-in-None c =
    let b = c.args.rows.now in
    let v = c.args.view.now in
    let d = c.args.directory in
    let name = c.args.name.now in
    entry_by_row v d name b
    ∙ ap (entry_by b v d name)
    (last_by_newest (entry_effect v d name) b
    ∙ ap left_by (newest_of_two (entry_effect v d name) (begun_effect v d) (changed_effect v d name) (λ older deed. refl) b
    ∙ sym (ap₂ later c.newest-begun.ensures c.newest-changed.ensures) ∙ sym c.later.ensures)
    ∙ sym c.left_by.ensures
    ∙ c.in-None.is)
