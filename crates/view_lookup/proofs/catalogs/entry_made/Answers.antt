-- The row that made a version says where its catalog comes from.
use Rattle.std.proofs.Common.{◌≡◌, Some, sym, ap, ◌∙◌}
use Rattle.std.specs.Option.{option_copied}
use Rattle.base_model.specs.Catalogs.{catalog_source, element_named}
use Rattle.base_model.specs.Rows.{deed_of, deed_at, first_rows}
use Rattle.view_lookup.proofs.EntryMoves.{fewer_below}
use Rattle.view_lookup.proofs.EntryRows.{catalog_by_row, catalog_made, from_source, no_source}
use Rattle.view_lookup.proofs.catalogs.entry_made.Goals as goal

pub returns-in-None : goal.returns-in-None
returns-in-None c =
    let b = c.args.rows.now in
    let r = c.args.version in
    ap (element_named c.args.name.now) (catalog_by_row b r ∙ ap (catalog_made (first_rows r b)) (ap deed_of (sym c.row_at.ensures
    ∙ ap option_copied c.in-None.is)))

pub returns-in-Branch : goal.returns-in-Branch
returns-in-Branch c =
    let b = c.args.rows.now in
    let r = c.args.version in
    let found : deed_at b r ≡ Some c.deed.result.now = ap deed_of (sym c.row_at.ensures ∙ ap option_copied c.in-Some.is)
    ∙ ap Some (sym c.deed.ensures.deed) in (
      fewer_below b r c.deed.result.now found,
      ap (element_named c.args.name.now) (catalog_by_row b r ∙ ap (catalog_made (first_rows r b)) found
          ∙ ap (from_source (first_rows r b)) (ap catalog_source c.in-Branch.is)),
    )

pub returns-in-Checkin : goal.returns-in-Checkin
returns-in-Checkin c =
    let b = c.args.rows.now in
    let r = c.args.version in
    let found : deed_at b r ≡ Some c.deed.result.now = ap deed_of (sym c.row_at.ensures ∙ ap option_copied c.in-Some.is)
    ∙ ap Some (sym c.deed.ensures.deed) in (
      fewer_below b r c.deed.result.now found,
      ap (element_named c.args.name.now) (catalog_by_row b r ∙ ap (catalog_made (first_rows r b)) found
          ∙ ap (from_source (first_rows r b)) (ap catalog_source c.in-Checkin.is)),
    )

pub returns-in_default : goal.returns-in_default
returns-in_default c =
    let b = c.args.rows.now in
    let r = c.args.version in
    let found : deed_at b r ≡ Some c.deed.result.now = ap deed_of (sym c.row_at.ensures ∙ ap option_copied c.in-Some.is)
    ∙ ap Some (sym c.deed.ensures.deed) in
    ap (element_named c.args.name.now) (catalog_by_row b r ∙ ap (catalog_made (first_rows r b)) found
    ∙ ap (from_source (first_rows r b)) (no_source c.deed.result.now (λ v e origin name out is. c.in_default.not-Branch v e origin
    name out is) (λ v e is. c.in_default.not-Checkin v e is)))
