-- The row that affects a name says what it is.
use Rattle.std.proofs.Common.{◌≡◌, Bool, true, false, ◌||◌, Some, None, refl, sym, ap, ◌∙◌, bytes_eq}
use Rattle.std.specs.Option.{option_copied}
use Rattle.base_model.specs.Catalogs.{Same, BeginsEmpty, BeginsAs, Adds, Removes, Renames, edit_of, element_named, own_of}
use Rattle.base_model.specs.Rows.{deed_of, deed_at, first_rows}
use Rattle.base_rows.specs.Entries.{plain_edit}
use Rattle.view_lookup.proofs.EntryEdits.{added, removed, moved_away, moved_here}
use Rattle.view_lookup.proofs.EntryMoves.{fewer_below, fits_below, has_first_name}
use Rattle.view_lookup.proofs.NewestEdits.{IsNewestEdit, newest_edit_leaves, newest_edit_affects}
use Rattle.view_lookup.proofs.catalogs.entry_by.Goals as goal

pub returns-in-None : goal.returns-in-None
returns-in-None c =
    let none : deed_at c.args.rows.now c.args.number ≡ None = ap deed_of (sym c.row_at.ensures ∙ ap option_copied c.in-None.is) in
    let update_by_row : IsNewestEdit c.args.rows.now c.args.view.now c.args.directory c.args.name.now c.args.number None Same =
    record { row = c.requires; found = none; is = refl } in
    absurd (cc (newest_edit_affects _ _ _ _ _ _ _ update_by_row))

pub returns-in-Same : goal.returns-in-Same
returns-in-Same c =
    let found : deed_at c.args.rows.now c.args.number ≡ Some c.deed.result.now =
    ap deed_of (sym c.row_at.ensures ∙ ap option_copied c.in-Some.is) ∙ ap Some (sym c.deed.ensures.deed) in
    let update_by_row : IsNewestEdit c.args.rows.now c.args.view.now c.args.directory c.args.name.now c.args.number
    (Some c.deed.result.now) Same =
    record { row = c.requires; found = found; is = sym c.edit_of.ensures ∙ ap plain_edit c.in-Same.is } in
    absurd (cc (newest_edit_affects _ _ _ _ _ _ _ update_by_row))

pub returns-in-BeginsEmpty : goal.returns-in-BeginsEmpty
returns-in-BeginsEmpty c =
    let found : deed_at c.args.rows.now c.args.number ≡ Some c.deed.result.now =
    ap deed_of (sym c.row_at.ensures ∙ ap option_copied c.in-Some.is) ∙ ap Some (sym c.deed.ensures.deed) in
    let update_by_row : IsNewestEdit c.args.rows.now c.args.view.now c.args.directory c.args.name.now c.args.number
    (Some c.deed.result.now) BeginsEmpty =
    record { row = c.requires; found = found; is = sym c.edit_of.ensures ∙ ap plain_edit c.in-BeginsEmpty.is } in
    newest_edit_leaves _ _ _ _ _ _ _ update_by_row

pub returns-in-BeginsAs : goal.returns-in-BeginsAs
returns-in-BeginsAs c =
    let found : deed_at c.args.rows.now c.args.number ≡ Some c.deed.result.now =
    ap deed_of (sym c.row_at.ensures ∙ ap option_copied c.in-Some.is) ∙ ap Some (sym c.deed.ensures.deed) in
    let update_by_row : IsNewestEdit c.args.rows.now c.args.view.now c.args.directory c.args.name.now c.args.number
    (Some c.deed.result.now) (BeginsAs c.in-BeginsAs.origin) =
    record { row = c.requires; found = found; is = sym c.edit_of.ensures ∙ ap plain_edit c.in-BeginsAs.is } in
    (fewer_below c.args.rows.now c.args.number c.deed.result.now found, newest_edit_leaves _ _ _ _ _ _ _ update_by_row)

pub returns-in-Adds : goal.returns-in-Adds
returns-in-Adds c =
    let found : deed_at c.args.rows.now c.args.number ≡ Some c.deed.result.now =
    ap deed_of (sym c.row_at.ensures ∙ ap option_copied c.in-Some.is) ∙ ap Some (sym c.deed.ensures.deed) in
    let other = c.in-Adds.field-0.now in
    let update_by_row : IsNewestEdit c.args.rows.now c.args.view.now c.args.directory c.args.name.now c.args.number
    (Some c.deed.result.now) (Adds other c.in-Adds.element) =
    record { row = c.requires; found = found; is = sym c.edit_of.ensures ∙ ap plain_edit c.in-Adds.is } in
    newest_edit_leaves _ _ _ _ _ _ _ update_by_row
    ∙ added c.args.name.now other c.in-Adds.element (own_of (first_rows c.args.number c.args.rows.now) c.args.view.now
    c.args.directory) (newest_edit_affects _ _ _ _ _ _ _ update_by_row)

pub returns-in-Removes : goal.returns-in-Removes
returns-in-Removes c =
    let found : deed_at c.args.rows.now c.args.number ≡ Some c.deed.result.now =
    ap deed_of (sym c.row_at.ensures ∙ ap option_copied c.in-Some.is) ∙ ap Some (sym c.deed.ensures.deed) in
    let other = c.in-Removes.field-0.now in
    let update_by_row : IsNewestEdit c.args.rows.now c.args.view.now c.args.directory c.args.name.now c.args.number
    (Some c.deed.result.now) (Removes other) =
    record { row = c.requires; found = found; is = sym c.edit_of.ensures ∙ ap plain_edit c.in-Removes.is } in
    newest_edit_leaves _ _ _ _ _ _ _ update_by_row
    ∙ removed c.args.name.now other (own_of (first_rows c.args.number c.args.rows.now) c.args.view.now c.args.directory)
    (newest_edit_affects _ _ _ _ _ _ _ update_by_row)

-- the name that the element had before
pub returns-then-is_name : goal.returns-then-is_name
returns-then-is_name c =
    let b = c.args.rows.now in
    let n = c.args.number in
    let v = c.args.view.now in
    let deed = c.deed.result.now in
    let from = c.in-Renames.from.now in
    let to = c.in-Renames.to.now in
    let found : deed_at b n ≡ Some deed = ap deed_of (sym c.row_at.ensures ∙ ap option_copied c.in-Some.is)
    ∙ ap Some (sym c.deed.ensures.deed) in
    let is : edit_of v c.args.directory n deed ≡ Renames from to = sym c.edit_of.ensures ∙ ap plain_edit c.in-Renames.is in
    let update_by_row : IsNewestEdit b v c.args.directory c.args.name.now n (Some deed) (Renames from to) =
    record { row = c.requires; found = found; is = is } in
    let same : bytes_eq to c.args.name.now ≡ true = sym c.is_name.ensures ∙ c.if-is_name.true in
    let there = has_first_name (first_rows n b) v c.args.directory n deed from to is
    (fits_below b n deed c.are_base.ensures found) in (
      fewer_below b n deed found,
      newest_edit_leaves _ _ _ _ _ _ _ update_by_row
          ∙ moved_here c.args.name.now from to (own_of (first_rows n b) v c.args.directory) same there
          ∙ ap (λ text. element_named text (own_of (first_rows n b) v c.args.directory)) (sym c.as_bytes.ensures.bytes),
    )

-- the name that the element has no more
pub returns-else-is_name : goal.returns-else-is_name
returns-else-is_name c =
    let b = c.args.rows.now in
    let n = c.args.number in
    let v = c.args.view.now in
    let deed = c.deed.result.now in
    let name = c.args.name.now in
    let from = c.in-Renames.from.now in
    let to = c.in-Renames.to.now in
    let found : deed_at b n ≡ Some deed = ap deed_of (sym c.row_at.ensures ∙ ap option_copied c.in-Some.is)
    ∙ ap Some (sym c.deed.ensures.deed) in
    let is : edit_of v c.args.directory n deed ≡ Renames from to = sym c.edit_of.ensures ∙ ap plain_edit c.in-Renames.is in
    let update_by_row : IsNewestEdit b v c.args.directory name n (Some deed) (Renames from to) =
    record { row = c.requires; found = found; is = is } in
    let apart : bytes_eq to name ≡ false = sym c.is_name.ensures ∙ c.if-is_name.false in
    let gone : bytes_eq from name ≡ true = one (bytes_eq from name) (bytes_eq to name) apart
    (newest_edit_affects _ _ _ _ _ _ _ update_by_row) in
    newest_edit_leaves _ _ _ _ _ _ _ update_by_row ∙ moved_away name from to (own_of (first_rows n b) v c.args.directory) apart
    gone
  where
    one : (first second : Bool) → second ≡ false → (first || second) ≡ true → first ≡ true
    one true second apart either = refl
    one false second apart either = absurd (cc)
