-- What a name in the catalog of a view's checkout of a directory is, by the edit of the row that affects it.
use Rattle.std.proofs.Common.{◌≡◌, ℕ, true, Option, Some, List, ap, sym, ◌∙◌}
use Rattle.cc_names.specs.declared.rows.Deed.{Deed}
use Rattle.base_model.specs.Catalogs.{Edit, catalog_after, element_named, catalog_of, own_of}
use Rattle.base_model.specs.Rows.{Base, deed_at, first_rows}
use Rattle.base_rows.specs.Entries.{entry_effect}
use Rattle.base_rows.specs.LookUps.{last_of}
use Rattle.view_lookup.proofs.EntryRows.{edit_by, edit_at, entry_by, entry_by_row, affects_name, row_affects}

-- the newest row that affects a name, with its deed and its edit
pub record IsNewestEdit (b : Base) (v : List ℕ) (d : ℕ) (name : List ℕ) (n : ℕ) (deed : Option Deed) (edit : Edit) : Type 0 where
  pub row : last_of (entry_effect v d name) b ≡ Some n
  pub found : deed_at b n ≡ deed
  pub is : edit_by v d n deed ≡ edit

edit_is : (b : Base) (v : List ℕ) (d : ℕ) (name : List ℕ) (n : ℕ) (deed : Option Deed) (edit : Edit)
    → IsNewestEdit b v d name n deed edit → edit_at b v d n ≡ edit
edit_is b v d name n deed edit t = ap (edit_by v d n) t.found ∙ t.is

-- the name is as the edit leaves it
pub newest_edit_leaves : (b : Base) (v : List ℕ) (d : ℕ) (name : List ℕ) (n : ℕ) (deed : Option Deed) (edit : Edit)
    → IsNewestEdit b v d name n deed edit
    → element_named name (own_of b v d) ≡ element_named name (catalog_after edit (catalog_of (first_rows n b))
    (own_of (first_rows n b) v d))
newest_edit_leaves b v d name n deed edit t =
    entry_by_row v d name b
    ∙ ap (entry_by b v d name) t.row
    ∙ ap (λ edit. element_named name (catalog_after edit (catalog_of (first_rows n b)) (own_of (first_rows n b) v d)))
    (edit_is b v d name n deed edit t)

-- and the edit affects it
pub newest_edit_affects : (b : Base) (v : List ℕ) (d : ℕ) (name : List ℕ) (n : ℕ) (deed : Option Deed) (edit : Edit)
    → IsNewestEdit b v d name n deed edit → affects_name name edit ≡ true
newest_edit_affects b v d name n deed edit t = sym (ap (affects_name name) (edit_is b v d name n deed edit t))
    ∙ row_affects v d name b n t.row
