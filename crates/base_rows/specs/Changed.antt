-- What rows change of directories: which names in which checkout and, once that is checked in, on which branch.
use Rattle.std.specs.Prelude.{ℕ, Bool, true, false, ◌&&◌, ◌||◌, ◌++◌, nat_lt, Option, Some, None, option_and_then, List, [], ◌∷◌}
use Rattle.std.specs.Prelude.{bytes_eq}
use Rattle.cc_names.specs.Last.{Sets, only_if, last}
use Rattle.cc_names.specs.Versions.{is_number, put_if}
use Rattle.cc_names.specs.declared.rows.Deed.{Deed}
use Rattle.cc_names.specs.declared.rows.Deed.TheVariants as deeds
use Rattle.base_model.specs.Catalogs.{Edit, BeginsEmpty, BeginsAs, Adds, Removes, Renames, edit_of}
use Rattle.base_model.specs.Checkouts.{branch_of}
use Rattle.base_model.specs.Rows.{Base, size, deed_at}
use Rattle.base_model.specs.Views.{out}

-- whether an edit begins the catalog of a checkout
abbrev pub begins : Edit → Bool
begins BeginsEmpty = true
begins (BeginsAs origin) = true
begins edit = false

-- whether an edit gives a name, takes it away or changes it
abbrev pub changes : List ℕ → Edit → Bool
changes name (Adds other e) = bytes_eq other name
changes name (Removes other) = bytes_eq other name
changes name (Renames from_name to_name) = bytes_eq from_name name || bytes_eq to_name name
changes name edit = false

-- the newest row that began a checkout of directory d by the view, and the newest one that changed the name in one
abbrev pub newest_checkout_row : Base → List ℕ → ℕ → Option ℕ
newest_checkout_row b v d = last (λ older row. only_if (begins (edit_of v d (size older) row.deed)) (Sets (size older))) b

abbrev pub newest_change_row : Base → List ℕ → ℕ → List ℕ → Option ℕ
newest_change_row b v d name = last (λ older row. only_if (changes name (edit_of v d (size older) row.deed)) (Sets (size older)))
    b

-- the branch on which a deed makes the next version
abbrev pub checked_in_on : Base → Deed → Option ℕ
checked_in_on older (deeds.Checkin v e) = option_and_then (branch_of older) (out older v e)
checked_in_on older deed = None

-- whether a row changed something since another one began it
abbrev pub is_since : Option ℕ → Option ℕ → Bool
is_since (Some began) (Some last_changed) = nat_lt began last_changed
is_since began last_changed = false

-- whether a deed makes a version of the branch from a checkout in which the name was changed
abbrev pub alters : ℕ → List ℕ → Base → Deed → Bool
alters branch name older (deeds.Checkin v d) = is_number branch (checked_in_on older (deeds.Checkin v d))
    && is_since (newest_checkout_row older v d) (newest_change_row older v d name)
alters branch name older deed = false

-- the row that began the checkout in which a deed changes names
abbrev pub changing : Base → Deed → Option ℕ
changing older (deeds.Mkelem v d name kind taken) = newest_checkout_row older v d
changing older (deeds.Rmname v d name) = newest_checkout_row older v d
changing older (deeds.Mv v d from_name to_name) = newest_checkout_row older v d
changing older deed = None

-- the names that a deed changes
abbrev pub names_of_deed : Option Deed → List (List ℕ)
names_of_deed (Some (deeds.Mkelem v d name kind taken)) = name ∷ []
names_of_deed (Some (deeds.Rmname v d name)) = name ∷ []
names_of_deed (Some (deeds.Mv v d from_name to_name)) = from_name ∷ to_name ∷ []
names_of_deed _ = []

-- the rows that change names in the checkout that a row began, the newest first
abbrev pub changing_rows : ℕ → Base → List ℕ
changing_rows began [] = []
changing_rows began (row ∷ older) = put_if (is_number began (changing older row.deed)) (size older) (changing_rows began older)

-- the names that these rows change
abbrev pub names_by : Base → List ℕ → List (List ℕ)
names_by b [] = []
names_by b (n ∷ rows) = names_of_deed (deed_at b n) ++ names_by b rows

-- the rows that change names in the checkout that a deed checks in
abbrev pub changing_rows_of : Base → Option ℕ → List ℕ
changing_rows_of b None = []
changing_rows_of b (Some began) = changing_rows began b

abbrev pub checked_in_rows : Base → Deed → List ℕ
checked_in_rows older (deeds.Checkin v d) = changing_rows_of older (newest_checkout_row older v d)
checked_in_rows older deed = []
