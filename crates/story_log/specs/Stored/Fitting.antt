-- Which rows as frames spell them may follow one another: they fit as rows of a base, and their extents are free.
use Rattle.std.specs.Prelude.{ℕ, Bool, true, ◌&&◌, [], ◌∷◌, map}
use Rattle.cc_names.specs.declared.rows.Deed.{Deed}
use Rattle.base_model.specs.Rows.{Base}
use Rattle.base_model.specs.Fits.{fits}
use Rattle.container_store.specs.Extents.{may_take}
use Rattle.row_form.specs.Extents.{plain_row}
use Rattle.story_log.specs.Stored.Taken.{extent_of_owned, extents_of, taken}

-- the rows of the base, each output that has an extent empty
abbrev pub plain_rows : Base → Base
plain_rows stored = map plain_row stored

-- Whether a deed as a frame spells it may follow rows as frames spell them, where the file of objects has this length: the deed
-- fits them, and each of its extents lies in the file and overlaps none of another of its outputs or of a live object. A publish
-- at extents fits no rows: opening a base does not read the file of objects.
abbrev pub fits_stored : ℕ → Base → Deed → Bool
fits_stored length stored deed =
    fits (plain_rows stored) deed && may_take length (map extent_of_owned (taken stored)) (extents_of deed)

-- whether each row may follow those below it
abbrev pub are_stored_rows : ℕ → Base → Bool
are_stored_rows length [] = true
are_stored_rows length (row ∷ older) = fits_stored length older row.deed && are_stored_rows length older
