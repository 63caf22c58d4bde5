-- Rows with extents, worked out by computation: a view, a publish with an extent and one with none, and a scrub of the first.
use Rattle.std.proofs.Common.{◌≡◌, ℕ, true, false, List, [], ◌∷◌, ◌++◌, refl, map, reverse}
use Rattle.std.specs.Prelude.{codes}
use Rattle.cc_names.specs.Formed.{Plain}
use Rattle.cc_names.specs.declared.rows.Deed.{Deed}
use Rattle.cc_names.specs.declared.rows.Deed.TheVariants as deeds
use Rattle.cc_names.specs.declared.rows.Extent.{Extent}
use Rattle.cc_names.specs.declared.rows.Stored.{Stored}
use Rattle.cc_names.specs.declared.rows.Stored.TheVariants.{There}
use Rattle.base_model.specs.Rows.{Base}
use Rattle.story_log.specs.Stored.Taken.{owned_by, taken}
use Rattle.story_log.specs.Stored.Fitting.{plain_rows, are_stored_rows}
use Rattle.story_log.specs.Stored.Founds.{IsOutput}
use Rattle.story_log.specs.Stored.Opened.{base_opened}

-- the row of this deed, by the first command at the moment 0
abbrev row : Deed → Plain
row deed = record { tag = record { phase = 1; lane = 1; command = 1 }; moment = 0; deed = deed }

-- rows of deeds, which are listed oldest first
abbrev rows : List Deed → Base
rows deeds = reverse (map row deeds)

abbrev extent : ℕ → ℕ → Extent
extent place length = record { place = place; length = length }

abbrev publish_at : List ℕ → List Stored → Deed
publish_at target outputs = deeds.PublishAt (codes "v") (target ∷ []) [] [] outputs

abbrev publish : List ℕ → List (List ℕ) → Deed
publish target outputs = deeds.Publish (codes "v") (target ∷ []) [] [] outputs

-- an object with an extent of four bytes, and one with its output in the frame: rows 2 and 3
abbrev two_objects : List Deed
two_objects = deeds.Mkview (codes "v") ∷ publish_at (codes "a") (There (extent 2 4) ∷ []) ∷ publish (codes "b") (codes "hi" ∷ [])
    ∷ []

its_extent_is_taken : taken (rows two_objects) ≡ owned_by 2 (extent 2 4) ∷ []
its_extent_is_taken = refl

-- such rows are in no base that is opened, in a file of any length
they_do_not_fit : are_stored_rows 6 (rows two_objects) ≡ false
they_do_not_fit = refl

-- the first object is scrubbed: nothing is taken
abbrev scrubbed : List Deed
scrubbed = two_objects ++ deeds.Scrub (2 ∷ []) ∷ []

nothing_is_taken : taken (rows scrubbed) ≡ []
nothing_is_taken = refl

-- the base that is opened where the file has these bytes
abbrev objects : List ℕ
objects = codes "..abcd"

a_live_output_is_read : base_opened objects (rows two_objects)
    ≡ rows (deeds.Mkview (codes "v") ∷ publish (codes "a") (codes "abcd" ∷ []) ∷ publish (codes "b") (codes "hi" ∷ []) ∷ [])
a_live_output_is_read = refl

a_scrubbed_output_is_empty : base_opened objects (rows scrubbed)
    ≡ rows (deeds.Mkview (codes "v") ∷ publish (codes "a") ([] ∷ []) ∷ publish (codes "b") (codes "hi" ∷ [])
    ∷ deeds.Scrub (2 ∷ []) ∷ [])
a_scrubbed_output_is_empty = refl

the_rows_without_bytes : plain_rows (rows two_objects)
    ≡ rows (deeds.Mkview (codes "v") ∷ publish (codes "a") ([] ∷ []) ∷ publish (codes "b") (codes "hi" ∷ []) ∷ [])
the_rows_without_bytes = refl

-- a scrubbed output may be any bytes, a live one those of its extent
any_bytes : IsOutput false objects (There (extent 2 4)) (codes "another")
any_bytes = λ live. absurd (cc)

its_bytes : IsOutput true objects (There (extent 2 4)) (codes "abcd")
its_bytes = λ live. (refl, refl)
