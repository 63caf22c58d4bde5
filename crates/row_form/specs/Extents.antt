-- Outputs in the file of objects: the row that a frame spells in place of a publish with large outputs, and the row of the base
-- that such a row gives.
use Rattle.std.specs.Prelude.{ℕ, Bool, nat_le, List, [], ◌∷◌, length, map, filter, if◌then◌else◌}
use Rattle.cc_names.specs.Formed.{Plain}
use Rattle.cc_names.specs.declared.rows.Extent.{Extent}
use Rattle.cc_names.specs.declared.rows.Stored.{Stored}
use Rattle.cc_names.specs.declared.rows.Stored.TheVariants.{Here, There}
use Rattle.cc_names.specs.declared.rows.Deed.{Deed}
use Rattle.cc_names.specs.declared.rows.Deed.TheVariants as deeds

-- whether an output has an extent of its own: 4,096 bytes or more
abbrev pub is_large : List ℕ → Bool
is_large output = nat_le 4096 (length output)

-- the large outputs of a deed, in order
abbrev pub large_of : Deed → List (List ℕ)
large_of (deeds.Publish view targets script entries outputs) = filter is_large outputs
large_of deed = []

-- an output at the first of these extents if it is large and there is one, else in the frame; and the extents that are left
abbrev pub stored_first : List ℕ → List Extent → Stored × List Extent
stored_first output [] = (Here output, [])
stored_first output (extent ∷ extents) = if is_large output then (There extent, extents) else (Here output, extent ∷ extents)

-- outputs as a frame spells them: each large one at the next of these extents, the others in the frame
abbrev pub stored_at : List (List ℕ) → List Extent → List Stored
stored_at [] extents = []
stored_at (output ∷ outputs) extents = (stored_first output extents).0 ∷ stored_at outputs (stored_first output extents).1

-- a deed with its large outputs at these extents
abbrev pub deed_at_extents : List Extent → Deed → Deed
deed_at_extents extents (deeds.Publish view targets script entries outputs) =
    deeds.PublishAt view targets script entries (stored_at outputs extents)
deed_at_extents extents deed = deed

-- the row that a frame spells where the large outputs of a row are at these extents: the row itself where there are none
abbrev pub row_at_extents : List Extent → Plain → Plain
row_at_extents [] row = row
row_at_extents extents row = record { tag = row.tag; moment = row.moment; deed = deed_at_extents extents row.deed }

-- the bytes of an output that are in the frame: none where it has an extent
abbrev pub in_frame : Stored → List ℕ
in_frame (Here bytes) = bytes
in_frame (There extent) = []

-- the deed of the base that a deed as a frame spells it gives: each output that has an extent is empty
abbrev pub plain_deed : Deed → Deed
plain_deed (deeds.PublishAt view targets script entries outputs) = deeds.Publish view targets script entries
    (map in_frame outputs)
plain_deed deed = deed

-- the row of the base that a row as a frame spells it gives
abbrev pub plain_row : Plain → Plain
plain_row row = record { tag = row.tag; moment = row.moment; deed = plain_deed row.deed }
