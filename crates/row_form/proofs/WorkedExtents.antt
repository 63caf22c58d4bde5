-- Rows with outputs in the file of objects, worked out by computation: outputs of 4,095 bytes and of 4,096.
use Rattle.std.proofs.Common.{◌≡◌, ℕ, true, false, List, [], ◌∷◌, refl}
use Rattle.std.proofs.Math.ListN.{replicate}
use Rattle.std.specs.Prelude.{codes}
use Rattle.cc_names.specs.Formed.{Plain}
use Rattle.cc_names.specs.declared.rows.Deed.{Deed}
use Rattle.cc_names.specs.declared.rows.Deed.TheVariants as deeds
use Rattle.cc_names.specs.declared.rows.Extent.{Extent}
use Rattle.cc_names.specs.declared.rows.Stored.{Stored}
use Rattle.cc_names.specs.declared.rows.Stored.TheVariants.{Here, There}
use Rattle.row_form.specs.Spelled.{spelling_of}
use Rattle.row_form.specs.Extents.{is_large, large_of, stored_at, row_at_extents, plain_row}

-- the row of this deed, by the first command at the moment 1,700,000,000
abbrev row : Deed → Plain
row deed = record { tag = record { phase = 1; lane = 1; command = 1 }; moment = 1700000000; deed = deed }

abbrev extent : ℕ → ℕ → Extent
extent place length = record { place = place; length = length }

-- so many letters `a`
abbrev letters : ℕ → List ℕ
letters count = replicate count 97

abbrev publish : List (List ℕ) → Deed
publish outputs = deeds.Publish (codes "v") (codes "x" ∷ codes "y" ∷ []) [] [] outputs

abbrev publish_at : List Stored → Deed
publish_at outputs = deeds.PublishAt (codes "v") (codes "x" ∷ codes "y" ∷ []) [] [] outputs

a_small_output : is_large (letters 4095) ≡ false
a_small_output = refl

a_large_output : is_large (letters 4096) ≡ true
a_large_output = refl

the_large_outputs : large_of (publish (letters 4095 ∷ letters 4096 ∷ [])) ≡ letters 4096 ∷ []
the_large_outputs = refl

none_of_a_save : large_of (deeds.Save (codes "v") 5 (letters 4096)) ≡ []
none_of_a_save = refl

-- outputs between small ones have the extents in order
outputs_at_extents : stored_at (codes "a" ∷ letters 4096 ∷ codes "b" ∷ letters 5000 ∷ []) (extent 8192 4096 ∷ extent 0 5000 ∷ [])
    ≡ Here (codes "a") ∷ There (extent 8192 4096) ∷ Here (codes "b") ∷ There (extent 0 5000) ∷ []
outputs_at_extents = refl

a_row_at_extents : row_at_extents (extent 8192 4096 ∷ []) (row (publish (codes "hi" ∷ letters 4096 ∷ [])))
    ≡ row (publish_at (Here (codes "hi") ∷ There (extent 8192 4096) ∷ []))
a_row_at_extents = refl

a_row_without_extents : row_at_extents [] (row (publish (codes "hi" ∷ [] ∷ []))) ≡ row (publish (codes "hi" ∷ [] ∷ []))
a_row_without_extents = refl

-- its bytes by hand: code 23, and the extent's place 8,192 and length 4,096
the_bytes_at_extents : spelling_of (row_at_extents (extent 8192 4096 ∷ []) (row (publish (codes "hi" ∷ letters 4096 ∷ [])))) ≡
    2 ∷ 1 ∷ 0 ∷ 0 ∷ 0 ∷ 1 ∷ 0 ∷ 0 ∷ 0 ∷ 1 ∷ 0 ∷ 0 ∷ 0 ∷ 0 ∷ 241 ∷ 83 ∷ 101 ∷ 0 ∷ 0 ∷ 0 ∷ 0 ∷ 23 ∷ 1 ∷ 0 ∷ 0 ∷ 0 ∷ 118 ∷
    2 ∷ 0 ∷ 0 ∷ 0 ∷ 1 ∷ 0 ∷ 0 ∷ 0 ∷ 120 ∷ 1 ∷ 0 ∷ 0 ∷ 0 ∷ 121 ∷ 0 ∷ 0 ∷ 0 ∷ 0 ∷ 0 ∷ 0 ∷ 0 ∷ 0 ∷ 2 ∷ 0 ∷ 0 ∷ 0 ∷
    0 ∷ 2 ∷ 0 ∷ 0 ∷ 0 ∷ 104 ∷ 105 ∷ 1 ∷ 0 ∷ 32 ∷ 0 ∷ 0 ∷ 0 ∷ 0 ∷ 0 ∷ 0 ∷ 0 ∷ 16 ∷ 0 ∷ 0 ∷ 0 ∷ 0 ∷ 0 ∷ 0 ∷ []
the_bytes_at_extents = refl

the_row_of_the_base : plain_row (row (publish_at (Here (codes "hi") ∷ There (extent 8192 4096) ∷ [])))
    ≡ row (publish (codes "hi" ∷ [] ∷ []))
the_row_of_the_base = refl
