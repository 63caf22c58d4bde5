-- Journals that stand for a base, and damaged ones, worked by hand from the bytes of rows: which frame is the first that spells
-- no row, or whose row does not fit those before it.
use Rattle.std.proofs.Common.{◌≡◌, ℕ, None, List, [], ◌∷◌, ◌++◌, refl, ap, ◌∙◌, arith}
use Rattle.std.specs.Prelude.{codes}
use Rattle.cc_names.specs.Formed.{IsFormed, IsTag, Plain}
use Rattle.cc_names.specs.Names.{name_fault}
use Rattle.cc_names.specs.declared.rows.Deed.{Deed}
use Rattle.cc_names.specs.declared.rows.Deed.TheVariants as deeds
use Rattle.cc_names.specs.declared.rows.Tag.{Tag}
use Rattle.base_model.specs.Rows.{Base}
use Rattle.row_form.proofs.ExactRow.{row_back}
use Rattle.row_form.specs.RowReader.{read_row}
use Rattle.row_form.specs.Spelled.{spelling_of}
use Rattle.story_log.proofs.Bases.Unfit.{misfit_gives_none}
use Rattle.story_log.proofs.Stored.Damaged.{damaged_here, damaged_once, stored_undamaged}
use Rattle.story_log.proofs.Stored.Fitting.{base_is_stored}
use Rattle.story_log.specs.Stored.Damaged.{IsDamaged, IsUndamaged}
use Rattle.story_log.specs.Stored.Founds.{FoundFiles}
use Rattle.story_log.specs.Stored.Payloads.{payloads}
use Rattle.story_log.specs.Story.Formed.{AreFormed}
use Rattle.story_log.specs.declared.opening.OpenCause.TheVariants.{Damaged}

-- the row of command n of the one lane of phase 1, at moment 1,700,000,000
abbrev tag : ℕ → Tag
tag n = record { phase = 1; lane = 1; command = n }

abbrev row : ℕ → Deed → Plain
row n deed = record { tag = tag n; moment = 1700000000; deed = deed }

-- its bytes: the form, phase, lane, command, moment and code, and then these fields
abbrev pub bytes : ℕ → ℕ → List ℕ → List ℕ
bytes n code fields =
    1 ∷ 1 ∷ 0 ∷ 0 ∷ 0 ∷ 1 ∷ 0 ∷ 0 ∷ 0 ∷ n ∷ 0 ∷ 0 ∷ 0 ∷ 0 ∷ 241 ∷ 83 ∷ 101 ∷ 0 ∷ 0 ∷ 0 ∷ 0 ∷ code ∷ fields

-- the bytes of the name of a view
abbrev pub named : ℕ → List ℕ
named letter = 1 ∷ 0 ∷ 0 ∷ 0 ∷ letter ∷ []

-- the base of views v and w
abbrev views : Base
views = row 2 (deeds.Mkview (codes "w")) ∷ row 1 (deeds.Mkview (codes "v")) ∷ []

no_rows : payloads [] ≡ []
no_rows = refl

both_rows : payloads views ≡ bytes 1 1 (named 118) ∷ bytes 2 1 (named 119) ∷ []
both_rows = refl

-- the row of a view whose name is so is formed
formed : (n letter : ℕ) → IsTag (tag n) → name_fault (letter ∷ []) ≡ None → IsFormed (row n (deeds.Mkview (letter ∷ [])))
formed n letter of_tag no_fault =
    record { tag = of_tag; moment = omega arith; deed = record { no_fault = no_fault } }

first_tag : IsTag (tag 1)
first_tag = (omega arith, omega arith, omega arith)

second_tag : IsTag (tag 2)
second_tag = (omega arith, omega arith, omega arith)

third_tag : IsTag (tag 3)
third_tag = (omega arith, omega arith, omega arith)

views_are_formed : AreFormed views
views_are_formed = (formed 2 119 second_tag refl, (formed 1 118 first_tag refl, tt))

-- these frames are found, with no object
abbrev pub as_found : List (List ℕ) → FoundFiles
as_found list = record { frames = list; objects = [] }

-- views v, w and v once more: the third row is spelled, but a view of that name is there
abbrev pub three_frames : List (List ℕ)
three_frames = bytes 1 1 (named 118) ∷ bytes 2 1 (named 119) ∷ bytes 3 1 (named 118) ∷ []

pub third_is_damaged : IsDamaged (as_found three_frames) 3
third_is_damaged = damaged_here (as_found three_frames) views (bytes 3 1 (named 118)) [] 3 refl views_are_formed refl refl
    (misfit_gives_none views (bytes 3 1 (named 118)) (row 3 (deeds.Mkview (codes "v"))) (Damaged 3) refl
    (formed 3 118 third_tag refl) (refl, refl)).1

pub second_is_not : IsDamaged (as_found three_frames) 2 → ⊥
second_is_not h = absurd (omega (arith, damaged_once (as_found three_frames) 2 3 h third_is_damaged))

-- the first two of them stand for the base
two_are_undamaged : IsUndamaged (as_found (payloads views))
two_are_undamaged = stored_undamaged (as_found (payloads views)) views refl views_are_formed (base_is_stored 0 views refl)

-- a frame whose code no deed has
unknown_code : IsDamaged (as_found (bytes 1 99 (named 118) ∷ [])) 1
unknown_code = damaged_here (as_found (bytes 1 99 (named 118) ∷ [])) [] (bytes 1 99 (named 118)) [] 1 refl tt refl refl
    (λ found good spells fit. no_row found good spells)
  where
    no_row : (found : Plain) → IsFormed found → bytes 1 99 (named 118) ≡ spelling_of found → ⊥
    no_row found good spells = absurd (let read = ap read_row spells ∙ row_back found good in cc)

-- view v takes in an object that was never published
abbrev wink_bytes : List ℕ
wink_bytes = bytes 2 18 (named 118 ++ 1 ∷ 0 ∷ 0 ∷ 0 ∷ 0 ∷ 0 ∷ 0 ∷ 0 ∷ [])

abbrev wink_frames : List (List ℕ)
wink_frames = bytes 1 1 (named 118) ∷ wink_bytes ∷ []

unknown_object : IsDamaged (as_found wink_frames) 2
unknown_object = damaged_here (as_found wink_frames) (row 1 (deeds.Mkview (codes "v")) ∷ []) wink_bytes [] 2 refl
    (formed 1 118 first_tag refl, tt) refl refl
    (misfit_gives_none (row 1 (deeds.Mkview (codes "v")) ∷ []) wink_bytes (row 2 (deeds.Wink (codes "v") 1)) (Damaged 2) refl
    wink_is_formed (refl, refl)).1
  where
    wink_is_formed : IsFormed (row 2 (deeds.Wink (codes "v") 1))
    wink_is_formed = record { tag = second_tag; moment = omega arith; deed = (record { no_fault = refl }, omega arith) }
