-- The spellings of rows of each deed, worked out by computation: the bytes are written by hand from the format. The rows are
-- those of phase 1, lane 2 and command 3 at the last moment that a row may have, the end of the year 9999.
use Rattle.std.proofs.Common.{◌≡◌, ℕ, ◌-◌, ◌^◌, true, false, List, [], ◌∷◌, refl}
use Rattle.std.specs.Prelude.{codes}
use Rattle.cc_names.specs.Formed.{Plain}
use Rattle.cc_names.specs.declared.rows.Deed.{Deed}
use Rattle.cc_names.specs.declared.rows.Deed.TheVariants as deeds
use Rattle.cc_names.specs.declared.rows.Extent.{Extent}
use Rattle.cc_names.specs.declared.rows.Kind.TheVariants as kinds
use Rattle.cc_names.specs.declared.rows.Out.TheVariants as outs
use Rattle.cc_names.specs.declared.rows.Placed.{Placed}
use Rattle.cc_names.specs.declared.rows.ReadOf.{ReadOf}
use Rattle.cc_names.specs.declared.rows.Stored.TheVariants.{Here, There}
use Rattle.cc_names.specs.declared.rows.TypeKind.TheVariants as type_kinds
use Rattle.row_form.specs.Spelled.{spelling_of}

-- the row of this deed
abbrev row : Deed → Plain
row deed = record { tag = record { phase = 1; lane = 2; command = 3 }; moment = 253402300799; deed = deed }

-- the bytes of a row with this first byte, code and fields
abbrev bytes : ℕ → ℕ → List ℕ → List ℕ
bytes form code fields =
    form ∷ 1 ∷ 0 ∷ 0 ∷ 0 ∷ 2 ∷ 0 ∷ 0 ∷ 0 ∷ 3 ∷ 0 ∷ 0 ∷ 0 ∷ 127 ∷ 65 ∷ 244 ∷ 255 ∷ 58 ∷ 0 ∷ 0 ∷ 0 ∷ code ∷ fields

abbrev read : List ℕ → ℕ → ReadOf
read path row = record { path = path; row = row }

abbrev placed : ℕ → ℕ → Placed
placed element version = record { element = element; version = version }

abbrev extent : ℕ → ℕ → Extent
extent place length = record { place = place; length = length }

a_mkview : spelling_of (row (deeds.Mkview (codes "v"))) ≡ bytes 1 1 (
    1 ∷ 0 ∷ 0 ∷ 0 ∷ 118 ∷ [])
a_mkview = refl

an_rmview : spelling_of (row (deeds.Rmview (codes "v"))) ≡ bytes 1 2 (
    1 ∷ 0 ∷ 0 ∷ 0 ∷ 118 ∷ [])
an_rmview = refl

a_setcs : spelling_of (row (deeds.Setcs (codes "v") (codes "hi"))) ≡ bytes 1 3 (
    1 ∷ 0 ∷ 0 ∷ 0 ∷ 118 ∷ 2 ∷ 0 ∷ 0 ∷ 0 ∷ 104 ∷ 105 ∷ [])
a_setcs = refl

a_mkelem : spelling_of (row (deeds.Mkelem (codes "v") 5 (codes "n") kinds.Directory true)) ≡ bytes 1 4 (
    1 ∷ 0 ∷ 0 ∷ 0 ∷ 118 ∷ 5 ∷ 0 ∷ 0 ∷ 0 ∷ 0 ∷ 0 ∷ 0 ∷ 0 ∷ 1 ∷ 0 ∷ 0 ∷ 0 ∷ 110 ∷ 2 ∷ 1 ∷ [])
a_mkelem = refl

a_mkelem_of_a_file : spelling_of (row (deeds.Mkelem (codes "v") 5 (codes "n") kinds.File false)) ≡ bytes 1 4 (
    1 ∷ 0 ∷ 0 ∷ 0 ∷ 118 ∷ 5 ∷ 0 ∷ 0 ∷ 0 ∷ 0 ∷ 0 ∷ 0 ∷ 0 ∷ 1 ∷ 0 ∷ 0 ∷ 0 ∷ 110 ∷ 1 ∷ 0 ∷ [])
a_mkelem_of_a_file = refl

a_checkout : spelling_of (row (deeds.Checkout (codes "v") 5 6 false)) ≡ bytes 1 5 (
    1 ∷ 0 ∷ 0 ∷ 0 ∷ 118 ∷ 5 ∷ 0 ∷ 0 ∷ 0 ∷ 0 ∷ 0 ∷ 0 ∷ 0 ∷ 6 ∷ 0 ∷ 0 ∷ 0 ∷ 0 ∷ 0 ∷ 0 ∷ 0 ∷ 0 ∷ [])
a_checkout = refl

a_reserved_checkout : spelling_of (row (deeds.Checkout (codes "v") 5 6 true)) ≡ bytes 1 5 (
    1 ∷ 0 ∷ 0 ∷ 0 ∷ 118 ∷ 5 ∷ 0 ∷ 0 ∷ 0 ∷ 0 ∷ 0 ∷ 0 ∷ 0 ∷ 6 ∷ 0 ∷ 0 ∷ 0 ∷ 0 ∷ 0 ∷ 0 ∷ 0 ∷ 1 ∷ [])
a_reserved_checkout = refl

a_branch : spelling_of (row (deeds.Branch (codes "v") 5 6 (codes "B") outs.Unreserved)) ≡ bytes 1 6 (
    1 ∷ 0 ∷ 0 ∷ 0 ∷ 118 ∷ 5 ∷ 0 ∷ 0 ∷ 0 ∷ 0 ∷ 0 ∷ 0 ∷ 0 ∷ 6 ∷ 0 ∷ 0 ∷ 0 ∷ 0 ∷ 0 ∷ 0 ∷ 0 ∷ 1 ∷ 0 ∷ 0 ∷ 0 ∷ 66 ∷ 2 ∷ [])
a_branch = refl

a_branch_alone : spelling_of (row (deeds.Branch (codes "v") 5 6 (codes "B") outs.No)) ≡ bytes 1 6 (
    1 ∷ 0 ∷ 0 ∷ 0 ∷ 118 ∷ 5 ∷ 0 ∷ 0 ∷ 0 ∷ 0 ∷ 0 ∷ 0 ∷ 0 ∷ 6 ∷ 0 ∷ 0 ∷ 0 ∷ 0 ∷ 0 ∷ 0 ∷ 0 ∷ 1 ∷ 0 ∷ 0 ∷ 0 ∷ 66 ∷ 0 ∷ [])
a_branch_alone = refl

a_reserved_branch : spelling_of (row (deeds.Branch (codes "v") 5 6 (codes "B") outs.Reserved)) ≡ bytes 1 6 (
    1 ∷ 0 ∷ 0 ∷ 0 ∷ 118 ∷ 5 ∷ 0 ∷ 0 ∷ 0 ∷ 0 ∷ 0 ∷ 0 ∷ 0 ∷ 6 ∷ 0 ∷ 0 ∷ 0 ∷ 0 ∷ 0 ∷ 0 ∷ 0 ∷ 1 ∷ 0 ∷ 0 ∷ 0 ∷ 66 ∷ 1 ∷ [])
a_reserved_branch = refl

a_save : spelling_of (row (deeds.Save (codes "v") 5 [])) ≡ bytes 1 7 (
    1 ∷ 0 ∷ 0 ∷ 0 ∷ 118 ∷ 5 ∷ 0 ∷ 0 ∷ 0 ∷ 0 ∷ 0 ∷ 0 ∷ 0 ∷ 0 ∷ 0 ∷ 0 ∷ 0 ∷ [])
a_save = refl

a_checkin : spelling_of (row (deeds.Checkin (codes "v") (2 ^ 56))) ≡ bytes 1 8 (
    1 ∷ 0 ∷ 0 ∷ 0 ∷ 118 ∷ 0 ∷ 0 ∷ 0 ∷ 0 ∷ 0 ∷ 0 ∷ 0 ∷ 1 ∷ [])
a_checkin = refl

an_uncheckout : spelling_of (row (deeds.Uncheckout (codes "v") 5)) ≡ bytes 1 9 (
    1 ∷ 0 ∷ 0 ∷ 0 ∷ 118 ∷ 5 ∷ 0 ∷ 0 ∷ 0 ∷ 0 ∷ 0 ∷ 0 ∷ 0 ∷ [])
an_uncheckout = refl

an_rmname : spelling_of (row (deeds.Rmname (codes "v") 5 (codes "n"))) ≡ bytes 1 10 (
    1 ∷ 0 ∷ 0 ∷ 0 ∷ 118 ∷ 5 ∷ 0 ∷ 0 ∷ 0 ∷ 0 ∷ 0 ∷ 0 ∷ 0 ∷ 1 ∷ 0 ∷ 0 ∷ 0 ∷ 110 ∷ [])
an_rmname = refl

an_mv : spelling_of (row (deeds.Mv (codes "v") 5 (codes "n") (codes "m"))) ≡ bytes 1 11 (
    1 ∷ 0 ∷ 0 ∷ 0 ∷ 118 ∷ 5 ∷ 0 ∷ 0 ∷ 0 ∷ 0 ∷ 0 ∷ 0 ∷ 0 ∷ 1 ∷ 0 ∷ 0 ∷ 0 ∷ 110 ∷ 1 ∷ 0 ∷ 0 ∷ 0 ∷ 109 ∷ [])
an_mv = refl

a_put : spelling_of (row (deeds.Put (codes "v") (codes "a/b") (codes "hi"))) ≡ bytes 1 12 (
    1 ∷ 0 ∷ 0 ∷ 0 ∷ 118 ∷ 3 ∷ 0 ∷ 0 ∷ 0 ∷ 97 ∷ 47 ∷ 98 ∷ 2 ∷ 0 ∷ 0 ∷ 0 ∷ 104 ∷ 105 ∷ [])
a_put = refl

an_rm : spelling_of (row (deeds.Rm (codes "v") (codes "a/b"))) ≡ bytes 1 13 (
    1 ∷ 0 ∷ 0 ∷ 0 ∷ 118 ∷ 3 ∷ 0 ∷ 0 ∷ 0 ∷ 97 ∷ 47 ∷ 98 ∷ [])
an_rm = refl

a_mktype : spelling_of (row (deeds.Mktype type_kinds.Label (codes "B"))) ≡ bytes 1 14 (
    1 ∷ 1 ∷ 0 ∷ 0 ∷ 0 ∷ 66 ∷ [])
a_mktype = refl

a_mktype_of_branches : spelling_of (row (deeds.Mktype type_kinds.Branch (codes "B"))) ≡ bytes 1 14 (
    2 ∷ 1 ∷ 0 ∷ 0 ∷ 0 ∷ 66 ∷ [])
a_mktype_of_branches = refl

a_label : spelling_of (row (deeds.Label (codes "L") 5 6)) ≡ bytes 1 15 (
    1 ∷ 0 ∷ 0 ∷ 0 ∷ 76 ∷ 5 ∷ 0 ∷ 0 ∷ 0 ∷ 0 ∷ 0 ∷ 0 ∷ 0 ∷ 6 ∷ 0 ∷ 0 ∷ 0 ∷ 0 ∷ 0 ∷ 0 ∷ 0 ∷ [])
a_label = refl

an_unlabel : spelling_of (row (deeds.Unlabel (codes "L") 5)) ≡ bytes 1 16 (
    1 ∷ 0 ∷ 0 ∷ 0 ∷ 76 ∷ 5 ∷ 0 ∷ 0 ∷ 0 ∷ 0 ∷ 0 ∷ 0 ∷ 0 ∷ [])
an_unlabel = refl

a_publish : spelling_of (row (deeds.Publish (codes "v") (codes "x" ∷ []) (codes "ls") (read (codes "a") 7 ∷ [])
    (codes "hi" ∷ []))) ≡ bytes 1 17 (
    1 ∷ 0 ∷ 0 ∷ 0 ∷ 118 ∷ 1 ∷ 0 ∷ 0 ∷ 0 ∷ 1 ∷ 0 ∷ 0 ∷ 0 ∷ 120 ∷ 2 ∷ 0 ∷ 0 ∷ 0 ∷ 108 ∷ 115 ∷ 1 ∷ 0 ∷ 0 ∷ 0 ∷ 1 ∷ 0 ∷ 0 ∷ 0 ∷
    97 ∷ 7 ∷ 0 ∷ 0 ∷ 0 ∷ 0 ∷ 0 ∷ 0 ∷ 0 ∷ 1 ∷ 0 ∷ 0 ∷ 0 ∷ 2 ∷ 0 ∷ 0 ∷ 0 ∷ 104 ∷ 105 ∷ [])
a_publish = refl

a_publish_of_two : spelling_of (row (deeds.Publish (codes "v") (codes "x" ∷ codes "y" ∷ []) [] [] ([] ∷ codes "hi" ∷ [])))
    ≡ bytes 2 17 (
    1 ∷ 0 ∷ 0 ∷ 0 ∷ 118 ∷ 2 ∷ 0 ∷ 0 ∷ 0 ∷ 1 ∷ 0 ∷ 0 ∷ 0 ∷ 120 ∷ 1 ∷ 0 ∷ 0 ∷ 0 ∷ 121 ∷ 0 ∷ 0 ∷ 0 ∷ 0 ∷ 0 ∷ 0 ∷ 0 ∷ 0 ∷ 2 ∷
    0 ∷ 0 ∷ 0 ∷ 0 ∷ 0 ∷ 0 ∷ 0 ∷ 2 ∷ 0 ∷ 0 ∷ 0 ∷ 104 ∷ 105 ∷ [])
a_publish_of_two = refl

a_publish_of_three : spelling_of (row (deeds.Publish (codes "v") (codes "y" ∷ codes "x" ∷ codes "z" ∷ []) [] []
    ([] ∷ [] ∷ [] ∷ []))) ≡ bytes 2 17 (
    1 ∷ 0 ∷ 0 ∷ 0 ∷ 118 ∷ 3 ∷ 0 ∷ 0 ∷ 0 ∷ 1 ∷ 0 ∷ 0 ∷ 0 ∷ 121 ∷ 1 ∷ 0 ∷ 0 ∷ 0 ∷ 120 ∷ 1 ∷ 0 ∷ 0 ∷ 0 ∷ 122 ∷ 0 ∷ 0 ∷ 0 ∷ 0 ∷
    0 ∷ 0 ∷ 0 ∷ 0 ∷ 3 ∷ 0 ∷ 0 ∷ 0 ∷ 0 ∷ 0 ∷ 0 ∷ 0 ∷ 0 ∷ 0 ∷ 0 ∷ 0 ∷ 0 ∷ 0 ∷ 0 ∷ 0 ∷ [])
a_publish_of_three = refl

a_publish_with_two_reads : spelling_of (row (deeds.Publish (codes "v") (codes "x" ∷ []) []
    (read (codes "a") 7 ∷ read (codes "b") 0 ∷ []) ([] ∷ []))) ≡ bytes 1 17 (
    1 ∷ 0 ∷ 0 ∷ 0 ∷ 118 ∷ 1 ∷ 0 ∷ 0 ∷ 0 ∷ 1 ∷ 0 ∷ 0 ∷ 0 ∷ 120 ∷ 0 ∷ 0 ∷ 0 ∷ 0 ∷ 2 ∷ 0 ∷ 0 ∷ 0 ∷ 1 ∷ 0 ∷ 0 ∷ 0 ∷ 97 ∷
    7 ∷ 0 ∷ 0 ∷ 0 ∷ 0 ∷ 0 ∷ 0 ∷ 0 ∷ 1 ∷ 0 ∷ 0 ∷ 0 ∷ 98 ∷ 0 ∷ 0 ∷ 0 ∷ 0 ∷ 0 ∷ 0 ∷ 0 ∷ 0 ∷ 1 ∷ 0 ∷ 0 ∷ 0 ∷ 0 ∷ 0 ∷ 0 ∷ 0 ∷ [])
a_publish_with_two_reads = refl

a_wink : spelling_of (row (deeds.Wink (codes "v") 5)) ≡ bytes 1 18 (
    1 ∷ 0 ∷ 0 ∷ 0 ∷ 118 ∷ 5 ∷ 0 ∷ 0 ∷ 0 ∷ 0 ∷ 0 ∷ 0 ∷ 0 ∷ [])
a_wink = refl

a_drop : spelling_of (row (deeds.Drop (codes "v") (codes "a"))) ≡ bytes 1 19 (
    1 ∷ 0 ∷ 0 ∷ 0 ∷ 118 ∷ 1 ∷ 0 ∷ 0 ∷ 0 ∷ 97 ∷ [])
a_drop = refl

a_scrub : spelling_of (row (deeds.Scrub (5 ∷ 6 ∷ []))) ≡ bytes 1 20 (
    2 ∷ 0 ∷ 0 ∷ 0 ∷ 5 ∷ 0 ∷ 0 ∷ 0 ∷ 0 ∷ 0 ∷ 0 ∷ 0 ∷ 6 ∷ 0 ∷ 0 ∷ 0 ∷ 0 ∷ 0 ∷ 0 ∷ 0 ∷ [])
a_scrub = refl

a_labels : spelling_of (row (deeds.Labels (codes "L") (placed 5 9 ∷ placed 6 8 ∷ []))) ≡ bytes 1 21 (
    1 ∷ 0 ∷ 0 ∷ 0 ∷ 76 ∷ 2 ∷ 0 ∷ 0 ∷ 0 ∷ 5 ∷ 0 ∷ 0 ∷ 0 ∷ 0 ∷ 0 ∷ 0 ∷ 0 ∷ 9 ∷ 0 ∷ 0 ∷ 0 ∷ 0 ∷ 0 ∷ 0 ∷ 0 ∷ 6 ∷ 0 ∷ 0 ∷ 0 ∷
    0 ∷ 0 ∷ 0 ∷ 0 ∷ 8 ∷ 0 ∷ 0 ∷ 0 ∷ 0 ∷ 0 ∷ 0 ∷ 0 ∷ [])
a_labels = refl

an_arrow : spelling_of (row (deeds.Arrow 5 6 7)) ≡ bytes 1 22 (
    5 ∷ 0 ∷ 0 ∷ 0 ∷ 0 ∷ 0 ∷ 0 ∷ 0 ∷ 6 ∷ 0 ∷ 0 ∷ 0 ∷ 0 ∷ 0 ∷ 0 ∷ 0 ∷ 7 ∷ 0 ∷ 0 ∷ 0 ∷ 0 ∷ 0 ∷ 0 ∷ 0 ∷ [])
an_arrow = refl

a_publish_at : spelling_of (row (deeds.PublishAt (codes "v") (codes "x" ∷ []) (codes "ls") (read (codes "a") 7 ∷ [])
    (There (extent 5 6) ∷ []))) ≡ bytes 1 23 (
    1 ∷ 0 ∷ 0 ∷ 0 ∷ 118 ∷ 1 ∷ 0 ∷ 0 ∷ 0 ∷ 1 ∷ 0 ∷ 0 ∷ 0 ∷ 120 ∷ 2 ∷ 0 ∷ 0 ∷ 0 ∷ 108 ∷ 115 ∷ 1 ∷ 0 ∷ 0 ∷ 0 ∷ 1 ∷ 0 ∷ 0 ∷ 0 ∷
    97 ∷ 7 ∷ 0 ∷ 0 ∷ 0 ∷ 0 ∷ 0 ∷ 0 ∷ 0 ∷ 1 ∷ 0 ∷ 0 ∷ 0 ∷ 1 ∷ 5 ∷ 0 ∷ 0 ∷ 0 ∷ 0 ∷ 0 ∷ 0 ∷ 0 ∷ 6 ∷ 0 ∷ 0 ∷ 0 ∷ 0 ∷ 0 ∷ 0 ∷
    0 ∷ [])
a_publish_at = refl

-- the last place that a byte of the file of objects may have
a_publish_at_the_end : spelling_of (row (deeds.PublishAt (codes "v") (codes "x" ∷ []) [] [] (There (extent (2 ^ 63 - 2) 1) ∷ [])))
    ≡ bytes 1 23 (
    1 ∷ 0 ∷ 0 ∷ 0 ∷ 118 ∷ 1 ∷ 0 ∷ 0 ∷ 0 ∷ 1 ∷ 0 ∷ 0 ∷ 0 ∷ 120 ∷ 0 ∷ 0 ∷ 0 ∷ 0 ∷ 0 ∷ 0 ∷ 0 ∷ 0 ∷ 1 ∷ 0 ∷ 0 ∷ 0 ∷ 1 ∷
    254 ∷ 255 ∷ 255 ∷ 255 ∷ 255 ∷ 255 ∷ 255 ∷ 127 ∷ 1 ∷ 0 ∷ 0 ∷ 0 ∷ 0 ∷ 0 ∷ 0 ∷ 0 ∷ [])
a_publish_at_the_end = refl

a_publish_at_of_two : spelling_of (row (deeds.PublishAt (codes "v") (codes "x" ∷ codes "y" ∷ []) [] []
    (Here [] ∷ There (extent 0 1048576) ∷ []))) ≡ bytes 2 23 (
    1 ∷ 0 ∷ 0 ∷ 0 ∷ 118 ∷ 2 ∷ 0 ∷ 0 ∷ 0 ∷ 1 ∷ 0 ∷ 0 ∷ 0 ∷ 120 ∷ 1 ∷ 0 ∷ 0 ∷ 0 ∷ 121 ∷ 0 ∷ 0 ∷ 0 ∷ 0 ∷ 0 ∷ 0 ∷ 0 ∷ 0 ∷ 2 ∷
    0 ∷ 0 ∷ 0 ∷ 0 ∷ 0 ∷ 0 ∷ 0 ∷ 0 ∷ 1 ∷ 0 ∷ 0 ∷ 0 ∷ 0 ∷ 0 ∷ 0 ∷ 0 ∷ 0 ∷ 0 ∷ 0 ∷ 16 ∷ 0 ∷ 0 ∷ 0 ∷ 0 ∷ 0 ∷ [])
a_publish_at_of_two = refl
