-- The one spelling of a row.
use Rattle.std.specs.Prelude.{ℕ, List, [], ◌∷◌, ◌++◌}
use Rattle.cc_names.specs.Formed.{Plain}
use Rattle.cc_names.specs.declared.rows.Deed.{Deed}
use Rattle.cc_names.specs.declared.rows.Deed.TheVariants as deeds
use Rattle.row_form.specs.Fields.{word, long, text, list_bytes, flag, kind, type_kind, out_byte, entry, place_of, stored_bytes}

-- the code of a deed
abbrev pub code_of : Deed → ℕ
code_of (deeds.Mkview view) = 1
code_of (deeds.Rmview view) = 2
code_of (deeds.Setcs view spec) = 3
code_of (deeds.Mkelem view directory name sort out) = 4
code_of (deeds.Checkout view element origin reserved) = 5
code_of (deeds.Branch view element origin name out) = 6
code_of (deeds.Save view element bytes) = 7
code_of (deeds.Checkin view element) = 8
code_of (deeds.Uncheckout view element) = 9
code_of (deeds.Rmname view directory name) = 10
code_of (deeds.Mv view directory from_name to_name) = 11
code_of (deeds.Put view path bytes) = 12
code_of (deeds.Rm view path) = 13
code_of (deeds.Mktype sort name) = 14
code_of (deeds.Label label element version) = 15
code_of (deeds.Unlabel label element) = 16
code_of (deeds.Publish view targets script entries outputs) = 17
code_of (deeds.Wink view object) = 18
code_of (deeds.Drop view path) = 19
code_of (deeds.Scrub objects) = 20
code_of (deeds.Labels label placed) = 21
code_of (deeds.Arrow element tail head) = 22
code_of (deeds.PublishAt view targets script entries outputs) = 23

-- The fields of a deed, in order. A table a subject; the last has all others.

-- the fields of a deed about objects; no other deed has any of these
abbrev pub object_fields : Deed → List ℕ
object_fields (deeds.Publish view targets script entries outputs) =
    text view ++ (list_bytes text targets ++ (text script ++ (list_bytes entry entries ++ list_bytes text outputs)))
object_fields (deeds.PublishAt view targets script entries outputs) =
    text view ++ (list_bytes text targets ++ (text script ++ (list_bytes entry entries ++ list_bytes stored_bytes outputs)))
object_fields (deeds.Wink view object) = text view ++ long object
object_fields (deeds.Drop view path) = text view ++ text path
object_fields (deeds.Scrub objects) = list_bytes long objects
object_fields _ = []

-- the fields of a deed about types, labels and arrows, or objects
abbrev pub type_fields : Deed → List ℕ
type_fields (deeds.Mktype sort name) = type_kind sort ++ text name
type_fields (deeds.Label label element version) = text label ++ (long element ++ long version)
type_fields (deeds.Unlabel label element) = text label ++ long element
type_fields (deeds.Labels label placed) = text label ++ list_bytes place_of placed
type_fields (deeds.Arrow element tail head) = long element ++ (long tail ++ long head)
type_fields deed = object_fields deed

-- the fields of a deed about checkouts and branches, or one of those above
abbrev pub checkout_fields : Deed → List ℕ
checkout_fields (deeds.Checkout view element origin reserved) = text view ++ (long element ++ (long origin ++ flag reserved))
checkout_fields (deeds.Branch view element origin name out) = text view
    ++ (long element ++ (long origin ++ (text name ++ out_byte out)))
checkout_fields (deeds.Save view element bytes) = text view ++ (long element ++ text bytes)
checkout_fields (deeds.Checkin view element) = text view ++ long element
checkout_fields (deeds.Uncheckout view element) = text view ++ long element
checkout_fields deed = type_fields deed

-- the fields of a deed about directories, or one of those above
abbrev pub directory_fields : Deed → List ℕ
directory_fields (deeds.Mkelem view directory name sort out) = text view
    ++ (long directory ++ (text name ++ (kind sort ++ flag out)))
directory_fields (deeds.Rmname view directory name) = text view ++ (long directory ++ text name)
directory_fields (deeds.Mv view directory from_name to_name) = text view ++ (long directory ++ (text from_name ++ text to_name))
directory_fields deed = checkout_fields deed

-- the fields of a deed: those about views and their private files, and all others
abbrev pub fields_of : Deed → List ℕ
fields_of (deeds.Mkview view) = text view
fields_of (deeds.Rmview view) = text view
fields_of (deeds.Setcs view spec) = text view ++ text spec
fields_of (deeds.Put view path bytes) = text view ++ (text path ++ text bytes)
fields_of (deeds.Rm view path) = text view ++ text path
fields_of deed = directory_fields deed

-- the first byte of a publish: 2 where it has two targets or more
abbrev pub form_of : List (List ℕ) → ℕ
form_of (first ∷ second ∷ targets) = 2
form_of _ = 1

-- the first byte of a row
abbrev pub first_byte : Deed → ℕ
first_byte (deeds.Publish view targets script entries outputs) = form_of targets
first_byte (deeds.PublishAt view targets script entries outputs) = form_of targets
first_byte _ = 1

-- what a row has before its deed's code: the first byte; phase, lane and command; the moment
abbrev pub head_of : Plain → List ℕ
head_of row = first_byte row.deed ∷ (word row.tag.phase ++ (word row.tag.lane ++ (word row.tag.command ++ long row.moment)))

-- The spelling of a row: the first byte; phase, lane and command; the moment; the deed's code; the deed's fields.
abbrev pub spelling_of : Plain → List ℕ
spelling_of row =
    first_byte row.deed ∷ (word row.tag.phase ++ (word row.tag.lane ++ (word row.tag.command ++ (long row.moment
    ++ (code_of row.deed ∷ fields_of row.deed)))))
