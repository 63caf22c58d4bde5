-- How a deed is read: its code, and then the fields that this code has. A deed has its reader, and a line in the table.
use Rattle.std.specs.Prelude.{ℕ, ◌&&◌, ◌==◌, Err, List, [], ◌∷◌, length, if◌then◌else◌}
use Rattle.std.specs.List.{list_any}
use Rattle.cc_names.specs.Formed.{is_there}
use Rattle.cc_names.specs.declared.rows.ReadOf.{ReadOf}
use Rattle.cc_names.specs.declared.rows.Stored.{Stored}
use Rattle.cc_names.specs.declared.rows.Deed.{Deed}
use Rattle.cc_names.specs.declared.rows.Deed.TheVariants as deeds
use Rattle.row_form.specs.Readers.{Reader, then_read, both, reader_of_some, value_if, reader_of, read_byte, read_long, read_text}
use Rattle.row_form.specs.Readers.{read_list}
use Rattle.row_form.specs.FieldReaders.{read_name, read_type_name, read_path, read_flag, read_kind, read_type_kind, read_out}
use Rattle.row_form.specs.FieldReaders.{read_stored, read_targets, read_entries, read_objects, read_places}

abbrev pub read_mkview : Reader Deed
read_mkview = reader_of deeds.Mkview read_name

abbrev pub read_rmview : Reader Deed
read_rmview = reader_of deeds.Rmview read_name

abbrev pub read_setcs : Reader Deed
read_setcs = reader_of (λ r. deeds.Setcs r.0 r.1) (both read_name read_text)

abbrev pub read_mkelem : Reader Deed
read_mkelem = reader_of (λ r. deeds.Mkelem r.0 r.1.0 r.1.1.0 r.1.1.1.0 r.1.1.1.1)
    (both read_name (both read_long (both read_name (both read_kind read_flag))))

abbrev pub read_checkout : Reader Deed
read_checkout = reader_of (λ r. deeds.Checkout r.0 r.1.0 r.1.1.0 r.1.1.1)
    (both read_name (both read_long (both read_long read_flag)))

abbrev pub read_branch : Reader Deed
read_branch = reader_of (λ r. deeds.Branch r.0 r.1.0 r.1.1.0 r.1.1.1.0 r.1.1.1.1)
    (both read_name (both read_long (both read_long (both read_type_name read_out))))

abbrev pub read_save : Reader Deed
read_save = reader_of (λ r. deeds.Save r.0 r.1.0 r.1.1) (both read_name (both read_long read_text))

abbrev pub read_checkin : Reader Deed
read_checkin = reader_of (λ r. deeds.Checkin r.0 r.1) (both read_name read_long)

abbrev pub read_uncheckout : Reader Deed
read_uncheckout = reader_of (λ r. deeds.Uncheckout r.0 r.1) (both read_name read_long)

abbrev pub read_rmname : Reader Deed
read_rmname = reader_of (λ r. deeds.Rmname r.0 r.1.0 r.1.1) (both read_name (both read_long read_name))

abbrev pub read_mv : Reader Deed
read_mv = reader_of (λ r. deeds.Mv r.0 r.1.0 r.1.1.0 r.1.1.1) (both read_name (both read_long (both read_name read_name)))

abbrev pub read_put : Reader Deed
read_put = reader_of (λ r. deeds.Put r.0 r.1.0 r.1.1) (both read_name (both read_path read_text))

abbrev pub read_rm : Reader Deed
read_rm = reader_of (λ r. deeds.Rm r.0 r.1) (both read_name read_path)

abbrev pub read_mktype : Reader Deed
read_mktype = reader_of (λ r. deeds.Mktype r.0 r.1) (both read_type_kind read_type_name)

abbrev pub read_label : Reader Deed
read_label = reader_of (λ r. deeds.Label r.0 r.1.0 r.1.1) (both read_type_name (both read_long read_long))

abbrev pub read_unlabel : Reader Deed
read_unlabel = reader_of (λ r. deeds.Unlabel r.0 r.1) (both read_type_name read_long)

abbrev pub read_wink : Reader Deed
read_wink = reader_of (λ r. deeds.Wink r.0 r.1) (both read_name read_long)

abbrev pub read_drop : Reader Deed
read_drop = reader_of (λ r. deeds.Drop r.0 r.1) (both read_name read_path)

abbrev pub read_scrub : Reader Deed
read_scrub = reader_of deeds.Scrub read_objects

abbrev pub read_labels : Reader Deed
read_labels = reader_of (λ r. deeds.Labels r.0 r.1) (both read_type_name read_places)

abbrev pub read_arrow : Reader Deed
read_arrow = reader_of (λ r. deeds.Arrow r.0 r.1.0 r.1.1) (both read_long (both read_long read_long))

-- what every publish has before its outputs: view, targets, script and reads
abbrev pub Record : Type 0
Record = List ℕ × (List (List ℕ) × (List ℕ × List ReadOf))

abbrev pub read_record : ℕ → Reader Record
read_record form = both read_name (both (read_targets form) (both read_text read_entries))

-- as many outputs as there are targets
abbrev pub read_outputs : ℕ → Reader (List (List ℕ))
read_outputs count = reader_of_some (value_if (λ outputs. length outputs == count)) (read_list read_text)

-- what every publish has, and its outputs
abbrev pub read_published : ℕ → Reader (Record × List (List ℕ))
read_published form bytes = then_read (read_record form bytes) (λ r. reader_of (λ outputs. (r, outputs))
    (read_outputs (length r.1.0)))

abbrev pub read_publish : ℕ → Reader Deed
read_publish form = reader_of (λ p. deeds.Publish p.0.0 p.0.1.0 p.0.1.1.0 p.0.1.1.1 p.1) (read_published form)

-- as many outputs as there are targets, one or more of them with an extent
abbrev pub read_stored_outputs : ℕ → Reader (List Stored)
read_stored_outputs count = reader_of_some (value_if (λ outputs. (length outputs == count) && list_any is_there outputs))
    (read_list read_stored)

-- the same with such outputs
abbrev pub read_published_at : ℕ → Reader (Record × List Stored)
read_published_at form bytes = then_read (read_record form bytes) (λ r. reader_of (λ outputs. (r, outputs))
    (read_stored_outputs (length r.1.0)))

abbrev pub read_publish_at : ℕ → Reader Deed
read_publish_at form = reader_of (λ p. deeds.PublishAt p.0.0 p.0.1.0 p.0.1.1.0 p.0.1.1.1 p.1) (read_published_at form)

-- a deed's code and its reader
abbrev pub CodedReader : Type 0
CodedReader = ℕ × Reader Deed

-- the deeds that have the first byte 1 alone
abbrev pub plain_deeds : List CodedReader
plain_deeds =
    (1, read_mkview) ∷ (2, read_rmview) ∷ (3, read_setcs) ∷ (4, read_mkelem) ∷ (5, read_checkout) ∷ (6, read_branch)
    ∷ (7, read_save)
    ∷ (8, read_checkin) ∷ (9, read_uncheckout) ∷ (10, read_rmname) ∷ (11, read_mv) ∷ (12, read_put) ∷ (13, read_rm)
    ∷ (14, read_mktype)
    ∷ (15, read_label) ∷ (16, read_unlabel) ∷ (18, read_wink) ∷ (19, read_drop) ∷ (20, read_scrub) ∷ (21, read_labels)
    ∷ (22, read_arrow) ∷ []

-- the deeds that may have this first byte
abbrev pub deeds_under : ℕ → List CodedReader
deeds_under form = (17, read_publish form) ∷ (23, read_publish_at form) ∷ (if form == 1 then plain_deeds else [])

-- the fields of the deed of this code; a code that no deed has fails where it begins
abbrev pub read_fields : List CodedReader → ℕ → List ℕ → Reader Deed
read_fields [] code bytes rest = Err bytes
read_fields (line ∷ lines) code bytes rest = if code == line.0 then line.1 rest else read_fields lines code bytes rest

-- the deed of a row of this first byte
abbrev pub read_deed : ℕ → Reader Deed
read_deed form bytes = then_read (read_byte bytes) (λ code. read_fields (deeds_under form) code bytes)
