-- How the fields of a row are read. A field whose value breaks its rule cannot be read.
use Rattle.std.specs.Prelude.{ℕ, ◌+◌, ◌^◌, Bool, true, false, not, ◌&&◌, ◌==◌, nat_le, nat_lt, Option, Some, None, Err, List, []}
use Rattle.std.specs.Prelude.{◌∷◌, if◌then◌else◌}
use Rattle.std.specs.List.{list_any}
use Rattle.std.specs.Str.{bytes_eq}
use Rattle.std.specs.Result.{result_ok}
use Rattle.std.specs.Cmp.Lexicographic.{slice_cmp}
use Rattle.std.specs.Ordering.{nat_cmp, is_lt}
use Rattle.std.specs.declared.cmp.Ordering.{Ordering}
use Rattle.cc_names.specs.Formed.{begins_with_letter}
use Rattle.cc_names.specs.Names.{name_of}
use Rattle.cc_names.specs.Paths.{path_of, is_root}
use Rattle.cc_names.specs.declared.rows.Kind.{Kind}
use Rattle.cc_names.specs.declared.rows.Kind.TheVariants as kinds
use Rattle.cc_names.specs.declared.rows.TypeKind.{TypeKind}
use Rattle.cc_names.specs.declared.rows.TypeKind.TheVariants as type_kinds
use Rattle.cc_names.specs.declared.rows.Out.{Out}
use Rattle.cc_names.specs.declared.rows.Out.TheVariants as outs
use Rattle.cc_names.specs.declared.rows.ReadOf.{ReadOf}
use Rattle.cc_names.specs.declared.rows.Placed.{Placed}
use Rattle.cc_names.specs.declared.rows.Extent.{Extent}
use Rattle.cc_names.specs.declared.rows.Stored.{Stored}
use Rattle.cc_names.specs.declared.rows.Stored.TheVariants.{Here, There}
use Rattle.row_form.specs.Readers.{Reader, then_read, both, reader_of_some, value_if, reader_of, read_byte, read_long, read_text}
use Rattle.row_form.specs.Readers.{read_list}
use Rattle.row_form.specs.Spelled.{form_of}

-- a name
abbrev pub read_name : Reader (List ℕ)
read_name = reader_of_some (λ text. result_ok (name_of text)) read_text

-- the name of a label type or a branch type
abbrev pub read_type_name : Reader (List ℕ)
read_type_name = reader_of_some (value_if begins_with_letter) read_name

-- a path
abbrev pub read_any_path : Reader (List ℕ)
read_any_path = reader_of_some (λ text. result_ok (path_of text)) read_text

-- a path below the root
abbrev pub read_path : Reader (List ℕ)
read_path = reader_of_some (value_if (λ path. not (is_root path))) read_any_path

-- the flag of a byte
abbrev pub flag_of : ℕ → Option Bool
flag_of byte = if byte == 0 then Some false else if byte == 1 then Some true else None

abbrev pub read_flag : Reader Bool
read_flag = reader_of_some flag_of read_byte

-- the kind of element of a byte
abbrev pub kind_by_code : ℕ → Option Kind
kind_by_code byte = if byte == 1 then Some kinds.File else if byte == 2 then Some kinds.Directory else None

abbrev pub read_kind : Reader Kind
read_kind = reader_of_some kind_by_code read_byte

-- the kind of type of a byte
abbrev pub type_kind_of : ℕ → Option TypeKind
type_kind_of byte = if byte == 1 then Some type_kinds.Label else if byte == 2 then Some type_kinds.Branch else None

abbrev pub read_type_kind : Reader TypeKind
read_type_kind = reader_of_some type_kind_of read_byte

-- whether a branch is checked out, and how, of a byte
abbrev pub out_of : ℕ → Option Out
out_of byte = if byte == 0 then Some outs.No else if byte == 1 then Some outs.Reserved else if byte == 2 then Some outs.Unreserved
    else None

abbrev pub read_out : Reader Out
read_out = reader_of_some out_of read_byte

-- a read of a record
abbrev pub entry_of : List ℕ × ℕ → ReadOf
entry_of pair = record { path = pair.0; row = pair.1 }

abbrev pub read_entry : Reader ReadOf
read_entry = reader_of entry_of (both read_path read_long)

-- a version of an element
abbrev pub placed_of : ℕ × ℕ → Placed
placed_of pair = record { element = pair.0; version = pair.1 }

abbrev pub read_placed : Reader Placed
read_placed = reader_of placed_of (both read_long read_long)

-- whether an extent may begin at this offset: one byte there ends below 2^63
abbrev pub may_begin : ℕ → Bool
may_begin place = nat_lt (place + 1) (2 ^ 63)

-- whether an extent at this offset may have this length
abbrev pub may_have : ℕ → ℕ → Bool
may_have place size = nat_lt 0 size && nat_le size 1048576 && nat_lt (place + size) (2 ^ 63)

-- the extent of this offset and length
abbrev pub extent_of : ℕ → ℕ → Option Extent
extent_of place size = if may_have place size then Some (record { place = place; length = size }) else None

-- the offset of an extent
abbrev pub read_place : Reader ℕ
read_place = reader_of_some (value_if may_begin) read_long

-- An extent of the file of objects: an offset that no extent may have fails there, any other wrong extent at its length.
abbrev pub read_extent : Reader Extent
read_extent bytes = then_read (read_place bytes) (λ place. reader_of_some (extent_of place) read_long)

-- an output of this kind; an unknown kind fails where the output began
abbrev pub read_stored_of : List ℕ → ℕ → Reader Stored
read_stored_of bytes kind rest = if kind == 0 then reader_of Here read_text rest else if kind == 1 then reader_of There
    read_extent rest else Err bytes

-- an output: 0 and its bytes, or 1 and its extent
abbrev pub read_stored : Reader Stored
read_stored bytes = then_read (read_byte bytes) (read_stored_of bytes)

-- whether a list has members
abbrev pub is_some_list : {A : Type 0} → List A → Bool
is_some_list [] = false
is_some_list (a ∷ others) = true

-- whether each member is below the next, and the first above this one
abbrev pub ascends_from : {A : Type 0} → (A → A → Ordering) → A → List A → Bool
ascends_from cmp before [] = true
ascends_from cmp before (a ∷ others) = is_lt (cmp before a) && ascends_from cmp a others

-- whether each member is below the next
abbrev pub ascends : {A : Type 0} → (A → A → Ordering) → List A → Bool
ascends cmp [] = true
ascends cmp (a ∷ others) = ascends_from cmp a others

-- the order of reads: byte order of their paths
abbrev pub entry_cmp : ReadOf → ReadOf → Ordering
entry_cmp a b = slice_cmp nat_cmp a.path b.path

-- the order of labelled versions: by their elements
abbrev pub placed_cmp : Placed → Placed → Ordering
placed_cmp a b = nat_cmp a.element b.element

-- whether no target occurs twice
abbrev pub are_distinct : List (List ℕ) → Bool
are_distinct [] = true
are_distinct (target ∷ others) = not (list_any (λ other. bytes_eq other target) others) && are_distinct others

-- whether these are the targets of a publish of this first byte: one or more, each once
abbrev pub are_targets : ℕ → List (List ℕ) → Bool
are_targets form targets = is_some_list targets && (form_of targets == form) && are_distinct targets

abbrev pub read_targets : ℕ → Reader (List (List ℕ))
read_targets form = reader_of_some (value_if (are_targets form)) (read_list read_path)

-- reads in byte order of their paths, each path once
abbrev pub read_entries : Reader (List ReadOf)
read_entries = reader_of_some (value_if (ascends entry_cmp)) (read_list read_entry)

-- objects, one or more, ascending
abbrev pub read_objects : Reader (List ℕ)
read_objects = reader_of_some (value_if (λ objects. is_some_list objects && ascends nat_cmp objects)) (read_list read_long)

-- versions, one or more, their elements ascending
abbrev pub read_places : Reader (List Placed)
read_places = reader_of_some (value_if (λ placed. is_some_list placed && ascends placed_cmp placed)) (read_list read_placed)
