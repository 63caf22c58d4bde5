-- How a row is read, and where bytes that spell no row fail.
use Rattle.std.specs.Prelude.{ℕ, ◌-◌, ◌||◌, ◌==◌, nat_le, Option, Some, None, Ok, Err, List, [], ◌∷◌, length}
use Rattle.cc_names.specs.declared.rows.Deed.{Deed}
use Rattle.cc_names.specs.declared.rows.Tag.{Tag}
use Rattle.row_form.specs.Readers.{Reading, Reader, then_read, both, reader_of_some, value_if, reader_of, read_byte, read_word}
use Rattle.row_form.specs.Readers.{read_long}
use Rattle.row_form.specs.DeedReaders.{read_deed}

-- the first byte of a row
abbrev pub read_form : Reader ℕ
read_form = reader_of_some (value_if (λ form. (form == 1) || (form == 2))) read_byte

-- phase, lane and command
abbrev pub tag_of : ℕ × (ℕ × ℕ) → Tag
tag_of numbers = record { phase = numbers.0; lane = numbers.1.0; command = numbers.1.1 }

abbrev pub read_tag : Reader Tag
read_tag = reader_of tag_of (both read_word (both read_word read_word))

-- up to the end of the year 9999
abbrev pub read_moment : Reader ℕ
read_moment = reader_of_some (value_if (λ moment. nat_le moment 253402300799)) read_long

-- a row's tag and moment, and its deed
abbrev pub Parts : Type 0
Parts = (Tag × ℕ) × Deed

-- the first byte, and the parts after it
abbrev pub read_parts : Reader Parts
read_parts bytes = then_read (read_form bytes) (λ form. both (both read_tag read_moment) (read_deed form))

-- the value where there is no excess byte
abbrev pub value_at_end : {A : Type 0} → A → Reader A
value_at_end a [] = Ok (a, [])
value_at_end a (b ∷ bytes) = Err (b ∷ bytes)

-- a row, with nothing after it
abbrev pub read_row : Reader Parts
read_row bytes = then_read (read_parts bytes) value_at_end

-- the offset at which reading this many bytes fails
abbrev pub place_of_fault : {A : Type 0} → ℕ → Reading A → Option ℕ
place_of_fault size (Ok read) = None
place_of_fault size (Err at) = Some (size - length at)

-- The offset, counted from 0, of the first field of a row that cannot be read, or of the first excess byte.
abbrev pub fault_of : List ℕ → Option ℕ
fault_of bytes = place_of_fault (length bytes) (read_row bytes)
