-- How bytes are read, part by part. Where bytes cannot be read, these definitions say from which byte on; that what they read is
-- what is spelled so, and nothing else, is proved of them.
use Rattle.std.specs.Prelude.{ℕ, zero, suc, Bool, nat_le, Option, Some, None, Result, Ok, Err, List, [], ◌∷◌, length, take, drop}
use Rattle.std.specs.Prelude.{if◌then◌else◌}
use Rattle.std.specs.Int.{w32, w64, from_le_bytes}

-- what reading gives: a value and the bytes after it; or, where a field cannot be read, the bytes from that field on
abbrev pub Reading : Type 0 → Type 0
Reading A = Result (A × List ℕ) (List ℕ)

-- a way to read a value where bytes begin
abbrev pub Reader : Type 0 → Type 0
Reader A = List ℕ → Reading A

-- what is read after a value
abbrev pub then_read : {A B : Type 0} → Reading A → (A → Reader B) → Reading B
then_read (Ok read) next = next read.0 read.1
then_read (Err at) next = Err at

-- one part and then another
abbrev pub both : {A B : Type 0} → Reader A → Reader B → Reader (A × B)
both one two bytes = then_read (one bytes) (λ a rest. then_read (two rest) (λ b end. Ok ((a, b), end)))

-- the value, if there is one; else the part fails where it began
abbrev pub or_fail : {A : Type 0} → List ℕ → Option A → Reader A
or_fail bytes (Some a) rest = Ok (a, rest)
or_fail bytes None rest = Err bytes

-- a part of which not all that is read is a value
abbrev pub reader_of_some : {A B : Type 0} → (A → Option B) → Reader A → Reader B
reader_of_some choose read bytes = then_read (read bytes) (λ a rest. or_fail bytes (choose a) rest)

-- a value made of what was read
abbrev pub reader_of : {A B : Type 0} → (A → B) → Reader A → Reader B
reader_of make = reader_of_some (λ a. Some (make a))

-- the value where it passes a test
abbrev pub value_if : {A : Type 0} → (A → Bool) → A → Option A
value_if test a = if test a then Some a else None

-- a byte
abbrev pub read_byte : Reader ℕ
read_byte [] = Err []
read_byte (b ∷ bytes) = Ok (b, bytes)

-- a number of four bytes
abbrev pub read_word : Reader ℕ
read_word bytes = if nat_le 4 (length bytes) then Ok (from_le_bytes w32 (take 4 bytes), drop 4 bytes) else Err bytes

-- a number of eight bytes
abbrev pub read_long : Reader ℕ
read_long bytes = if nat_le 8 (length bytes) then Ok (from_le_bytes w64 (take 8 bytes), drop 8 bytes) else Err bytes

-- this many bytes; where there are fewer, reading fails where the text began
abbrev pub read_bytes : List ℕ → ℕ → Reader (List ℕ)
read_bytes bytes size rest = if nat_le size (length rest) then Ok (take size rest, drop size rest) else Err bytes

-- a text: its length and its bytes are one field
abbrev pub read_text : Reader (List ℕ)
read_text bytes = then_read (read_word bytes) (read_bytes bytes)

-- this many members, one after the other
abbrev pub read_members : {A : Type 0} → Reader A → ℕ → Reader (List A)
read_members read zero bytes = Ok ([], bytes)
read_members read (suc count) bytes = then_read (read bytes) (λ a rest. then_read (read_members read count rest)
    (λ others end. Ok (a ∷ others, end)))

-- a list: a count of four bytes, and the members
abbrev pub read_list : {A : Type 0} → Reader A → Reader (List A)
read_list read bytes = then_read (read_word bytes) (read_members read)
