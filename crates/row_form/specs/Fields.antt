-- How the fields of a row are spelled. Numbers have their least byte first.
use Rattle.std.specs.Prelude.{ℕ, Bool, true, false, List, [], ◌∷◌, ◌++◌, length}
use Rattle.std.specs.Int.{w32, w64, to_le_bytes}
use Rattle.std.specs.List.{flat_map}
use Rattle.cc_names.specs.declared.rows.Kind.{Kind}
use Rattle.cc_names.specs.declared.rows.Kind.TheVariants as kinds
use Rattle.cc_names.specs.declared.rows.TypeKind.{TypeKind}
use Rattle.cc_names.specs.declared.rows.TypeKind.TheVariants as type_kinds
use Rattle.cc_names.specs.declared.rows.Out.{Out}
use Rattle.cc_names.specs.declared.rows.Out.TheVariants as outs
use Rattle.cc_names.specs.declared.rows.ReadOf.{ReadOf}
use Rattle.cc_names.specs.declared.rows.Placed.{Placed}
use Rattle.cc_names.specs.declared.rows.Stored.{Stored}
use Rattle.cc_names.specs.declared.rows.Stored.TheVariants.{Here, There}

-- a number of four bytes
abbrev pub word : ℕ → List ℕ
word n = to_le_bytes w32 n

-- a number of eight bytes
abbrev pub long : ℕ → List ℕ
long n = to_le_bytes w64 n

-- one byte
abbrev pub byte : ℕ → List ℕ
byte b = b ∷ []

-- a text, a name or a path: a length of four bytes, and the bytes
abbrev pub text : List ℕ → List ℕ
text bytes = word (length bytes) ++ bytes

-- a list: a count of four bytes, and the members
abbrev pub list_bytes : {A : Type 0} → (A → List ℕ) → List A → List ℕ
list_bytes spelled xs = word (length xs) ++ flat_map spelled xs

-- a flag
abbrev pub flag : Bool → List ℕ
flag false = 0 ∷ []
flag true = 1 ∷ []

-- an element's kind
abbrev pub kind : Kind → List ℕ
kind kinds.File = 1 ∷ []
kind kinds.Directory = 2 ∷ []

-- what a type is a type of
abbrev pub type_kind : TypeKind → List ℕ
type_kind type_kinds.Label = 1 ∷ []
type_kind type_kinds.Branch = 2 ∷ []

-- whether a branch is checked out, and how
abbrev pub out_byte : Out → List ℕ
out_byte outs.No = 0 ∷ []
out_byte outs.Reserved = 1 ∷ []
out_byte outs.Unreserved = 2 ∷ []

-- a read of a record: a path, and the row that made the text there
abbrev pub entry : ReadOf → List ℕ
entry read = text read.path ++ long read.row

-- a version of an element that a label is placed on
abbrev pub place_of : Placed → List ℕ
place_of placed = long placed.element ++ long placed.version

-- an output: 0 and its bytes, or 1 and its extent
abbrev pub stored_bytes : Stored → List ℕ
stored_bytes (Here bytes) = 0 ∷ text bytes
stored_bytes (There extent) = 1 ∷ (long extent.place ++ long extent.length)
