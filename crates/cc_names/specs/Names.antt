-- What a name is, and the first fault, from the left, of bytes that are none.
use Rattle.std.specs.Prelude.{◌≡◌, ℕ, ◌+◌, Bool, false, ◌&&◌, ◌||◌, ◌==◌, not, nat_lt, nat_le, Option, Some, None, Result, Ok}
use Rattle.std.specs.Prelude.{Err, List, [], ◌∷◌, length, slice_get, if◌then◌else◌}
use Rattle.std.specs.List.{list_all, position}
use Rattle.cc_names.specs.declared.names.NameFault.{NameFault}
use Rattle.cc_names.specs.declared.names.NameFault.TheVariants.{Empty, BadByte, TooLong}

-- a byte of a name: a letter, a digit, or one of `_ - . +`
abbrev pub is_name_byte : ℕ → Bool
is_name_byte b =
    (nat_le 97 b && nat_le b 122) || (nat_le 65 b && nat_le b 90) || (nat_le 48 b && nat_le b 57)
    || (b == 95) || (b == 45) || (b == 46) || (b == 43)

-- a `.`
abbrev pub is_dot : ℕ → Bool
is_dot b = b == 46

-- a `-`, where there is a byte at all
abbrev pub is_dash : Option ℕ → Bool
is_dash None = false
is_dash (Some b) = b == 45

-- whether bytes begin as no name does: the first is `-`, or all are dots, or there are none
abbrev pub begins_no_name : List ℕ → Bool
begins_no_name name = is_dash (slice_get name 0) || list_all is_dot name

-- the fault by the first bad byte, if there is one, and else by the length
abbrev pub fault_of_bytes : Option ℕ → ℕ → ℕ → Option NameFault
fault_of_bytes (Some i) place len = Some (BadByte (place + i))
fault_of_bytes None place len = if nat_lt 255 len then Some (TooLong len) else None

-- the fault of the name that begins at this place of a text
abbrev pub fault_at : ℕ → List ℕ → Option NameFault
fault_at place name =
    if begins_no_name name then Some (BadByte place)
    else fault_of_bytes (position (λ b. not (is_name_byte b)) name) place (length name)

-- the fault of a name that stands alone
abbrev pub name_fault : List ℕ → Option NameFault
name_fault [] = Some Empty
name_fault (b ∷ bs) = fault_at 0 (b ∷ bs)

-- A name: 1 to 255 bytes of letters, digits and `_ - . +`, not begun with `-` and not all dots.
pub record IsName (bytes : List ℕ) : Type 0 where
  pub no_fault : name_fault bytes ≡ None

-- the bytes where they have no fault
abbrev pub unless_fault : Option NameFault → List ℕ → Result (List ℕ) NameFault
unless_fault None bytes = Ok bytes
unless_fault (Some fault) bytes = Err fault

-- bytes read as a name
abbrev pub name_of : List ℕ → Result (List ℕ) NameFault
name_of bytes = unless_fault (name_fault bytes) bytes
