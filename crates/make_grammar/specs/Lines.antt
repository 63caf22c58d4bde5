-- What each line of a makefile is by itself.
use Rattle.std.specs.Prelude.{ℕ, Bool, false, ◌-◌, ◌==◌, Option, Some, None, List, length, slice_get}
use Rattle.std.specs.List.{list_all}
use Rattle.cc_names.specs.Cuts.{is_blank}

-- whether there is a byte at all, and it is this one
abbrev pub is_byte : ℕ → Option ℕ → Bool
is_byte c None = false
is_byte c (Some b) = b == c

-- a line of a script begins with a tab
abbrev pub is_script_line : List ℕ → Bool
is_script_line line = is_byte 9 (slice_get line 0)

-- blanks alone, or nothing
abbrev pub is_blank_line : List ℕ → Bool
is_blank_line line = list_all is_blank line

-- a backslash at the end joins a line to the next
abbrev pub is_joined : List ℕ → Bool
is_joined line = is_byte 92 (slice_get line (length line - 1))

-- a `$` begins a macro
abbrev pub is_dollar : ℕ → Bool
is_dollar b = b == 36
