-- Numbers in decimal digits.
use Rattle.std.specs.Prelude.{ℕ, ◌^◌, Bool, true, false, not, ◌&&◌, ◌==◌, nat_lt, Option, Some, None, List, [], ◌∷◌}
use Rattle.std.specs.Prelude.{if◌then◌else◌}
use Rattle.std.specs.List.{list_all}
use Rattle.std.specs.Char.{is_ascii_digit}
use Rattle.std.specs.Str.Parse.{digits_value}

-- whether digits begin as no number does: there are none, or a 0 stands before others
abbrev pub begins_no_number : List ℕ → Bool
begins_no_number [] = true
begins_no_number (b ∷ []) = false
begins_no_number (b ∷ c ∷ bs) = b == 48

-- a number of eight bytes
abbrev pub below_limit : ℕ → Option ℕ
below_limit n = if nat_lt n (2 ^ 64) then Some n else None

-- bytes read as a number in decimal digits without leading zeros, below 2^64
abbrev pub number_of : List ℕ → Option ℕ
number_of bytes =
    if list_all is_ascii_digit bytes && not (begins_no_number bytes) then below_limit (digits_value 10 bytes) else None
