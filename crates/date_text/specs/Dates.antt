-- The text of a moment, `d-Mmm-yyyy.hh:mm:ss` in UTC, and what is wrong with a text that is none.
use Rattle.std.specs.Prelude.{ℕ, ◌+◌, ◌-◌, ◌/◌, ◌%◌, Bool, not, ◌&&◌, ◌==◌, nat_le, nat_lt, Option, Some, None, is_some, Result}
use Rattle.std.specs.Prelude.{Ok, Err, pos, List, [], ◌∷◌, ◌++◌, length, take, drop, find, take_while, unwrap_or, slice_get}
use Rattle.std.specs.Prelude.{if◌then◌else◌, codes}
use Rattle.std.specs.Char.{is_ascii_digit}
use Rattle.std.specs.Str.{bytes_eq}
use Rattle.std.specs.Str.Parse.{digits_value}
use Rattle.std.specs.List.{list_all, position}
use Rattle.std.specs.Option.{option_map}
use Rattle.jiff_core.specs.Calendar.{days_in_month}
use Rattle.date_text.specs.Civil.{moment_of, civil_of}
use Rattle.date_text.specs.declared.reading.BadDate.{BadDate}
use Rattle.date_text.specs.declared.civil.Civil.{Civil}
use Rattle.date_text.specs.declared.fields.Field.{Field}

-- the months' names, from January on
abbrev pub month_names : List (List ℕ)
month_names =
    codes "Jan" ∷ codes "Feb" ∷ codes "Mar" ∷ codes "Apr" ∷ codes "May" ∷ codes "Jun"
    ∷ codes "Jul" ∷ codes "Aug" ∷ codes "Sep" ∷ codes "Oct" ∷ codes "Nov" ∷ codes "Dec" ∷ []

-- the bytes of a text from a place on, at most so many
abbrev pub piece : List ℕ → ℕ → ℕ → List ℕ
piece text place count = take count (drop place text)

-- whether bytes are so many digits, of a number between two bounds
abbrev pub is_number_between : ℕ → ℕ → ℕ → List ℕ → Bool
is_number_between count low high bytes =
    (length bytes == count) && list_all is_ascii_digit bytes && nat_le low (digits_value 10 bytes)
    && nat_le (digits_value 10 bytes) high

-- the place of a month in the year, from 0, by its name
abbrev pub month_place : List ℕ → Option ℕ
month_place bytes = position (bytes_eq bytes) month_names

-- a field that is one sign
abbrev pub sign_field : List ℕ → ℕ → ℕ → Field
sign_field text place sign = record { place = place; right = bytes_eq (piece text place 1) (sign ∷ []) }

-- a field that is a number of so many digits, within bounds
abbrev pub number_field : List ℕ → ℕ → ℕ → ℕ → ℕ → Field
number_field text place count low high =
    record { place = place; right = is_number_between count low high (piece text place count) }

-- a field that is a month's name
abbrev pub month_field : List ℕ → ℕ → Field
month_field text place = record { place = place; right = is_some (month_place (piece text place 3)) }

-- the end of the text
abbrev pub end_field : List ℕ → ℕ → Field
end_field text place = record { place = place; right = nat_le (length text) place }

-- the digits that the day takes: those at the start, at most two
abbrev pub day_length : List ℕ → ℕ
day_length text = length (take_while is_ascii_digit (take 2 text))

-- the fields of a text whose day has so many digits, in order
abbrev pub fields_from : List ℕ → ℕ → List Field
fields_from text day =
    number_field text 0 day 1 31 ∷ sign_field text day 45 ∷ month_field text (day + 1) ∷ sign_field text (day + 4) 45
    ∷ number_field text (day + 5) 4 1970 9999 ∷ sign_field text (day + 9) 46
    ∷ number_field text (day + 10) 2 0 23 ∷ sign_field text (day + 12) 58
    ∷ number_field text (day + 13) 2 0 59 ∷ sign_field text (day + 15) 58
    ∷ number_field text (day + 16) 2 0 59 ∷ end_field text (day + 18) ∷ []

-- the fields of a text, whose day has one digit or two
abbrev pub fields : List ℕ → List Field
fields text = fields_from text (day_length text)

-- whether a field is wrong
abbrev pub is_wrong : Field → Bool
is_wrong field = not field.right

-- where a field begins
abbrev pub field_place : Field → ℕ
field_place field = field.place

-- where the first field begins that is wrong
unfoldable pub first_wrong : List Field → Option ℕ
first_wrong fields = option_map field_place (find is_wrong fields)

-- the parts that the fields of a text name, where they are right
abbrev pub parts_from : List ℕ → ℕ → Civil
parts_from text day =
    record {
      year = digits_value 10 (piece text (day + 5) 4);
      month = unwrap_or (month_place (piece text (day + 1) 3)) 0 + 1;
      day = digits_value 10 (piece text 0 day);
      hour = digits_value 10 (piece text (day + 10) 2);
      minute = digits_value 10 (piece text (day + 13) 2);
      second = digits_value 10 (piece text (day + 16) 2);
    }

-- the moment of these parts, where the month has the day; else the day, which stands at the start, is wrong
abbrev pub moment_of_day : Civil → Result ℕ BadDate
moment_of_day civil =
    if nat_le civil.day (days_in_month (pos civil.year) civil.month) then Ok (moment_of civil)
    else Err (record { 0 = 0 })

-- the fault at the first wrong field, and the moment where there is none
abbrev pub unless_wrong_field : Option ℕ → Civil → Result ℕ BadDate
unless_wrong_field (Some place) civil = Err (record { 0 = place })
unless_wrong_field None civil = moment_of_day civil

-- bytes read as a date
abbrev pub date_of : List ℕ → Result ℕ BadDate
date_of text = unless_wrong_field (first_wrong (fields text)) (parts_from text (day_length text))

-- two digits
abbrev pub two_digits : ℕ → List ℕ
two_digits n = (48 + n / 10) ∷ (48 + n % 10) ∷ []

-- one digit where the number is below 10, else two
abbrev pub short_digits : ℕ → List ℕ
short_digits n = if nat_lt n 10 then (48 + n) ∷ [] else two_digits n

-- the name of a month by its number, from 1
abbrev pub month_name : ℕ → List ℕ
month_name month = unwrap_or (slice_get month_names (month - 1)) []

-- the text of a moment with these parts
abbrev pub text_of_parts : Civil → List ℕ
text_of_parts civil =
    short_digits civil.day ++ 45 ∷ month_name civil.month ++ 45 ∷ two_digits (civil.year / 100)
    ++ two_digits (civil.year % 100) ++ 46 ∷ two_digits civil.hour ++ 58 ∷ two_digits civil.minute
    ++ 58 ∷ two_digits civil.second

-- a moment written as a date
abbrev pub date_as_text : ℕ → List ℕ
date_as_text moment = text_of_parts (civil_of moment)
