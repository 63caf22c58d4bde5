-- The parts of a moment on the calendar and the clock, in UTC, and the moment of such parts.
use Rattle.std.specs.Prelude.{ℕ, zero, suc, ◌+◌, ◌-◌, ◌*◌, ◌/◌, ◌%◌, ◌<◌, Bool, true, false, nat_lt, pos, unsigned_abs}
use Rattle.std.specs.Int.{IsInRange}
use Rattle.date_text.specs.declared.civil.Civil.{Civil}
use Rattle.jiff_core.specs.Calendar.{days_in_month, days_in_year, days_from_civil}

-- the years, months, days, hours, minutes and seconds that the form has at all
pub record IsInForm (civil : Civil) : Type 0 where
  pub year : IsInRange 1970 9999 civil.year
  pub month : IsInRange 1 12 civil.month
  pub day : IsInRange 1 31 civil.day
  pub hour : civil.hour < 24
  pub minute : civil.minute < 60
  pub second : civil.second < 60

-- the days from 1 January 1970 to this day
abbrev pub day_number : Civil → ℕ
day_number civil = unsigned_abs (days_from_civil (pos civil.year) civil.month civil.day)

-- the seconds from the beginning of 1970 to the moment with these parts
abbrev pub moment_of : Civil → ℕ
moment_of civil = day_number civil * 86400 + civil.hour * 3600 + civil.minute * 60 + civil.second

-- which of the years or months that follow each other a day lies in, and which day of it that is, counted from 0
pub record Within : Type 0 where
  pub whole : ℕ
  pub days : ℕ

-- this one, where the day lies in it; else what comes of the days that are left
abbrev pub here_or_next : Bool → ℕ → ℕ → ℕ → (ℕ → Within) → Within
here_or_next true length whole days next = record { whole = whole; days = days }
here_or_next false length whole days next = next (days - length)

-- Where the day lies that comes so many days after the beginning of a year or month. The lengths of these are given,
-- and at most how many there are to pass.
abbrev pub day_within : (ℕ → ℕ) → ℕ → ℕ → ℕ → Within
day_within lengths zero whole days = record { whole = whole; days = days }
day_within lengths (suc more) whole days =
    here_or_next (nat_lt days (lengths whole)) (lengths whole) whole days (day_within lengths more (whole + 1))

-- the days of a year, counted from 0
abbrev pub length_of_year : ℕ → ℕ
length_of_year year = days_in_year (pos year)

-- the days of a month, counted from 0
abbrev pub length_of_month : ℕ → ℕ → ℕ
length_of_month year month = days_in_month (pos year) month

-- the parts, of a day of a month of a year and a second of the day
abbrev pub parts_in : ℕ → Within → ℕ → Civil
parts_in year month second = record {
  year = year;
  month = month.whole;
  day = month.days + 1;
  hour = second / 3600;
  minute = second / 60 % 60;
  second = second % 60;
}

-- the parts, of a day of a year and a second of the day
abbrev pub civil_parts : Within → ℕ → Civil
civil_parts year second = parts_in year.whole (day_within (length_of_month year.whole) 11 1 year.days) second

-- The parts of the moment so many seconds after the beginning of 1970: first whole years pass, then whole months.
abbrev pub civil_of : ℕ → Civil
civil_of moment = civil_parts (day_within length_of_year (moment / 86400) 1970 (moment / 86400)) (moment % 86400)
