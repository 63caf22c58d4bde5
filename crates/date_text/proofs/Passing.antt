-- Where a day lies, once whole years and months have passed.
use Rattle.std.proofs.Common.{◌≡◌, ℕ, zero, suc, ◌+◌, ◌-◌, ◌/◌, ◌%◌, ◌<◌, ◌≤◌, inl, inr, refl, ap, arith, ℤ, pos, negsuc, ◌≤ℤ◌}
use Rattle.std.proofs.Common.{unsigned_abs}
use Rattle.std.proofs.lemmas.Bool.{cases_order, lt-ltb, le-ltb}
use Rattle.std.proofs.lemmas.Int.{by_lt_z}
use Rattle.jiff_core.specs.Calendar.{day_count, day_of_year, days_from_civil, IsCivilDate}
use Rattle.jiff_core.specs.Date.{epoch_day}
use Rattle.jiff_core.specs.declared.civil.date.Date.{Date}
use Rattle.jiff_core.proofs.SignedLemmas.{signed_arith}
use Rattle.jiff_core.proofs.CalendarLemmas.{day_count-epoch, days_from_civil-day_count, day_count-day_of_year}
use Rattle.jiff_core.proofs.CalendarLemmas.{day_count-next_year, day_count-next_month, day_count-day, day_count-lt_year}
use Rattle.jiff_core.proofs.CalendarLemmas.{day_of_year_bound, days_in_year_bounds}
use Rattle.jiff_core.proofs.DateLemmas.{civil}
use Rattle.date_text.specs.Civil.{day_within, length_of_year, length_of_month, civil_parts}

-- each beginning comes by the length of the one before
abbrev Follows : (ℕ → ℕ) → (ℕ → ℕ) → ℕ → Type 0
Follows begin lengths from = (j : ℕ) → from ≤ j → begin (j + 1) ≡ begin j + lengths j

later : (begin lengths : ℕ → ℕ) (from : ℕ) → Follows begin lengths from → (more : ℕ) → begin from ≤ begin (from + more)
later begin lengths from follows zero = let same : from + 0 ≡ from = omega arith in rw same (omega arith)
later begin lengths from follows (suc more) =
    let same : from + suc more ≡ from + more + 1 = omega arith in
    rw same (omega (arith, follows (from + more) (omega arith), later begin lengths from follows more))

later_one : (begin lengths : ℕ → ℕ) (from n : ℕ) → Follows begin lengths from → from ≤ n → begin from ≤ begin n
later_one begin lengths from n follows h =
    let same : from + (n - from) ≡ n = omega arith in
    rw same at (later begin lengths from follows (n - from))

at_once : (lengths : ℕ → ℕ) (fuel n days : ℕ) → days < lengths n → day_within lengths fuel n days
    ≡ record { whole = n; days = days }
at_once lengths zero n days h = refl
at_once lengths (suc fuel) n days h = let e = lt-ltb days (lengths n) h in rw e refl

pub within_is : (begin lengths : ℕ → ℕ) (n k fuel from days : ℕ) → Follows begin lengths from → begin from + days ≡ begin n + k
    → k < lengths n → from ≤ n → n ≤ from + fuel → day_within lengths fuel from days ≡ record { whole = n; days = k }
within_is begin lengths n k zero from days follows e h low high =
    let same : from ≡ n = omega arith in
    let left : days ≡ k = omega (arith, ap begin same) in
    rw (same, left) refl
within_is begin lengths n k (suc fuel) from days follows e h low high =
    elim (cases_order from n) [
      | inl same ↦ (let left : days ≡ k = omega (arith, ap begin same) in
          rw (same, left) (at_once lengths (suc fuel) n k h))
      | inr (inl lt) ↦ (let next = follows from (omega arith) in
          let order = later_one begin lengths (from + 1) n (λ j le. follows j (omega arith)) (omega arith) in
          let past = le-ltb days (lengths from) (omega arith) in
          rw past (within_is begin lengths n k fuel (from + 1) (days - lengths from) (λ j le. follows j (omega arith))
          (omega arith) h (omega arith) (omega arith)))
      | inr (inr gt) ↦ absurd (omega arith)
    ]

growth : (begin lengths : ℕ → ℕ) (from : ℕ) → Follows begin lengths from → ((j : ℕ) → 1 ≤ lengths j) → (more : ℕ)
    → begin from + more ≤ begin (from + more)
growth begin lengths from follows some zero = let same : from + 0 ≡ from = omega arith in rw same (omega arith)
growth begin lengths from follows some (suc more) =
    let same : from + suc more ≡ from + more + 1 = omega arith in
    rw same (omega (arith, follows (from + more) (omega arith), some (from + more), growth begin lengths from follows some more))

-- the year of a date from 1970 on, and its day of the year, by the days since the beginning of 1970
pub year_is : (y m d n : ℕ) → IsCivilDate (pos y) m d → 1970 ≤ y → days_from_civil (pos y) m d ≡ pos n
    → day_within length_of_year n 1970 n ≡ record { whole = y; days = day_of_year (pos y) m d - 1 }
year_is y m d n civil low e =
    let begin : ℕ → ℕ = λ j. day_count (pos j) 1 1 in
    let follows : Follows begin length_of_year 1970 = λ j h. day_count-next_year (pos j) (pos (j + 1))
    (omega (arith, signed_arith)) (omega (arith, signed_arith)) in
    let count : day_count (pos y) m d ≡ n + 4371953 = omega (arith, signed_arith, days_from_civil-day_count (pos y) m d) in
    let place = day_count-day_of_year (pos y) m d civil.2.0 in
    let bound = day_of_year_bound (pos y) m d civil in
    let same : 1970 + (y - 1970) ≡ y = omega arith in
    let grown = rw same at (growth begin length_of_year 1970 follows (λ j. omega (arith, days_in_year_bounds (pos j))) (y - 1970))
    in
    within_is begin length_of_year y (day_of_year (pos y) m d - 1) n 1970 n follows (omega (arith, day_count-epoch))
    (omega (arith, days_in_year_bounds (pos y))) low (omega (arith, day_count-epoch))

-- the month of a date, and its day of the month, by its day of the year
pub month_is : (y m d : ℕ) → IsCivilDate (pos y) m d → day_within (length_of_month y) 11 1 (day_of_year (pos y) m d - 1)
    ≡ record { whole = m; days = d - 1 }
month_is y m d civil =
    let begin : ℕ → ℕ = λ j. day_count (pos y) j 1 in
    let follows : Follows begin (length_of_month y) 1 = λ j h. day_count-next_month (pos y) j h in
    let place = day_count-day_of_year (pos y) m d civil.2.0 in
    let day = day_count-day (pos y) m d 1 civil.2.0 (omega arith) in
    within_is begin (length_of_month y) m (d - 1) 11 1 (day_of_year (pos y) m d - 1) follows (omega arith)
    (omega (arith, civil.2.0, civil.2.1)) civil.1.0 (omega (arith, civil.1.1))

-- a date whose day number is not negative is of 1970 or later
pub from_1970 : (d : Date) (n : ℕ) → epoch_day d ≡ pos n → pos 1970 ≤ℤ d.year
from_1970 d n e =
    by_lt_z d.year (pos 1970)
    (λ lt. absurd (omega (
      arith,
      signed_arith,
      days_from_civil-day_count d.year d.month d.day,
      day_count-lt_year d.year d.month d.day (pos 1970) 1 1 (civil d) (omega arith) lt,
      day_count-epoch,
    )))
    (λ le. le)

-- 1 January 1970 has the day number 0
pub first_day : (d : Date) → d.year ≡ pos 1970 → pos d.month ≡ pos 1 → pos d.day ≡ pos 1 → epoch_day d ≡ pos 0
first_day d year month day =
    let m : d.month ≡ 1 = omega (arith, signed_arith) in
    let k : d.day ≡ 1 = omega (arith, signed_arith) in
    rw (year, m, k) (omega (arith, signed_arith, days_from_civil-day_count (pos 1970) 1 1, day_count-epoch))

natural_year : (y : ℤ) → pos 1970 ≤ℤ y → (n : ℕ) × (y ≡ pos n) × (unsigned_abs y ≡ n)
natural_year (pos y) h = (y, refl, refl)
natural_year (negsuc y) h = absurd (omega (arith, signed_arith))

one_back : (n : ℕ) → 1 ≤ n → n - 1 + 1 ≡ n
one_back n h = omega arith

-- the parts of a moment from the parts of its day
pub parts_are : (y m d n second : ℕ) → IsCivilDate (pos y) m d → 1970 ≤ y → days_from_civil (pos y) m d ≡ pos n
    → civil_parts (day_within length_of_year n 1970 n) second ≡ record {
      year = y;
      month = m;
      day = d;
      hour = second / 3600;
      minute = second / 60 % 60;
      second = second % 60;
    }
parts_are y m d n second civil low e =
    rw (year_is y m d n civil low e, month_is y m d civil, one_back d civil.2.0) refl

-- the same of a date
pub civil_is : (d : Date) (n second : ℕ) → epoch_day d ≡ pos n → civil_parts (day_within length_of_year n 1970 n) second
    ≡ record {
      year = unsigned_abs d.year;
      month = d.month;
      day = d.day;
      hour = second / 3600;
      minute = second / 60 % 60;
      second = second % 60;
    }
civil_is d n second e =
    let year = natural_year d.year (from_1970 d n e) in
    let low : 1970 ≤ year.0 = omega (arith, signed_arith, from_1970 d n e, year.1) in
    let count : days_from_civil (pos year.0) d.month d.day ≡ pos n = rw (← year.1) e in
    let valid : IsCivilDate (pos year.0) d.month d.day = rw (← year.1) (civil d) in
    rw year.2 (parts_are year.0 d.month d.day n second valid low count)
