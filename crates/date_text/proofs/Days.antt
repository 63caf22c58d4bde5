-- Day numbers from 1970 on are not negative.
use Rattle.std.proofs.Common.{◌≡◌, ℕ, ◌≤◌, refl, arith, ℤ, pos, negsuc, to_z, of_z, to_z-of_z, w32, w64, Fits, ◌≤ℤ◌, unsigned_abs}
use Rattle.std.proofs.lemmas.Int.{by_lt_z}
use Rattle.std.specs.Int.Signed.{non_neg, yes_non_neg}
use lib.Dec.{T}
use Rattle.jiff_core.specs.Calendar.{days_from_civil, day_count, IsEpochDay}
use Rattle.jiff_core.proofs.SignedLemmas.{signed_arith, fits_between}
use borrow.Author.Differences.{up, down}
use Rattle.jiff_core.proofs.CalendarLemmas.{day_count-epoch, days_from_civil-day_count, day_count-day_of_year}
use Rattle.jiff_core.proofs.CalendarLemmas.{day_count-later_year}

count_from_1970 : (y : ℤ) (m d : ℕ) → pos 1970 ≤ℤ y → 1 ≤ d → 4371953 ≤ day_count y m d
count_from_1970 y m d h k =
    by_lt_z (pos 1970) y
    (λ lt. omega (
      arith,
      signed_arith,
      day_count-later_year (pos 1970) y (omega (arith, signed_arith)) lt,
      day_count-epoch,
      day_count-day_of_year y m d k,
    ))
    (λ le. let same : y ≡ pos 1970 = omega (arith, signed_arith) in rw same
    (omega (arith, day_count-epoch, day_count-day_of_year (pos 1970) m d k)))

natural : (z : ℤ) → down z ≤ up z → pos (unsigned_abs z) ≡ z
natural (pos n) h = refl
natural (negsuc n) h = absurd (omega arith)

-- the day number of a date from 1970 on counts the days since then
pub days_from_1970 : (y : ℤ) (m d : ℕ) → pos 1970 ≤ℤ y → 1 ≤ d → pos (unsigned_abs (days_from_civil y m d))
    ≡ days_from_civil y m d
days_from_1970 y m d h k =
    natural _ (omega (arith, signed_arith, days_from_civil-day_count y m d, count_from_1970 y m d h k))

-- a day number comes back from the bits of its type as it was
pub back_from_bits : (z : ℤ) → IsEpochDay z → to_z w32 (of_z w32 z) ≡ z
back_from_bits z day = to_z-of_z (fits_between w32 z (omega (arith, signed_arith)))

natural_fits : (z : ℤ) → pos 0 ≤ℤ z → IsEpochDay z → Fits w64 (unsigned_abs z)
natural_fits (pos n) low day = omega (arith, signed_arith)
natural_fits (negsuc n) low day = absurd (omega (arith, signed_arith))

-- and fits a number of days
pub cast_days : (z y : ℤ) (m d : ℕ) → z ≡ days_from_civil y m d → IsEpochDay z → pos 1970 ≤ℤ y → 1 ≤ d
    → T (non_neg (to_z w32 (of_z w32 z))) × Fits w64 (unsigned_abs (to_z w32 (of_z w32 z)))
cast_days z y m d e day h k =
    let low : pos 0 ≤ℤ z = rw e (omega (arith, signed_arith, days_from_civil-day_count y m d, count_from_1970 y m d h k)) in
    rw (back_from_bits z day) (yes_non_neg low, natural_fits z low day)

-- and is the number of a day from 1970 on
pub cast_value : (z y : ℤ) (m d : ℕ) → z ≡ days_from_civil y m d → IsEpochDay z → pos 1970 ≤ℤ y → 1 ≤ d
    → pos (unsigned_abs (to_z w32 (of_z w32 z))) ≡ days_from_civil y m d
cast_value z y m d e day h k = rw (back_from_bits z day, e) (days_from_1970 y m d h k)
