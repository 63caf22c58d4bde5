-- Dates worked out by hand, by computation.
use Rattle.std.specs.Prelude.{◌≡◌, refl, Ok, Err, codes}
use Rattle.date_text.specs.Dates.{date_of, date_as_text}
use Rattle.date_text.proofs.OnLiterals.{dates_on_literals}

first : date_of (codes "1-Jan-1970.00:00:00") ≡ Ok 0
unfolding dates_on_literals
first = refl

second : date_of (codes "14-Nov-2023.22:13:21") ≡ Ok 1700000001
unfolding dates_on_literals
second = refl

last : date_of (codes "31-Dec-9999.23:59:59") ≡ Ok 253402300799
unfolding dates_on_literals
last = refl

leap : date_of (codes "29-Feb-2100.00:00:00") ≡ Err (record { 0 = 0 })
unfolding dates_on_literals
leap = refl

written : date_as_text 1700000001 ≡ codes "14-Nov-2023.22:13:21"
written = refl

written_first : date_as_text 0 ≡ codes "1-Jan-1970.00:00:00"
written_first = refl
