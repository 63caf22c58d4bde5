-- Counts, worked and checked by computation.
use Rattle.std.proofs.Common.{◌≡◌, true, false, refl}
use Rattle.cc_names.specs.Counts.{last_count, raised_count, rises}

raised_count-by_three : raised_count 4 3 ≡ 7
raised_count-by_three = refl

raised_count-to_the_end : raised_count 18446744073709551614 3 ≡ last_count
raised_count-to_the_end = refl

raised_count-at_the_end : raised_count last_count 1 ≡ last_count
raised_count-at_the_end = refl

rises-by_one : rises 4 5 ≡ true
rises-by_one = refl

rises-not : rises 5 5 ≡ false
rises-not = refl

rises-at_the_end : rises last_count last_count ≡ true
rises-at_the_end = refl
