-- Decimal digits and the number that they spell.
use Rattle.std.proofs.Common.{◌≡◌, ℕ, ◌<◌, ◌≤◌, true, List, length, take, rules, arith}
use Rattle.std.specs.Char.{is_ascii_digit}
use Rattle.std.specs.List.{list_all}
use Rattle.std.specs.Str.Parse.{digits_value}
use Rattle.std.proofs.lemmas.Str.Parse.{IsNumeralModel, numerals_by_value, digits_value_short, digits_value-take-le}

-- the test by `list_all`, and std's value, are words for numerals
pub numerals : IsNumeralModel (λ ds. list_all is_ascii_digit ds ≡ true) (digits_value 10)
numerals = numerals_by_value _ (search rules)

-- the first digits of a few spell a number below ten thousand
pub few_value : (ds : List ℕ) (i : ℕ) → list_all is_ascii_digit ds ≡ true → length ds ≤ 4 → digits_value 10 (take i ds) < 10000
few_value ds i digits few =
    omega (arith, digits_value_short numerals ds 4 digits few, digits_value-take-le 10 ds i (omega arith))
