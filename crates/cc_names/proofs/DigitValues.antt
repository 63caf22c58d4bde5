-- Digits read from the left, and the first place where the number is too large.
use Rattle.std.proofs.Common.{◌≡◌, ℕ, ◌+◌, ◌-◌, ◌*◌, ◌<◌, ◌≤◌, ◌^◌, true, Some, None, List, length, take, get_or, refl, ap, ◌∙◌}
use Rattle.std.proofs.Common.{rules, arith}
use Rattle.std.specs.Char.{is_ascii_digit, digit_value}
use Rattle.std.specs.List.{list_all}
use Rattle.std.specs.Str.Parse.{digits_value}
use Rattle.std.proofs.lemmas.Bool.{lt-ltb, le-ltb}
use Rattle.std.proofs.lemmas.Str.Parse.{IsNumeralModel, numerals_by_value, digits_value-take-le, digit_at}
use Rattle.std.proofs.lemmas.Int.Digits.{digits_value_more}
use Rattle.std.proofs.lemmas.List.{take_all}
use Rattle.cc_names.specs.Numbers.{below_limit}

numerals : IsNumeralModel (λ ds. list_all is_ascii_digit ds ≡ true) (digits_value 10)
numerals = numerals_by_value _ (search rules)

digit_is : (c : ℕ) → 48 ≤ c → c ≤ 57 → digit_value c ≡ c - 48
digit_is c low high = grind arith

pub next_value : (ds : List ℕ) (i value : ℕ) → list_all is_ascii_digit ds ≡ true → i < length ds
    → value ≡ digits_value 10 (take i ds) → value * 10 + (get_or ds i 0 - 48) ≡ digits_value 10 (take (i + 1) ds)
next_value ds i value digits h e =
    let range = digit_at ds i (numerals.to ds digits) h in
    omega (arith, e, digits_value_more 10 ds i h, digit_is (get_or ds i 0) range.0 range.1)

-- where the number so far is too large, so is the whole
pub too_large : (ds : List ℕ) (i value : ℕ) → list_all is_ascii_digit ds ≡ true → i < length ds
    → value ≡ digits_value 10 (take i ds) → 2 ^ 64 ≤ value * 10 + (get_or ds i 0 - 48) → None ≡ below_limit (digits_value 10 ds)
too_large ds i value digits h e large =
    let past = le-ltb (digits_value 10 ds) (2 ^ 64) (omega (
      arith,
      next_value ds i value digits h e,
      digits_value-take-le 10 ds (i + 1) (omega arith),
    )) in
    rw past refl

pub whole_value : (ds : List ℕ) (i value : ℕ) → length ds ≤ i → value < 2 ^ 64 → value ≡ digits_value 10 (take i ds)
    → Some value ≡ below_limit (digits_value 10 ds)
whole_value ds i value all small e =
    let whole = take_all i ds all in
    let same : value ≡ digits_value 10 ds = e ∙ ap (digits_value 10) whole in
    let below = lt-ltb value (2 ^ 64) small in
    rw (← same, below) refl
