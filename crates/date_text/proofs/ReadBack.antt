-- The date of a moment is read as the moment.
use Rattle.std.proofs.Common.{◌≡◌, ℕ, zero, suc, ◌+◌, ◌-◌, ◌/◌, ◌%◌, ◌<◌, ◌≤◌, true, ◌==◌, inl, inr, Some, None, is_some}
use Rattle.std.proofs.Common.{unwrap_or, Ok, List, [], ◌∷◌, ◌++◌, length, refl, sym, ap, ◌∙◌, arith, pos, eq-eqb}
use Rattle.std.specs.Char.{is_ascii_digit, digit_value}
use Rattle.std.specs.List.{list_all}
use Rattle.std.specs.Str.Parse.{digits_value}
use Rattle.std.proofs.lemmas.Bool.{lt-ltb, le-ltb, le-leb, cases_lt}
use Rattle.jiff_core.specs.Calendar.{days_in_month}
use Rattle.date_text.specs.Civil.{moment_of, IsInForm}
use Rattle.date_text.specs.Dates.{is_number_between, month_name, month_place, first_wrong, two_digits, text_of_parts}
use Rattle.date_text.specs.Dates.{fields_from, parts_from, day_length, moment_of_day, date_of}
use Rattle.date_text.specs.declared.civil.Civil.{Civil}
use Rattle.date_text.specs.declared.fields.Field.{Field}
use Rattle.date_text.proofs.Right.{date_of_steps}

-- a digit is one, and has its value
digit_is : (n : ℕ) → n < 10 → is_ascii_digit (48 + n) ≡ true
digit_is n h = grind arith

digit_has : (n : ℕ) → n < 10 → digit_value (48 + n) ≡ n
digit_has n h = grind arith

two_are : (n : ℕ) → n < 100 → list_all is_ascii_digit (two_digits n) ≡ true
two_are n h =
    let tens = digit_is (n / 10) (omega arith) in
    let ones = digit_is (n % 10) (omega arith) in
    rw (tens, ones) refl

two_have : (n : ℕ) → n < 100 → digits_value 10 (two_digits n) ≡ n
two_have n h =
    let tens = digit_has (n / 10) (omega arith) in
    let ones = digit_has (n % 10) (omega arith) in
    rw (tens, ones) (omega arith)

-- the digits of a year
abbrev four_digits : ℕ → List ℕ
four_digits n = two_digits (n / 100) ++ two_digits (n % 100)

four_are : (n : ℕ) → n < 10000 → list_all is_ascii_digit (four_digits n) ≡ true
four_are n h =
    let d1 = digit_is (n / 100 / 10) (omega arith) in
    let d2 = digit_is (n / 100 % 10) (omega arith) in
    let d3 = digit_is (n % 100 / 10) (omega arith) in
    let d4 = digit_is (n % 100 % 10) (omega arith) in
    rw (d1, d2, d3, d4) refl

four_have : (n : ℕ) → n < 10000 → digits_value 10 (four_digits n) ≡ n
four_have n h =
    let d1 = digit_has (n / 100 / 10) (omega arith) in
    let d2 = digit_has (n / 100 % 10) (omega arith) in
    let d3 = digit_has (n % 100 / 10) (omega arith) in
    let d4 = digit_has (n % 100 % 10) (omega arith) in
    rw (d1, d2, d3, d4) (omega arith)

-- digits of a number between the bounds are right
number_right : (count low high value : ℕ) (bytes : List ℕ) → length bytes ≡ count → list_all is_ascii_digit bytes ≡ true
    → digits_value 10 bytes ≡ value → low ≤ value → value ≤ high → is_number_between count low high bytes ≡ true
number_right count low high value bytes long digits e least most =
    let l1 : (length bytes == count) ≡ true = eq-eqb (length bytes) count long in
    let l3 = le-leb low (digits_value 10 bytes) (omega (arith, e)) in
    let l4 = le-leb (digits_value 10 bytes) high (omega (arith, e)) in
    rw (l1, digits, l3, l4) refl

two_right : (n high : ℕ) → n < 100 → n ≤ high → is_number_between 2 0 high (two_digits n) ≡ true
two_right n high h most = number_right 2 0 high n (two_digits n) refl (two_are n h) (two_have n h) (omega arith) most

four_right : (n : ℕ) → 1970 ≤ n → n ≤ 9999 → is_number_between 4 1970 9999 (four_digits n) ≡ true
four_right n least most =
    number_right 4 1970 9999 n (four_digits n) refl (four_are n (omega arith)) (four_have n (omega arith)) least most

-- a right field before others
right_before : (field : Field) (fields : List Field) → field.right ≡ true → first_wrong fields ≡ None
    → first_wrong (field ∷ fields) ≡ None
unfolding first_wrong
right_before field fields e h = rw e h

none_left : first_wrong [] ≡ None
unfolding first_wrong
none_left = refl

-- the name of a month and its place
record IsMonth (month : ℕ) : Type 0 where
  a : ℕ
  b : ℕ
  c : ℕ
  name : month_name month ≡ a ∷ b ∷ c ∷ []
  place : month_place (a ∷ b ∷ c ∷ []) ≡ Some (month - 1)

months : (month : ℕ) → 1 ≤ month → month ≤ 12 → IsMonth month
months zero low high = absurd (omega arith)
months (suc zero) low high = record { a = 74; b = 97; c = 110; name = refl; place = refl }
months (suc (suc zero)) low high = record { a = 70; b = 101; c = 98; name = refl; place = refl }
months (suc (suc (suc zero))) low high = record { a = 77; b = 97; c = 114; name = refl; place = refl }
months (suc (suc (suc (suc zero)))) low high = record { a = 65; b = 112; c = 114; name = refl; place = refl }
months (suc (suc (suc (suc (suc zero))))) low high = record { a = 77; b = 97; c = 121; name = refl; place = refl }
months (suc (suc (suc (suc (suc (suc zero)))))) low high = record { a = 74; b = 117; c = 110; name = refl; place = refl }
months (suc (suc (suc (suc (suc (suc (suc zero))))))) low high = record { a = 74; b = 117; c = 108; name = refl; place = refl }
months (suc (suc (suc (suc (suc (suc (suc (suc zero)))))))) low high =
    record { a = 65; b = 117; c = 103; name = refl; place = refl }
months (suc (suc (suc (suc (suc (suc (suc (suc (suc zero))))))))) low high =
    record { a = 83; b = 101; c = 112; name = refl; place = refl }
months (suc (suc (suc (suc (suc (suc (suc (suc (suc (suc zero)))))))))) low high =
    record { a = 79; b = 99; c = 116; name = refl; place = refl }
months (suc (suc (suc (suc (suc (suc (suc (suc (suc (suc (suc zero))))))))))) low high =
    record { a = 78; b = 111; c = 118; name = refl; place = refl }
months (suc (suc (suc (suc (suc (suc (suc (suc (suc (suc (suc (suc zero)))))))))))) low high =
    record { a = 68; b = 101; c = 99; name = refl; place = refl }
months (suc (suc (suc (suc (suc (suc (suc (suc (suc (suc (suc (suc (suc month))))))))))))) low high = absurd (omega arith)

-- the text of these parts, the day and the month as they are written
abbrev written : List ℕ → List ℕ → Civil → List ℕ
written day month c =
    day ++ 45 ∷ month ++ 45 ∷ two_digits (c.year / 100) ++ two_digits (c.year % 100) ++ 46 ∷ two_digits c.hour
    ++ 58 ∷ two_digits c.minute ++ 58 ∷ two_digits c.second

-- the parts, one by one
parts_same : (year month day hour minute second : ℕ) (c : Civil) → year ≡ c.year → month ≡ c.month → day ≡ c.day → hour ≡ c.hour
    → minute ≡ c.minute → second ≡ c.second → record {
      year = year;
      month = month;
      day = day;
      hour = hour;
      minute = minute;
      second = second;
    } ≡ c
parts_same year month day hour minute second c e1 e2 e3 e4 e5 e6 = rw (e1, e2, e3, e4, e5, e6) refl

has_day : (c : Civil) → c.day ≤ days_in_month (pos c.year) c.month → moment_of_day c ≡ Ok (moment_of c)
has_day c fits = let here = le-leb c.day (days_in_month (pos c.year) c.month) fits in rw here refl

-- a text is read as these parts where no field is wrong
read_as : (text : List ℕ) (n : ℕ) (c : Civil) → day_length text ≡ n → first_wrong (fields_from text n) ≡ None
    → parts_from text n ≡ c → c.day ≤ days_in_month (pos c.year) c.month → date_of text ≡ Ok (moment_of c)
read_as text n c day right parts fits =
    sym (date_of_steps text n (fields_from text n) None (sym day) refl (sym right))
    ∙ ap moment_of_day parts ∙ has_day c fits

month_number : (month : ℕ) (bytes : List ℕ) → 1 ≤ month → month_place bytes ≡ Some (month - 1)
    → unwrap_or (month_place bytes) 0 + 1 ≡ month
month_number month bytes low place = rw place (omega arith)

-- a day of one digit
short_day : (c : Civil) → IsInForm c → (m : IsMonth c.month) → c.day < 10 → c.day ≤ days_in_month (pos c.year) c.month
    → date_of (written ((48 + c.day) ∷ []) (m.a ∷ m.b ∷ m.c ∷ []) c) ≡ Ok (moment_of c)
short_day c form m short fits =
    let digit = digit_is c.day short in
    let has = digit_has c.day short in
    let text : List ℕ = written ((48 + c.day) ∷ []) (m.a ∷ m.b ∷ m.c ∷ []) c in
    let length_is : day_length text ≡ 1 = rw digit refl in
    let day : is_number_between 1 1 31 ((48 + c.day) ∷ []) ≡ true =
    number_right 1 1 31 c.day ((48 + c.day) ∷ []) refl (rw digit refl) (rw has (omega arith)) (omega arith) (omega arith) in
    let month : is_some (month_place (m.a ∷ m.b ∷ m.c ∷ [])) ≡ true = rw m.place refl in
    let right : first_wrong (fields_from text 1) ≡ None =
    right_before _ _ day (right_before _ _ refl (right_before _ _ month (right_before _ _ refl
    (right_before _ _ (four_right c.year (omega arith) (omega arith)) (right_before _ _ refl
    (right_before _ _ (two_right c.hour 23 (omega arith) (omega arith)) (right_before _ _ refl
    (right_before _ _ (two_right c.minute 59 (omega arith) (omega arith)) (right_before _ _ refl
    (right_before _ _ (two_right c.second 59 (omega arith) (omega arith)) (right_before _ _ refl none_left))))))))))) in
    let parts : parts_from text 1 ≡ c =
    parts_same _ _ _ _ _ _ c (four_have c.year (omega arith)) (month_number c.month (m.a ∷ m.b ∷ m.c ∷ []) (omega arith) m.place)
    (rw has (omega arith)) (two_have c.hour (omega arith)) (two_have c.minute (omega arith)) (two_have c.second (omega arith)) in
    read_as text 1 c length_is right parts fits

-- a day of two digits
long_day : (c : Civil) → IsInForm c → (m : IsMonth c.month) → 10 ≤ c.day → c.day ≤ days_in_month (pos c.year) c.month
    → date_of (written (two_digits c.day) (m.a ∷ m.b ∷ m.c ∷ []) c) ≡ Ok (moment_of c)
long_day c form m long fits =
    let tens = digit_is (c.day / 10) (omega arith) in
    let ones = digit_is (c.day % 10) (omega arith) in
    let text : List ℕ = written (two_digits c.day) (m.a ∷ m.b ∷ m.c ∷ []) c in
    let length_is : day_length text ≡ 2 = rw (tens, ones) refl in
    let day : is_number_between 2 1 31 (two_digits c.day) ≡ true =
    number_right 2 1 31 c.day (two_digits c.day) refl (two_are c.day (omega arith)) (two_have c.day (omega arith)) (omega arith)
    (omega arith) in
    let month : is_some (month_place (m.a ∷ m.b ∷ m.c ∷ [])) ≡ true = rw m.place refl in
    let right : first_wrong (fields_from text 2) ≡ None =
    right_before _ _ day (right_before _ _ refl (right_before _ _ month (right_before _ _ refl
    (right_before _ _ (four_right c.year (omega arith) (omega arith)) (right_before _ _ refl
    (right_before _ _ (two_right c.hour 23 (omega arith) (omega arith)) (right_before _ _ refl
    (right_before _ _ (two_right c.minute 59 (omega arith) (omega arith)) (right_before _ _ refl
    (right_before _ _ (two_right c.second 59 (omega arith) (omega arith)) (right_before _ _ refl none_left))))))))))) in
    let parts : parts_from text 2 ≡ c =
    parts_same _ _ _ _ _ _ c (four_have c.year (omega arith)) (month_number c.month (m.a ∷ m.b ∷ m.c ∷ []) (omega arith) m.place)
    (two_have c.day (omega arith)) (two_have c.hour (omega arith)) (two_have c.minute (omega arith))
    (two_have c.second (omega arith)) in
    read_as text 2 c length_is right parts fits

-- The text of the parts of a moment is read as the moment.
pub read_back : (c : Civil) → IsInForm c → c.day ≤ days_in_month (pos c.year) c.month
    → date_of (text_of_parts c) ≡ Ok (moment_of c)
read_back c form fits =
    let m = months c.month (omega arith) (omega arith) in
    elim (cases_lt c.day 10) [
      | inl short ↦ (let begins = lt-ltb c.day 10 short in rw (begins, m.name) (short_day c form m short fits))
      | inr long ↦ (let begins = le-ltb c.day 10 long in rw (begins, m.name) (long_day c form m long fits))
    ]
