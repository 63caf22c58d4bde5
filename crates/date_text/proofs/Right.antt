-- What is known of the fields of a text where none is wrong.
use Rattle.std.proofs.Common.{◌≡◌, ℕ, ◌+◌, ◌≤◌, Bool, true, false, not, ◌&&◌, cond, Option, Some, None, is_some, List, ◌∷◌}
use Rattle.std.proofs.Common.{length, find, refl, ◌==◌, nat_le}
use Rattle.std.specs.Char.{is_ascii_digit}
use Rattle.std.specs.List.{list_all}
use Rattle.std.specs.Option.{option_map}
use Rattle.std.specs.Str.Parse.{digits_value}
use Rattle.std.proofs.lemmas.Bool.{and_parts}
use borrow.Author.Tests.{leb-true}
use Rattle.date_text.specs.declared.fields.Field.{Field}
use Rattle.date_text.specs.Dates.{piece, is_number_between, is_wrong, field_place, first_wrong, month_place, fields_from}
use Rattle.date_text.specs.Dates.{day_length, unless_wrong_field, parts_from, date_of}

-- digits of a number between two bounds
pub record IsNumber (count low high : ℕ) (bytes : List ℕ) : Type 0 where
  pub digits : list_all is_ascii_digit bytes ≡ true
  pub least : low ≤ digits_value 10 bytes
  pub most : digits_value 10 bytes ≤ high

-- the fields that are numbers or names are right
pub record AreRight (text : List ℕ) (n : ℕ) : Type 0 where
  pub day : IsNumber n 1 31 (piece text 0 n)
  pub month : is_some (month_place (piece text (n + 1) 3)) ≡ true
  pub year : IsNumber 4 1970 9999 (piece text (n + 5) 4)
  pub hour : IsNumber 2 0 23 (piece text (n + 10) 2)
  pub minute : IsNumber 2 0 59 (piece text (n + 13) 2)
  pub second : IsNumber 2 0 59 (piece text (n + 16) 2)

number_is : (count low high : ℕ) (bytes : List ℕ) → is_number_between count low high bytes ≡ true → IsNumber count low high bytes
number_is count low high bytes h =
    let long : Bool = length bytes == count in
    let digits : Bool = list_all is_ascii_digit bytes in
    let least : Bool = nat_le low (digits_value 10 bytes) in
    let most : Bool = nat_le (digits_value 10 bytes) high in
    let upper = and_parts (long && digits && least) most h in
    let lower = and_parts (long && digits) least upper.0 in
    let inner = and_parts long digits lower.0 in
    record { digits = inner.1; least = leb-true _ _ lower.1; most = leb-true _ _ upper.1 }

-- the first of some fields is right, and none of the others is wrong
first_right : (field : Field) (fields : List Field) → first_wrong (field ∷ fields) ≡ None → (field.right ≡ true)
    × (first_wrong fields ≡ None)
unfolding first_wrong
first_right field fields h =
    right_by field.right h
  where
    right_by : (right : Bool) → option_map field_place (cond (not right) (Some field) (find is_wrong fields)) ≡ None
        → (right ≡ true) × (option_map field_place (find is_wrong fields) ≡ None)
    right_by true e = (refl, e)
    right_by false e = cc

pub are_right : (text : List ℕ) (day : ℕ) → first_wrong (fields_from text day) ≡ None → AreRight text day
are_right text day h =
    let f1 = first_right _ _ h in
    let f2 = first_right _ _ f1.1 in
    let f3 = first_right _ _ f2.1 in
    let f4 = first_right _ _ f3.1 in
    let f5 = first_right _ _ f4.1 in
    let f6 = first_right _ _ f5.1 in
    let f7 = first_right _ _ f6.1 in
    let f8 = first_right _ _ f7.1 in
    let f9 = first_right _ _ f8.1 in
    let f10 = first_right _ _ f9.1 in
    let f11 = first_right _ _ f10.1 in
    record {
      day = number_is _ _ _ _ f1.0;
      month = f3.0;
      year = number_is _ _ _ _ f5.0;
      hour = number_is _ _ _ _ f7.0;
      minute = number_is _ _ _ _ f9.0;
      second = number_is _ _ _ _ f11.0;
    }

-- a date by its steps
pub date_of_steps : (text : List ℕ) (day : ℕ) (some : List Field) (wrong : Option ℕ) → day ≡ day_length text
    → some ≡ fields_from text day → wrong ≡ first_wrong some → unless_wrong_field wrong (parts_from text day) ≡ date_of text
date_of_steps text day some wrong e f g = rw (g, f, e) refl
