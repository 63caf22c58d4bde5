-- The rules that a row gave to its view, found by the row.
use Rattle.std.proofs.Common.{◌≡◌, ℕ, suc, ◌<◌, ◌≤◌, ◌==◌, Bool, true, false, Option, Some, None, Result, Ok, Err, List, [], ◌∷◌}
use Rattle.std.proofs.Common.{map, nat_lt, refl, ap, sym, ◌∙◌, arith}
use Rattle.std.specs.Prelude.{length}
use Rattle.std.specs.Option.{option_and_then}
use Rattle.std.proofs.lemmas.Bool.Decides.{nat_tests, Decides-eqb}
use Rattle.cc_names.specs.Falling.{IsAbove, Falls}
use Rattle.cc_names.specs.Formed.{IsDeedFormed}
use Rattle.cc_names.specs.declared.refusals.SpecError.{SpecError}
use Rattle.cc_names.specs.declared.rows.Deed.{Deed}
use Rattle.cc_names.specs.declared.rows.Deed.TheVariants as deeds
use Rattle.cc_names.specs.declared.selection.Rule.{Rule}
use Rattle.base_model.specs.ConfigSpecs.Specs.{rules_of}
use Rattle.base_model.specs.Rows.{Base, size, first_rows, row_at, deed_of, deed_at, only_where}
use Rattle.base_model.specs.Seen.{rules_read, rules_of_spec, rules}
use Rattle.base_rows.specs.Effects.{spec_row_effect}
use Rattle.base_rows.specs.LookUps.{last_of}
use Rattle.base_rows.specs.Made.{spec_made}
use Rattle.base_rows.specs.SetSpecs.{if_read, parsed_rules, rules_set, rules_set_if_short, with_spec, specs_set, or_no_rules}
use Rattle.base_rows.specs.SetSpecs.{row_of_parsed, rules_at}
use Rattle.base_rows.specs.declared.view_specs.Parsed.{Parsed}
use Rattle.base_rows.proofs.SpecRows.{spec_at, text_by_row}
use Rattle.base_rows.proofs.Growths.{above_next}

-- the text of a row is short
pub set_short : (deed : Deed) → IsDeedFormed deed → rules_set_if_short deed ≡ rules_set deed
set_short (deeds.Mkview v) formed = refl
set_short (deeds.Setcs v text) formed =
    let short : nat_lt (length text) 4294967296 ≡ true = grind (arith, nat_tests, formed.1) in
    ap (λ is. only_where is (parsed_rules text)) short
set_short deed formed = refl

abbrev pub rows_of_specs : List Parsed → List ℕ
rows_of_specs specs = map row_of_parsed specs

above_more : (n : ℕ) (rules : Option (List Rule)) (specs : List Parsed) → IsAbove n (rows_of_specs specs)
    → IsAbove (suc n) (rows_of_specs (with_spec n rules specs))
above_more n None specs above = above_next n (rows_of_specs specs) above
above_more n (Some rules) specs above = (omega arith, above_next n (rows_of_specs specs) above)

specs_below : (b : Base) → IsAbove (size b) (rows_of_specs (specs_set b))
specs_below [] = tt
specs_below (row ∷ older) = above_more (size older) (rules_set row.deed) (specs_set older) (specs_below older)

fall_more : (n : ℕ) (rules : Option (List Rule)) (specs : List Parsed) → IsAbove n (rows_of_specs specs)
    → Falls (rows_of_specs specs) → Falls (rows_of_specs (with_spec n rules specs))
fall_more n None specs above fall = fall
fall_more n (Some rules) specs above fall = (above, fall)

-- they stand in order of their rows
pub specs_fall : (b : Base) → Falls (rows_of_specs (specs_set b))
specs_fall [] = tt
specs_fall (row ∷ older) = fall_more (size older) (rules_set row.deed) (specs_set older) (specs_below older) (specs_fall older)

none_above : (n : ℕ) (specs : List Parsed) → IsAbove n (rows_of_specs specs) → rules_at n specs ≡ None
none_above n [] above = refl
none_above n (one ∷ specs) above =
    let lower : one.row < n = above.0 in
    let apart : (one.row == n) ≡ false = grind (arith, nat_tests) in
    rw apart (none_above n specs above.1)

at_head : (n : ℕ) (rules : Option (List Rule)) (specs : List Parsed) → IsAbove n (rows_of_specs specs)
    → rules_at n (with_spec n rules specs) ≡ rules
at_head n None specs above = none_above n specs above
at_head n (Some rules) specs above =
    let same : (n == n) ≡ true = (Decides-eqb n n).1 refl in
    rw same refl

behind_head : (m n : ℕ) (rules : Option (List Rule)) (specs : List Parsed) → (m == n) ≡ false
    → rules_at n (with_spec m rules specs) ≡ rules_at n specs
behind_head m n None specs apart = refl
behind_head m n (Some rules) specs apart = rw apart refl

-- the rules that a row gave
pub rules_by_row : (b : Base) (n : ℕ) → rules_at n (specs_set b) ≡ option_and_then rules_set (deed_at b n)
rules_by_row [] n = refl
rules_by_row (row ∷ older) n = by (size older == n) refl (rules_by_row older n)
  where
    by : (is : Bool) → (size older == n) ≡ is → rules_at n (specs_set older) ≡ option_and_then rules_set (deed_at older n)
        → rules_at n (with_spec (size older) (rules_set row.deed) (specs_set older))
        ≡ option_and_then rules_set (deed_of (elim is [ true ↦ Some row | false ↦ row_at older n ]))
    by true same below =
        let number : size older ≡ n = (Decides-eqb (size older) n).0 same in
        ap (λ m. rules_at m (with_spec (size older) (rules_set row.deed) (specs_set older))) (sym number)
        ∙ at_head (size older) (rules_set row.deed) (specs_set older) (specs_below older)
    by false apart below = behind_head (size older) n (rules_set row.deed) (specs_set older) apart ∙ below

-- one of the first rows is that row of all
pub row_of_first : (b : Base) (t n : ℕ) → n < t → row_at (first_rows t b) n ≡ row_at b n
row_of_first [] t n within = refl
row_of_first (row ∷ older) t n within = grind (arith, nat_tests, row_of_first older t n within)

-- no row has a number after all
pub no_row_past : (b : Base) (n : ℕ) → size b ≤ n → row_at b n ≡ None
no_row_past [] n past = refl
no_row_past (row ∷ older) n past =
    let below : size older ≤ n = omega arith in
    grind (arith, nat_tests, no_row_past older n below)

read_or_none : (text : Option (List ℕ)) → or_no_rules (option_and_then parsed_rules text) ≡ rules_of_spec text
read_or_none None = refl
read_or_none (Some text) = by (rules_of text)
  where
    by : (read : Result (List Rule) SpecError) → or_no_rules (if_read read) ≡ rules_read read
    by (Ok rules) = refl
    by (Err error) = refl

deed_rules : (deed : Option Deed) → or_no_rules (option_and_then rules_set deed) ≡ rules_of_spec (option_and_then spec_made deed)
deed_rules None = refl
deed_rules (Some deed) = read_or_none (spec_made deed)

row_rules : (b : Base) (n : Option ℕ) → or_no_rules (option_and_then (λ m. option_and_then rules_set (deed_at b m)) n)
    ≡ rules_of_spec (option_and_then (spec_at b) n)
row_rules b None = refl
row_rules b (Some n) = deed_rules (deed_at b n)

-- the rules of a view are those that the row gave by which it has its config spec
pub view_rules : (b : Base) (v : List ℕ) → or_no_rules (option_and_then (λ m. option_and_then rules_set (deed_at b m))
    (last_of (spec_row_effect v) b)) ≡ rules b v
view_rules b v = row_rules b (last_of (spec_row_effect v) b) ∙ ap rules_of_spec (sym (text_by_row b v))
