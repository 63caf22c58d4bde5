-- A view's config spec, by the row that gave it.
use Rattle.std.proofs.Common.{◌≡◌, ℕ, suc, ◌<◌, true, false, Option, Some, None, IfSome, List, [], ◌∷◌, bytes_eq, refl, ap}
use Rattle.std.proofs.Common.{sym, ◌∙◌, arith, lt-suc_self}
use Rattle.std.specs.Prelude.{option_and_then}
use Rattle.cc_names.specs.Last.{Keeps, Ends, Sets, only_if, value_after}
use Rattle.cc_names.specs.declared.rows.Deed.{Deed}
use Rattle.cc_names.specs.declared.rows.Deed.TheVariants as deeds
use Rattle.cc_names.specs.Formed.{Plain}
use Rattle.base_model.specs.Rows.{Base, size, deed_at}
use Rattle.base_model.specs.Views.{default_spec, spec_effect, spec_text}
use Rattle.base_model.proofs.VersionRows.{newest_deed, deed_stays}
use Rattle.base_rows.specs.Effects.{spec_row_effect}
use Rattle.base_rows.specs.Lifetimes.{or_else}
use Rattle.base_rows.specs.LookUps.{last_of}
use Rattle.base_rows.specs.Made.{spec_made}

-- the config spec of the row of a number
abbrev pub spec_at : Base → ℕ → Option (List ℕ)
spec_at b n = option_and_then spec_made (deed_at b n)

older_spec : (row : Plain) (older : Base) (n : Option ℕ) → IfSome n (λ m. m < size older)
    → option_and_then (spec_at older) n ≡ option_and_then (spec_at (row ∷ older)) n
older_spec row older None below = refl
older_spec row older (Some n) below = ap (option_and_then spec_made) (sym (deed_stays row older n below))

pub weaker : (row : Option ℕ) (n : ℕ) → IfSome row (λ m. m < n) → IfSome row (λ m. m < suc n)
weaker None n h = tt
weaker (Some m) n h = omega arith

below_step : (v : List ℕ) (older : Base) (deed : Deed) (row : Option ℕ) → IfSome row (λ m. m < size older)
    → IfSome (value_after (spec_row_effect v older deed) row) (λ m. m < suc (size older))
below_step v older (deeds.Mkview w) row h =
    elim (bytes_eq w v) as (λ is. IfSome (value_after (or_else (only_if is (Sets (size older))) Keeps) row)
    (λ m. m < suc (size older))) [ true ↦ lt-suc_self (size older) | false ↦ weaker row (size older) h ]
below_step v older (deeds.Rmview w) row h =
    elim (bytes_eq w v) as (λ is. IfSome (value_after (or_else (only_if {A = ℕ} is Ends) Keeps) row)
    (λ m. m < suc (size older))) [ true ↦ tt | false ↦ weaker row (size older) h ]
below_step v older (deeds.Setcs w text) row h =
    elim (bytes_eq w v) as (λ is. IfSome (value_after (only_if is (Sets (size older))) row) (λ m. m < suc (size older))) [
      | true ↦
          lt-suc_self (size older)
      | false ↦ weaker row (size older) h
    ]
below_step v older deed row h = weaker row (size older) h

-- the row by which a view has its spec lies in the base
row_below : (v : List ℕ) (b : Base) → IfSome (last_of (spec_row_effect v) b) (λ n. n < size b)
row_below v [] = tt
row_below v (row ∷ older) = below_step v older row.deed (last_of (spec_row_effect v) older) (row_below v older)

text_step : (v : List ℕ) (older : Base) (deed : Deed) (before : Option (List ℕ)) (row : Option ℕ) (at : ℕ → Option (List ℕ))
    → at (size older) ≡ spec_made deed → before ≡ option_and_then at row
    → value_after (spec_effect v deed) before ≡ option_and_then at (value_after (spec_row_effect v older deed) row)
text_step v older (deeds.Mkview w) before row at now h =
    elim (bytes_eq w v) as (λ is. value_after (only_if is (Sets default_spec)) before
    ≡ option_and_then at (value_after (or_else (only_if is (Sets (size older))) Keeps) row)) [ true ↦ sym now | false ↦ h ]
text_step v older (deeds.Rmview w) before row at now h =
    elim (bytes_eq w v) as (λ is. value_after (only_if is Ends) before
    ≡ option_and_then at (value_after (or_else (only_if {A = ℕ} is Ends) Keeps) row)) [ true ↦ refl | false ↦ h ]
text_step v older (deeds.Setcs w text) before row at now h =
    elim (bytes_eq w v) as (λ is. value_after (only_if is (Sets text)) before
    ≡ option_and_then at (value_after (only_if is (Sets (size older))) row)) [ true ↦ sym now | false ↦ h ]
text_step v older deed before row at now h = h

-- The text of a view's config spec is that of the row by which the view has it.
pub text_by_row : (b : Base) (v : List ℕ) → spec_text b v ≡ option_and_then (spec_at b) (last_of (spec_row_effect v) b)
text_by_row [] v = refl
text_by_row (row ∷ older) v =
    text_step v older row.deed (spec_text older v) (last_of (spec_row_effect v) older) (spec_at (row ∷ older))
    (ap (option_and_then spec_made) (newest_deed row older))
    (text_by_row older v ∙ older_spec row older (last_of (spec_row_effect v) older) (row_below v older))
