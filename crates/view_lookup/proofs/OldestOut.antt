-- A view's oldest checkout that stands, given by what the view took out.
use Rattle.std.proofs.Common.{◌≡◌, ℕ, suc, ◌<◌, ◌==◌, Bool, true, false, cond, nat_lt, ◌&&◌, Option, Some, None, IfSome, List, []}
use Rattle.std.proofs.Common.{◌∷◌, bytes_eq, refl, ap, ap₂, sym, subst, ◌∙◌, arith}
use Rattle.std.specs.Option.{option_or, unwrap_or}
use Rattle.std.specs.Prelude.{option_map}
use Rattle.std.proofs.lemmas.Bool.Decides.{nat_tests}
use Rattle.std.proofs.lemmas.Slice.Eq.{bytes_eq-Decides}
use Rattle.cc_names.specs.Last.{Effect, Keeps, Ends, Sets, only_if, value_after}
use Rattle.cc_names.specs.Versions.{is_number, put_if}
use Rattle.cc_names.specs.declared.rows.Deed.{Deed}
use Rattle.cc_names.specs.declared.rows.Deed.TheVariants as deeds
use Rattle.cc_names.specs.declared.rows.Out.TheVariants as outs
use Rattle.base_model.specs.Checkouts.{oldest_of, oldest_out, row_of_checkout, standing_among, with_standing}
use Rattle.base_model.specs.Rows.{Base, size, only_where}
use Rattle.base_model.specs.Views.{Checkout, TakenOut, made_out, out, out_effect, set_by, view_effect, view_row}
use Rattle.base_rows.specs.Effects.{standing_effect, standing_of, stands}
use Rattle.base_rows.specs.LookUps.{Deeds, from_row, left_by, oldest, update_by_row}
use Rattle.base_rows.proofs.Oldest.{or_none}

one_more : (v : List ℕ) (n : ℕ) (taken : TakenOut) (rest : List TakenOut) (before : Option ℕ) (is stand : Bool)
    → bytes_eq taken.view v ≡ is → oldest_of v rest ≡ before
    → oldest_of v (put_if stand taken rest) ≡ option_or before (left_by
    (update_by_row n (only_if (is && stand) (Sets taken.checkout.row))))
one_more v n taken rest before true true e h = ap (λ older. option_or older
    (only_where (bytes_eq taken.view v) (Some taken.checkout.row))) h ∙ ap
    (λ is. option_or before (only_where is (Some taken.checkout.row))) e
one_more v n taken rest before true false e h = h ∙ sym (or_none before)
one_more v n taken rest before false true e h = ap (λ older. option_or older
    (only_where (bytes_eq taken.view v) (Some taken.checkout.row))) h ∙ ap
    (λ is. option_or before (only_where is (Some taken.checkout.row))) e
one_more v n taken rest before false false e h = h ∙ sym (or_none before)

step : (b : Base) (v : List ℕ) (n : ℕ) (made : Option TakenOut) (rest : List TakenOut) (before : Option ℕ)
    → oldest_of v rest ≡ before
    → oldest_of v (with_standing b made rest) ≡ option_or before (left_by (update_by_row n (standing_of b v made)))
step b v n None rest before h = h ∙ sym (or_none before)
step b v n (Some taken) rest before h = one_more v n taken rest before (bytes_eq taken.view v) (stands b taken) refl h

among : (b rows : Base) (v : List ℕ) → oldest_of v (standing_among b rows) ≡ oldest (standing_effect b v) rows
among b [] v = refl
among b (row ∷ older) v = step b v (size older) (made_out (size older) row.deed) (standing_among b older)
    (oldest (standing_effect b v) older) (among b older v)

-- The row of a view's oldest checkout is the oldest one that took something out that stands.
pub oldest_standing : (b : Base) (v : List ℕ) → oldest_out b v ≡ oldest (standing_effect b v) b
oldest_standing b v = among b b v

-- a checkout is of the row that makes it
taken_here : (n : ℕ) (deed : Deed) → IfSome (made_out n deed) (λ taken. taken.checkout.row ≡ n)
taken_here n (deeds.Mkelem v directory name kind true) = refl
taken_here n (deeds.Mkelem v directory name kind false) = tt
taken_here n (deeds.Checkout v e origin reserved) = refl
taken_here n (deeds.Branch v e origin name outs.No) = tt
taken_here n (deeds.Branch v e origin name outs.Reserved) = refl
taken_here n (deeds.Branch v e origin name outs.Unreserved) = refl
taken_here n deed = tt

-- a view's life began before its checkout, where it has both
abbrev BeganBefore : Option ℕ → Option Checkout → Type 0
BeganBefore life checkout = IfSome life (λ began. IfSome checkout (λ checkout. began < checkout.row))

-- what row n leaves of both
module _ (v : List ℕ) (e n : ℕ) (life : Option ℕ) (checkout : Option Checkout) (low : IfSome life (λ began. began < n))
    (before : BeganBefore life checkout) where
  life_changed : (is : Bool) (effect : Effect ℕ) → IfSome (value_after effect life) (λ began. BeganBefore (Some began) None)
      → BeganBefore (value_after (only_if is effect) life) (value_after (only_if is Ends) checkout)
  life_changed true effect none = none
  life_changed false effect none = before

  none_left : (life : Option ℕ) → BeganBefore life None
  none_left None = tt
  none_left (Some began) = tt

  given_back : (is : Bool) → BeganBefore life (value_after (only_if is Ends) checkout)
  given_back true = none_left life
  given_back false = before

  made_now : (one : Checkout) → one.row ≡ n → (life : Option ℕ) → IfSome life (λ began. began < n) → BeganBefore life (Some one)
  made_now one here None low = tt
  made_now one here (Some began) low = omega (arith, here)

  taken_in : (taken : TakenOut) → taken.checkout.row ≡ n → (is : Bool)
      → BeganBefore life (value_after (only_if is (Sets taken.checkout)) checkout)
  taken_in taken here true = made_now taken.checkout here life low
  taken_in taken here false = before

  taken_by : (made : Option TakenOut) → IfSome made (λ taken. taken.checkout.row ≡ n)
      → BeganBefore life (value_after (set_by v e made) checkout)
  taken_by None here = before
  taken_by (Some taken) here = taken_in taken here (bytes_eq taken.view v && (taken.element == e))

  by_row : (deed : Deed) → BeganBefore (value_after (view_effect v n deed) life) (value_after (out_effect v e n deed) checkout)
  by_row (deeds.Mkview w) = life_changed (bytes_eq w v) (Sets n) tt
  by_row (deeds.Rmview w) = life_changed (bytes_eq w v) Ends tt
  by_row (deeds.Checkin w f) = given_back (bytes_eq w v && (f == e))
  by_row (deeds.Uncheckout w f) = given_back (bytes_eq w v && (f == e))
  by_row deed = taken_by (made_out n deed) (taken_here n deed)

-- a view's life began in a row of the base
began_low : (b : Base) (v : List ℕ) → IfSome (view_row b v) (λ began. began < size b)
began_low [] v = tt
began_low (row ∷ older) v = by (stays (view_row older v) (began_low older v)) row.deed
  where
    stays : (life : Option ℕ) → IfSome life (λ began. began < size older) → IfSome life (λ began. began < suc (size older))
    stays None low = tt
    stays (Some began) low = omega arith

    changed : (is : Bool) (effect : Effect ℕ) → IfSome (view_row older v) (λ began. began < suc (size older))
        → IfSome (value_after effect (view_row older v)) (λ began. began < suc (size older))
        → IfSome (value_after (only_if is effect) (view_row older v)) (λ began. began < suc (size older))
    changed true effect low h = h
    changed false effect low h = low

    by : IfSome (view_row older v) (λ began. began < suc (size older)) → (deed : Deed)
        → IfSome (value_after (view_effect v (size older) deed) (view_row older v)) (λ began. began < suc (size older))
    by low (deeds.Mkview w) = changed (bytes_eq w v) (Sets (size older)) low (omega arith)
    by low (deeds.Rmview w) = changed (bytes_eq w v) Ends low tt
    by low deed = low

out_in_life : (b : Base) (v : List ℕ) (e : ℕ) → BeganBefore (view_row b v) (out b v e)
out_in_life [] v e = tt
out_in_life (row ∷ older) v e =
    by_row v e (size older) (view_row older v) (out older v e) (began_low older v) (out_in_life older v e) row.deed

-- so what a row before it took out does not stand
other_row : (began n row : ℕ) → n < began → began < row → (n == row) ≡ false
other_row began n row less low = grind (arith, nat_tests)

does_not_stand : (began n : ℕ) (found : Option Checkout) → n < began → IfSome found (λ checkout. began < checkout.row)
    → is_number n (option_map row_of_checkout found) ≡ false
does_not_stand began n None less low = refl
does_not_stand began n (Some checkout) less low = other_row began n checkout.row less low

none_standing : (b : Base) (v : List ℕ) (began : ℕ) → view_row b v ≡ Some began → (n : ℕ) → n < began → (made : Option TakenOut)
    → IfSome made (λ taken. taken.checkout.row ≡ n) → standing_of b v made ≡ Keeps
none_standing b v began is n less None here = refl
none_standing b v began is n less (Some taken) here = by (bytes_eq taken.view v) refl
  where
    by : (own : Bool) → bytes_eq taken.view v ≡ own → only_if (own && stands b taken) (Sets taken.checkout.row) ≡ Keeps
    by false e = refl
    by true e =
        let own : taken.view ≡ v = (bytes_eq-Decides taken.view v).0 e in
        let earlier : taken.checkout.row < began = omega (arith, here, less) in
        let low : IfSome (out b v taken.element) (λ checkout. began < checkout.row) =
        subst (λ life. BeganBefore life (out b v taken.element)) is (out_in_life b v taken.element) in
        let falls : is_number taken.checkout.row (option_map row_of_checkout (out b v taken.element)) ≡ false =
        does_not_stand began taken.checkout.row (out b v taken.element) earlier low in
        ap (λ w. only_if (is_number taken.checkout.row (option_map row_of_checkout (out b w taken.element)))
        (Sets taken.checkout.row)) own
        ∙ ap (λ stands. only_if stands (Sets taken.checkout.row)) falls

before_life : (b : Base) (v : List ℕ) (began : ℕ) → view_row b v ≡ Some began → (older : Base) (deed : Deed)
    → from_row began (standing_effect b v) older deed ≡ standing_effect b v older deed
before_life b v began is older deed = by (nat_lt (size older) began) refl
  where
    by : (before : Bool) → nat_lt (size older) began ≡ before
        → cond before Keeps (standing_effect b v older deed) ≡ standing_effect b v older deed
    by true e =
        let less : size older < began = grind (arith, nat_tests) in
        sym (none_standing b v began is (size older) less (made_out (size older) deed) (taken_here (size older) deed))
    by false e = refl

none_before : (n : ℕ) → nat_lt n 0 ≡ false
none_before n = grind (arith, nat_tests)

same_oldest : {A : Type 0} (one two : Deeds A) → ((older : Base) (deed : Deed) → one older deed ≡ two older deed) → (b : Base)
    → oldest one b ≡ oldest two b
same_oldest one two same [] = refl
same_oldest one two same (row ∷ older) = ap₂ option_or (same_oldest one two same older)
    (ap (λ effect. left_by (update_by_row (size older) effect)) (same older row.deed))

-- The oldest checkout that stands is one of the view's own life.
pub oldest_in_life : (b : Base) (v : List ℕ)
    → oldest (from_row (unwrap_or (view_row b v) 0) (standing_effect b v)) b ≡ oldest (standing_effect b v) b
oldest_in_life b v = by (view_row b v) refl
  where
    by : (life : Option ℕ) → view_row b v ≡ life
        → oldest (from_row (unwrap_or life 0) (standing_effect b v)) b ≡ oldest (standing_effect b v) b
    by None is = same_oldest (from_row 0 (standing_effect b v)) (standing_effect b v)
        (λ older deed. ap (λ before. cond before Keeps (standing_effect b v older deed)) (none_before (size older))) b
    by (Some began) is = same_oldest (from_row began (standing_effect b v)) (standing_effect b v) (before_life b v began is) b
