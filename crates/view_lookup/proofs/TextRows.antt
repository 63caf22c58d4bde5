-- The text that a row made, by the row and the rows below it.
use Rattle.std.proofs.Common.{◌≡◌, ℕ, suc, ◌<◌, ◌≤◌, ◌==◌, Bool, true, false, nat_lt, Option, Some, None, List, [], ◌∷◌, length}
use Rattle.std.proofs.Common.{refl, ap, sym, ◌∙◌, arith, lt-suc_self}
use Rattle.std.proofs.lemmas.Bool.Decides.{nat_tests}
use Rattle.cc_names.specs.Formed.{Plain}
use Rattle.base_model.specs.Rows.{Base, size, first_rows, row_at}
use Rattle.base_model.specs.Texts.{TextSource, Bytes, OfRow, NoText, source_of, text}
use Rattle.base_model.proofs.Stay.{all_rows}
use Rattle.base_rows.proofs.Newest.{no_later}

-- the text of a source, where an earlier row has this one
abbrev pub text_by : Base → List ℕ → TextSource → Option (List ℕ)
text_by older path source = elim source [ Bytes bytes ↦ Some bytes | OfRow origin ↦ text older origin path | NoText ↦ None ]

-- the text of a row after these, where there is one
abbrev pub text_of_row : Base → List ℕ → Option Plain → Option (List ℕ)
text_of_row older path None = None
text_of_row older path (Some row) = text_by older path (source_of older path row.deed)

newest : (row : Plain) (older : Base) (r : ℕ) → size older ≡ r → first_rows r (row ∷ older) ≡ older
newest row older r at =
    let past : nat_lt (size older) r ≡ false = grind (arith, nat_tests) in
    ap (λ within. elim within as (λ _. Base) [ true ↦ row ∷ older | false ↦ first_rows r older ]) past
    ∙ all_rows older r (omega arith)

-- rows after the number change nothing, and where the number is after all there is no row
older_row : (row : Plain) (older : Base) (r : ℕ) (path : List ℕ) → (size older == r) ≡ false
    → text_of_row (first_rows r older) path (row_at older r) ≡ text_of_row (first_rows r (row ∷ older)) path (row_at older r)
older_row row older r path apart = by_side (nat_lt (size older) r) refl
  where
    by_side : (is : Bool) → nat_lt (size older) r ≡ is → text_of_row (first_rows r older) path (row_at older r)
        ≡ text_of_row (elim is as (λ _. Base) [ true ↦ row ∷ older | false ↦ first_rows r older ]) path (row_at older r)
    by_side true e =
        let none : row_at older r ≡ None = no_later older r (grind (arith, nat_tests)) in
        ap (text_of_row (first_rows r older) path) none ∙ sym (ap (text_of_row (row ∷ older) path) none)
    by_side false e = refl

-- The text of the row of a number is given by that row and by those below it.
pub text_by_its_row : (b : Base) (r : ℕ) (path : List ℕ) → text b r path ≡ text_of_row (first_rows r b) path (row_at b r)
text_by_its_row [] r path = refl
text_by_its_row (row ∷ older) r path =
    elim (size older == r) as (λ is. (size older == r) ≡ is → elim is [
      | false ↦ text older r path
      | true ↦
          text_by older path (source_of older path row.deed)
    ] ≡ text_of_row (first_rows r (row ∷ older)) path
    (elim is [ true ↦ Some row | false ↦ row_at older r ])) [
      | true ↦ λ e. let at : size older ≡ r = grind (arith, nat_tests) in
          sym (ap (λ b. text_by b path (source_of b path row.deed)) (newest row older r at))
      | false ↦ λ e. text_by_its_row older r path ∙ older_row row older r path e
    ] refl

-- a row that is there has a number of the base
row_within : (b : Base) (n : ℕ) (found : Plain) → row_at b n ≡ Some found → n ≤ size b
row_within [] n found here = absurd (cc)
row_within (row ∷ older) n found here =
    elim (size older == n) as (λ is. (size older == n) ≡ is → elim is [ true ↦ Some row | false ↦ row_at older n ] ≡ Some found
    → n ≤ size (row ∷ older)) [
      | true ↦ λ e h. let at : size older ≡ n = grind (arith, nat_tests) in omega arith
      | false ↦ λ e h. let few = row_within older n found h in omega arith
    ] refl here

-- the rows below one of these are fewer
pub below_shorter : (b : Base) (n : ℕ) (found : Plain) → row_at b n ≡ Some found → length (first_rows n b) < length b
below_shorter [] n found here = absurd (cc)
below_shorter (row ∷ older) n found here =
    elim (size older == n) as (λ is. (size older == n) ≡ is → elim is [ true ↦ Some row | false ↦ row_at older n ] ≡ Some found
    → length (first_rows n (row ∷ older)) < suc (length older)) [
      | true ↦ λ e h. let at : size older ≡ n = grind (arith, nat_tests) in
          rw (newest row older n at) (lt-suc_self (length older))
      | false ↦ λ e h.
          let fewer = below_shorter older n found h in
          let few : n ≤ size older = row_within older n found h in
          let past : nat_lt (size older) n ≡ false = grind (arith, nat_tests) in
          let same : first_rows n (row ∷ older) ≡ first_rows n older =
          ap (λ within. elim within as (λ _. Base) [ true ↦ row ∷ older | false ↦ first_rows n older ]) past in
          rw same (omega arith)
    ] refl here
