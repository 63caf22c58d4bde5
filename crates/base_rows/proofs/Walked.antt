-- The marked rows that do something to a thing are all rows of the base that do, however often each is marked.
use Rattle.std.proofs.Common.{◌≡◌, ℕ, ◌<◌, ◌≤◌, ◌==◌, Bool, true, false, ◌&&◌, ◌||◌, List, [], ◌∷◌, length, Option, nat_lt, min}
use Rattle.std.proofs.Common.{refl, ap, ap₂, sym, ◌∙◌, arith, le_refl}
use Rattle.std.specs.Prelude.{is_some}
use Rattle.std.specs.List.{list_any}
use Rattle.std.proofs.lemmas.Bool.Decides.{nat_tests}
use Rattle.cc_names.specs.Last.{Keeps}
use Rattle.std.specs.declared.random_state.RandomState.{RandomState}
use Rattle.cc_names.specs.Versions.{put_if}
use Rattle.cc_names.specs.declared.rows.Deed.{Deed}
use Rattle.base_model.specs.Rows.{Base, size, first_rows}
use Rattle.base_rows.specs.LookUps.{Deeds, Update, update_by_row, update_at, ActsBySubject}
use Rattle.base_rows.specs.Marked.{with_marks, marked_rows}
use Rattle.base_rows.specs.Subjects.{Subject, key, affects, keys_of}
use Rattle.base_rows.specs.Walks.{updating_rows, updating_rows_below}
use Rattle.base_rows.proofs.Newest.{affected_key, first_shorter, newest_at, older_at}

module _ {A : Type 0} (at : ℕ → Option (Update A)) (n key : ℕ) where
  -- a number that does not lie below the bound is passed
  passed_one : (bound : ℕ) (rest : List ℕ) → bound ≤ n → updating_rows_below at bound (n ∷ rest)
      ≡ updating_rows_below at bound rest
  passed_one bound rest behind =
      let test : nat_lt n bound ≡ false = grind (arith, nat_tests, behind) in
      let least : min bound n ≡ bound = omega (arith, behind) in
      ap₂ (λ (is : Bool) (b : ℕ). put_if (is && is_some (at n)) n (updating_rows_below at b rest)) test least

  pub passed : (keys : List ℕ) (bound : ℕ) (rest : List ℕ) → bound ≤ n
      → updating_rows_below at bound (with_marks n key keys rest) ≡ updating_rows_below at bound rest
  passed [] bound rest behind = refl
  passed (k ∷ keys) bound rest behind = passed keys bound (put_if (k == key) n rest) behind ∙ by_key (k == key)
    where
      by_key : (is : Bool) → updating_rows_below at bound (put_if is n rest) ≡ updating_rows_below at bound rest
      by_key true = passed_one bound rest behind
      by_key false = refl

  -- one that does counts once, however often it is marked
  here : (bound : ℕ) (rest : List ℕ) → n < bound → updating_rows_below at bound (n ∷ rest)
      ≡ put_if (is_some (at n)) n (updating_rows_below at n rest)
  here bound rest within =
      let test : nat_lt n bound ≡ true = grind (arith, nat_tests, within) in
      let least : min bound n ≡ n = omega (arith, within) in
      ap₂ (λ (is : Bool) (b : ℕ). put_if (is && is_some (at n)) n (updating_rows_below at b rest)) test least

  once : (keys : List ℕ) (bound : ℕ) (rest : List ℕ) → n < bound → updating_rows_below at bound (with_marks n key keys (n ∷ rest))
      ≡ put_if (is_some (at n)) n (updating_rows_below at n rest)
  once [] bound rest within = here bound rest within
  once (k ∷ keys) bound rest within =
      elim (k == key) as (λ is. updating_rows_below at bound (with_marks n key keys (put_if is n (n ∷ rest)))
      ≡ put_if (is_some (at n)) n (updating_rows_below at n rest)) [
        | true ↦ once keys bound (n ∷ rest) within ∙ ap (put_if (is_some (at n)) n) (passed_one n rest (le_refl n))
        | false ↦ once keys bound rest within
      ]

  pub counted : (keys : List ℕ) (bound : ℕ) (rest : List ℕ) → n < bound → list_any (λ k. k == key) keys ≡ true
      → updating_rows_below at bound (with_marks n key keys rest) ≡ put_if (is_some (at n)) n (updating_rows_below at n rest)
  counted [] bound rest within has = absurd (cc)
  counted (k ∷ keys) bound rest within has =
      elim (k == key) as (λ is. (is || list_any (λ j. j == key) keys) ≡ true
      → updating_rows_below at bound (with_marks n key keys (put_if is n rest))
      ≡ put_if (is_some (at n)) n (updating_rows_below at n rest)) [
        | true ↦ λ h. once keys bound rest within
        | false ↦ λ h. counted keys bound rest within h
      ] has

-- no row is marked for a key that none of its subjects has
unmarked : (n key : ℕ) (keys rest : List ℕ) → list_any (λ k. k == key) keys ≡ false → with_marks n key keys rest ≡ rest
unmarked n key [] rest none = refl
unmarked n key (k ∷ keys) rest none =
    elim (k == key) as (λ is. (is || list_any (λ j. j == key) keys) ≡ false → with_marks n key keys (put_if is n rest) ≡ rest) [
      | true ↦ λ h. absurd (cc)
      | false ↦ λ h. unmarked n key keys rest h
    ] none

-- nor does it affect a subject with that key
not_affected : (hashing : RandomState) (subject : Subject) (older : Base) (deed : Deed)
    → list_any (λ k. k == key hashing subject) (keys_of hashing older deed) ≡ false → affects subject older deed ≡ false
not_affected hashing subject older deed none = by (affects subject older deed) refl
  where
    by : (is : Bool) → affects subject older deed ≡ is → is ≡ false
    by true e =
        let has = affected_key hashing subject older deed e in
        absurd (cc)
    by false e = refl

marks_walk : {A : Type 0} (hashing : RandomState) (subject : Subject) (effect : Deeds A)
    (affecting : ActsBySubject subject effect) (at : ℕ → Option (Update A)) (b : Base) (bound : ℕ) → size b ≤ bound
    → ((n : ℕ) → n ≤ length b → at n ≡ update_at effect b n) → updating_rows_below at bound
    (marked_rows hashing (key hashing subject) b) ≡ updating_rows effect b
marks_walk hashing subject effect affecting at [] bound within agree = refl
marks_walk hashing subject effect affecting at (row ∷ older) bound within agree =
    let n = size older in
    let k = key hashing subject in
    let keys = keys_of hashing older row.deed in
    let rest = marked_rows hashing k older in
    let here : at n ≡ update_by_row n (effect older row.deed) = agree n (omega arith) ∙ newest_at effect row older in
    let below : (m : ℕ) → m ≤ length older → at m ≡ update_at effect older m = λ m low. agree m (omega (arith, low))
    ∙ older_at effect row older m low in
    elim (list_any (λ j. j == k) keys) as (λ is. list_any (λ j. j == k) keys ≡ is
    → updating_rows_below at bound (with_marks n k keys rest) ≡ put_if (is_some (update_by_row n (effect older row.deed))) n
    (updating_rows effect older)) [
      | true ↦ λ e.
          counted at n k keys bound rest (omega (arith, within)) e
          ∙ ap₂ (λ one more. put_if (is_some one) n more) here (marks_walk hashing subject effect affecting at older n
          (le_refl n) below)
      | false ↦ λ e.
          let nothing : effect older row.deed ≡ Keeps = affecting older row.deed (not_affected hashing subject older row.deed e)
          in
          ap (updating_rows_below at bound) (unmarked n k keys rest e)
          ∙ marks_walk hashing subject effect affecting at older bound (omega (arith, within)) below
          ∙ sym (ap (λ does. put_if (is_some (update_by_row n does)) n (updating_rows effect older)) nothing)
    ] refl

only_first : {A : Type 0} (hashing : RandomState) (subject : Subject) (effect : Deeds A)
    (affecting : ActsBySubject subject effect) (t : ℕ) (b : Base) (at : ℕ → Option (Update A)) (bound : ℕ)
    → ((n : ℕ) → at n ≡ update_at effect (first_rows t b) n) → bound ≡ size (first_rows t b)
    → updating_rows_below at bound (marked_rows hashing (key hashing subject) b) ≡ updating_rows effect (first_rows t b)
only_first hashing subject effect affecting t [] at bound agree size_is = refl
only_first hashing subject effect affecting t (row ∷ older) at bound agree size_is =
    elim (nat_lt (size older) t) as (λ within. ((n : ℕ) → at n ≡ update_at effect
    (elim within as (λ _. Base) [ true ↦ row ∷ older | false ↦ first_rows t older ]) n)
    → bound ≡ size (elim within as (λ _. Base) [ true ↦ row ∷ older | false ↦ first_rows t older ])
    → updating_rows_below at bound (marked_rows hashing (key hashing subject) (row ∷ older))
    ≡ updating_rows effect (elim within as (λ _. Base) [ true ↦ row ∷ older | false ↦ first_rows t older ])) [
      | true ↦ λ all is. marks_walk hashing subject effect affecting at (row ∷ older) bound (omega (arith, is))
          (λ n within. all n)
      | false ↦ λ all is.
          passed at (size older) (key hashing subject) (keys_of hashing older row.deed) bound
          (marked_rows hashing (key hashing subject) older) (omega (arith, is, first_shorter t older))
          ∙ only_first hashing subject effect affecting t older at bound all is
    ] agree size_is

-- The marks of a subject tell all of the first rows that do something.
pub walk_of_first : {A : Type 0} (hashing : RandomState) (subject : Subject) (effect : Deeds A) → ActsBySubject subject effect
    → (t : ℕ) (b : Base)
    → updating_rows_below (update_at effect (first_rows t b)) (size (first_rows t b))
    (marked_rows hashing (key hashing subject) b) ≡ updating_rows effect (first_rows t b)
walk_of_first hashing subject effect affecting t b = only_first hashing subject effect affecting t b
    (update_at effect (first_rows t b)) (size (first_rows t b)) (λ n. refl) refl
