-- The last marked row that sets a thing is the oldest row of the base that does.
use Rattle.std.proofs.Common.{◌≡◌, ℕ, ◌≤◌, ◌==◌, Bool, true, false, ◌||◌, List, [], ◌∷◌, length, Option, Some, None, nat_lt}
use Rattle.std.proofs.Common.{refl, ap, ap₂, sym, ◌∙◌, arith}
use Rattle.std.specs.List.{list_any}
use Rattle.std.specs.Option.{option_or}
use Rattle.std.specs.declared.random_state.RandomState.{RandomState}
use Rattle.cc_names.specs.Versions.{put_if}
use Rattle.base_model.specs.Rows.{Base, size, first_rows, deed_of}
use Rattle.base_rows.specs.LookUps.{Deeds, update_by_row, update_by_deed, left_by, oldest, set_at, last_set, ActsBySubject}
use Rattle.base_rows.specs.Marked.{with_marks, marked_rows}
use Rattle.base_rows.specs.Subjects.{Subject, key, affects, keys_of}
use Rattle.base_rows.proofs.Newest.{affected_key, first_shorter, newest_at, no_later, older_at}

-- the same once more is the same
or_again : {A : Type 0} (x y : Option A) → option_or (option_or x y) y ≡ option_or x y
or_again None None = refl
or_again None (Some b) = refl
or_again (Some a) y = refl

pub or_none : {A : Type 0} (x : Option A) → option_or x None ≡ x
or_none None = refl
or_none (Some a) = refl

-- the same of the oldest row that sets a thing
module _ {A : Type 0} (at : ℕ → Option A) (n key : ℕ) where
  passed_last : (keys rest : List ℕ) → at n ≡ None → last_set at (with_marks n key keys rest) ≡ last_set at rest
  passed_last [] rest none = refl
  passed_last (k ∷ keys) rest none = passed_last keys (put_if (k == key) n rest) none ∙ by_key (k == key)
    where
      by_key : (is : Bool) → last_set at (put_if is n rest) ≡ last_set at rest
      by_key true = ap (option_or (last_set at rest)) none ∙ or_none (last_set at rest)
      by_key false = refl

  once_last : (keys rest : List ℕ) → last_set at (with_marks n key keys (n ∷ rest)) ≡ option_or (last_set at rest) (at n)
  once_last [] rest = refl
  once_last (k ∷ keys) rest =
      elim (k == key) as (λ is. last_set at (with_marks n key keys (put_if is n (n ∷ rest)))
      ≡ option_or (last_set at rest) (at n)) [
        | true ↦ once_last keys (n ∷ rest) ∙ or_again (last_set at rest) (at n)
        | false ↦ once_last keys rest
      ]

  counted_last : (keys rest : List ℕ) → list_any (λ k. k == key) keys ≡ true
      → last_set at (with_marks n key keys rest) ≡ option_or (last_set at rest) (at n)
  counted_last [] rest has = absurd (cc)
  counted_last (k ∷ keys) rest has =
      elim (k == key) as (λ is. (is || list_any (λ j. j == key) keys) ≡ true
      → last_set at (with_marks n key keys (put_if is n rest)) ≡ option_or (last_set at rest) (at n)) [
        | true ↦ λ h. once_last keys rest
        | false ↦ λ h. counted_last keys rest h
      ] has

marks_tell_oldest : {A : Type 0} (hashing : RandomState) (subject : Subject) (effect : Deeds A)
    (affecting : ActsBySubject subject effect) (at : ℕ → Option A) (b : Base)
    → ((n : ℕ) → n ≤ length b → at n ≡ set_at effect b n) → last_set at (marked_rows hashing (key hashing subject) b)
    ≡ oldest effect b
marks_tell_oldest hashing subject effect affecting at [] agree = refl
marks_tell_oldest hashing subject effect affecting at (row ∷ older) agree =
    let n = size older in
    let keys = keys_of hashing older row.deed in
    let rest = marked_rows hashing (key hashing subject) older in
    let here : at n ≡ left_by (update_by_row n (effect older row.deed)) = agree n (omega arith)
    ∙ ap left_by (newest_at effect row older) in
    let before : last_set at rest ≡ oldest effect older =
    marks_tell_oldest hashing subject effect affecting at older (λ m within. agree m (omega arith)
    ∙ ap left_by (older_at effect row older m within)) in
    elim (affects subject older row.deed) as (λ is. affects subject older row.deed ≡ is
    → last_set at (with_marks n (key hashing subject) keys rest) ≡ option_or (oldest effect older)
    (left_by (update_by_row n (effect older row.deed)))) [
      | true ↦ λ e. counted_last at n (key hashing subject) keys rest (affected_key hashing subject older row.deed e)
          ∙ ap₂ option_or before here
      | false ↦ λ e.
          let nothing : left_by (update_by_row n (effect older row.deed)) ≡ None =
          ap (λ does. left_by (update_by_row n does)) (affecting older row.deed e) in
          passed_last at n (key hashing subject) keys rest (here ∙ nothing) ∙ before
          ∙ sym (ap (option_or (oldest effect older)) nothing ∙ or_none (oldest effect older))
    ] refl

only_first_oldest : {A : Type 0} (hashing : RandomState) (subject : Subject) (effect : Deeds A)
    (affecting : ActsBySubject subject effect) (t : ℕ) (b : Base) (at : ℕ → Option A)
    → ((n : ℕ) → at n ≡ set_at effect (first_rows t b) n) → last_set at (marked_rows hashing (key hashing subject) b)
    ≡ oldest effect (first_rows t b)
only_first_oldest hashing subject effect affecting t [] at agree = refl
only_first_oldest hashing subject effect affecting t (row ∷ older) at agree =
    elim (nat_lt (size older) t) as (λ within. ((n : ℕ) → at n ≡ set_at effect
    (elim within as (λ _. Base) [ true ↦ row ∷ older | false ↦ first_rows t older ]) n)
    → last_set at (marked_rows hashing (key hashing subject) (row ∷ older))
    ≡ oldest effect (elim within as (λ _. Base) [ true ↦ row ∷ older | false ↦ first_rows t older ])) [
      | true ↦ λ all. marks_tell_oldest hashing subject effect affecting at (row ∷ older) (λ n within. all n)
      | false ↦ λ all.
          let n = size older in
          let none : at n ≡ None =
          all n ∙ ap (λ found. left_by (update_by_deed effect (first_rows n (first_rows t older)) n (deed_of found)))
          (no_later (first_rows t older) n (omega (arith, first_shorter t older))) in
          passed_last at n (key hashing subject) (keys_of hashing older row.deed)
          (marked_rows hashing (key hashing subject) older) none ∙ only_first_oldest hashing subject effect affecting t older
          at all
    ] agree

-- The last of a subject's marks whose row is among the first rows and sets the thing is the oldest of the first rows that does.
pub oldest_of_first : {A : Type 0} (hashing : RandomState) (subject : Subject) (effect : Deeds A) → ActsBySubject subject effect
    → (t : ℕ) (b : Base)
    → last_set (set_at effect (first_rows t b)) (marked_rows hashing (key hashing subject) b) ≡ oldest effect (first_rows t b)
oldest_of_first hashing subject effect affecting t b = only_first_oldest hashing subject effect affecting t b
    (set_at effect (first_rows t b)) (λ n. refl)

-- one of three after the other
pub or_of_three : {A : Type 0} (x y z : Option A) → option_or (option_or x y) z ≡ option_or x (option_or y z)
or_of_three None y z = refl
or_of_three (Some a) y z = refl
