-- The rows that are marked for a key stand newest first, and the first ones below a bound tell all that any of them does.
use Rattle.std.proofs.Common.{◌≡◌, ℕ, suc, ◌≤◌, ◌==◌, Bool, true, false, List, [], ◌∷◌, nat_lt, Option, None, refl, sym, ap, ◌∙◌}
use Rattle.std.proofs.Common.{arith, le_refl}
use Rattle.std.specs.Option.{option_or}
use Rattle.std.specs.declared.random_state.RandomState.{RandomState}
use Rattle.std.proofs.lemmas.Bool.Decides.{nat_tests}
use Rattle.cc_names.specs.Versions.{put_if}
use Rattle.base_model.specs.Rows.{Base, size, first_rows, deed_of}
use Rattle.base_rows.specs.LookUps.{Deeds, Update, update_by_deed, update_at, first_update}
use Rattle.base_rows.specs.Marked.{AreAtMost, Sink, marked_rows, rows_below, with_marks}
use Rattle.base_rows.specs.Subjects.{keys_of}
use Rattle.base_rows.proofs.Newest.{no_later}

later_too : (n : ℕ) (rows : List ℕ) → AreAtMost n rows → AreAtMost (suc n) rows
later_too n [] most = tt
later_too n (m ∷ rows) most = (omega (arith, most.0), later_too n rows most.1)

with_sinks : (n key : ℕ) (keys rows : List ℕ) → AreAtMost n rows → Sink rows → AreAtMost n (with_marks n key keys rows)
    × Sink (with_marks n key keys rows)
with_sinks n key [] rows most sinks = (most, sinks)
with_sinks n key (k ∷ keys) rows most sinks =
    elim (k == key) as (λ is. AreAtMost n (with_marks n key keys (put_if is n rows))
    × Sink (with_marks n key keys (put_if is n rows))) [
      | true ↦ with_sinks n key keys (n ∷ rows) (le_refl n, most) (most, sinks)
      | false ↦ with_sinks n key keys rows most sinks
    ]

marked_both : (hashing : RandomState) (key : ℕ) (b : Base) → AreAtMost (size b) (marked_rows hashing key b)
    × Sink (marked_rows hashing key b)
marked_both hashing key [] = (tt, tt)
marked_both hashing key (row ∷ older) =
    let before = marked_both hashing key older in
    let both = with_sinks (size older) key (keys_of hashing older row.deed) (marked_rows hashing key older) before.0 before.1 in (
      later_too (size older) (with_marks (size older) key (keys_of hashing older row.deed) (marked_rows hashing key older))
          both.0,
      both.1,
    )

pub marked_sinks : (hashing : RandomState) (key : ℕ) (b : Base) → Sink (marked_rows hashing key b)
marked_sinks hashing key b = (marked_both hashing key b).1

-- rows that do not lie below a bound tell nothing
module _ {A : Type 0} (at : ℕ → Option (Update A)) (bound : ℕ) (none : (n : ℕ) → bound ≤ n → at n ≡ None) where
  behind : (n : ℕ) → nat_lt n bound ≡ false → bound ≤ n
  behind n e = grind (arith, nat_tests)

  only_below : (rows : List ℕ) → first_update at (rows_below bound rows) ≡ first_update at rows
  only_below [] = refl
  only_below (n ∷ rows) = by (nat_lt n bound) refl (only_below rows)
    where
      by : (is : Bool) → nat_lt n bound ≡ is → first_update at (rows_below bound rows) ≡ first_update at rows
          → first_update at (put_if is n (rows_below bound rows)) ≡ option_or (at n) (first_update at rows)
      by true e before = ap (option_or (at n)) before
      by false e before = before ∙ sym (ap (λ here. option_or here (first_update at rows)) (none n (behind n e)))

  pub updating_rows_below : (one two : List ℕ) → rows_below bound one ≡ rows_below bound two
      → first_update at one ≡ first_update at two
  updating_rows_below one two same = sym (only_below one) ∙ ap (first_update at) same ∙ only_below two

-- a row after the last one does nothing
pub no_update : {A : Type 0} (effect : Deeds A) (b : Base) (n : ℕ) → size b ≤ n → update_at effect b n ≡ None
no_update effect b n behind = ap (λ found. update_by_deed effect (first_rows n b) n (deed_of found))
    (no_later b n (omega (arith, behind)))
