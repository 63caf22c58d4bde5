-- The rows of a base, the oldest first, and what a check has found of them so far.
use Rattle.std.proofs.Common.{◌≡◌, refl, ap, ap₂, sym, subst, ◌∙◌, ℕ, suc, ◌+◌, ◌<◌, ◌≤◌, ◌==◌, Bool, true, false, not, ◌||◌}
use Rattle.std.proofs.Common.{nat_lt, Option, Some, None, [], ◌∷◌, arith}
use Rattle.std.proofs.lemmas.Bool.Decides.{nat_tests}
use Rattle.std.specs.Option.{option_or}
use Rattle.std.specs.Prelude.{is_some}
use Rattle.cc_names.specs.Formed.{Plain}
use Rattle.cc_names.specs.References.{one_where}
use Rattle.cc_names.specs.declared.rows.Deed.{Deed}
use Rattle.base_model.specs.Rows.{Base, size, first_rows, row_at, deed_at, deed_of, only_where}
use Rattle.base_model.specs.Changes.{live_row}
use Rattle.base_model.specs.Closures.{entries_of_deed}
use Rattle.base_model.specs.Fits.{is_base}
use Rattle.legal_history.specs.Builds.Values.{first_unsound, is_dead_or_true, is_true, live_among, live_count, unsound_among}
use Rattle.base_model.proofs.Owned.{row_fits, rows_below}
use Rattle.base_model.proofs.Stay.{all_rows, first_rows_stay}
use Rattle.base_model.proofs.EntriesBelow.{AreBelow, deed_entries_below}
use Rattle.object_check.specs.Verdicts.{IsFoundToBe, live_objects}
use Rattle.object_check.specs.declared.verdicts.Found.{Found}
use Rattle.object_check.specs.declared.verdicts.Found.TheVariants.{Dead, Same, Other}

-- the row of a number after those before it
pub record NextRow (b : Base) (id : ℕ) : Type 0 where
  pub row : Plain
  pub rows : first_rows (suc id) b ≡ row ∷ first_rows id b
  pub number : size (first_rows id b) ≡ id

pub next_row : (b : Base) (id : ℕ) → 0 < id → id < size b → NextRow b id
next_row [] id some within = absurd (omega (arith, some, within))
next_row (row ∷ older) id some within = by (size older == id) refl (λ low. next_row older id some low)
  where
    by : (t : Bool) → (size older == id) ≡ t → (id < size older → NextRow older id) → NextRow (row ∷ older) id
    by true at rest =
        let number : size older ≡ id = grind (arith, nat_tests) in
        let newest : first_rows id (row ∷ older) ≡ older = first_rows_stay row older id (omega (arith, number))
        ∙ all_rows older id (omega (arith, number)) in
        record {
          row = row;
          rows = all_rows (row ∷ older) (suc id) (omega (arith, number)) ∙ ap (λ (rows : Base). row ∷ rows) (sym newest);
          number = ap size newest ∙ number;
        }
    by false apart rest =
        let low : id < size older = grind (arith, nat_tests, within) in
        let before = rest low in
        let same = first_rows_stay row older id (omega (arith, low)) in
        record {
          row = before.row;
          rows = first_rows_stay row older (suc id) (omega (arith, low)) ∙ before.rows
              ∙ ap (λ (rows : Base). before.row ∷ rows) (sym same);
          number = ap size same ∙ before.number;
        }

-- the entries of a row name rows before it
pub entries_before : (b : Base) (id : ℕ) (deed : Deed) → is_base b ≡ true → deed_at b id ≡ Some deed
    → AreBelow id (entries_of_deed (Some deed))
entries_before [] id deed base h = absurd (cc)
entries_before (row ∷ older) id deed base h = by (size older == id) refl h
    (entries_before older id deed (rows_below row older base))
  where
    by : (t : Bool) → (size older == id) ≡ t → deed_of (elim t as (λ x. Option Plain) [
      | true ↦ Some row
      | false ↦
          row_at older id
    ]) ≡ Some deed →
        (deed_at older id ≡ Some deed → AreBelow id (entries_of_deed (Some deed))) → AreBelow id (entries_of_deed (Some deed))
    by true at h rest =
        let same : row.deed ≡ deed = cc in
        let number : size older ≡ id = grind (arith, nat_tests) in
        subst (λ n. AreBelow n (entries_of_deed (Some deed))) number (subst
        (λ d. AreBelow (size older) (entries_of_deed (Some d))) same
        (deed_entries_below older row.deed (row_fits row older base)))
    by false at h rest = rest h

-- the first of some rows that is not true is the first of all
pub first_stays : (b rows : Base) (t id : ℕ) → unsound_among b (first_rows t rows) ≡ Some id → unsound_among b rows ≡ Some id
first_stays b [] t id h = h
first_stays b (row ∷ older) t id h = by (nat_lt (size older) t) h (first_stays b older t id)
  where
    by : (within : Bool) → unsound_among b (elim within as (λ _. Base) [ true ↦ row ∷ older | false ↦ first_rows t older ])
        ≡ Some id →
        (unsound_among b (first_rows t older) ≡ Some id → unsound_among b older ≡ Some id)
        → option_or (unsound_among b older) (only_where (not (is_dead_or_true b (size older))) (Some (size older))) ≡ Some id
    by true h rest = h
    by false h rest = ap (λ first. option_or first (only_where (not (is_dead_or_true b (size older))) (Some (size older))))
        (rest h)

-- a live object that is not true, where none before it is so
pub found_untrue : (b : Base) (id : ℕ) → 0 < id → id < size b → unsound_among b (first_rows id b) ≡ None
    → is_some (live_row b id) ≡ true → is_true b id ≡ false → first_unsound b ≡ Some id
found_untrue b id some within none lives untrue =
    let next = next_row b id some within in
    first_stays b b (suc id) id
    (ap (unsound_among b) next.rows
    ∙ ap₂ (λ first n. option_or first (only_where (not (is_dead_or_true b n)) (Some n))) none next.number
    ∙ ap₂ (λ l t. option_or None (only_where (not (not l || t)) (Some id))) lives untrue)

-- what has been found of the rows before a number: no live object that is not true, and so many that are
pub record SoundBefore (b : Base) (id n : ℕ) : Type 0 where
  pub none : unsound_among b (first_rows id b) ≡ None
  pub count : n ≡ live_among b (first_rows id b)

one_more : (b : Base) (id count more : ℕ) → 0 < id → id < size b → SoundBefore b id count → is_dead_or_true b id ≡ true
    → one_where (is_some (live_row b id)) ≡ more → SoundBefore b (suc id) (more + count)
one_more b id count more some within before is one =
    let next = next_row b id some within in
    record {
      none = ap (unsound_among b) next.rows
          ∙ ap₂ (λ first n. option_or first (only_where (not (is_dead_or_true b n)) (Some n))) before.none next.number
          ∙ ap (λ t. option_or None (only_where (not t) (Some id))) is;
      count = sym (ap (live_among b) next.rows ∙ ap₂ (λ n others. one_where (is_some (live_row b n)) + others) next.number
          (sym before.count) ∙ ap (λ n. n + count) one);
    }

pub dead_more : (b : Base) (id count : ℕ) → 0 < id → id < size b → SoundBefore b id count → IsFoundToBe b id Dead
    → SoundBefore b (suc id) count
dead_more b id count some within before dead =
    let same : 0 + count ≡ count = omega arith in
    subst (SoundBefore b (suc id)) same (one_more b id count 0 some within before (ap (λ l. not l || is_true b id) dead)
    (ap one_where dead))

pub true_more : (b : Base) (id count : ℕ) → 0 < id → id < size b → SoundBefore b id count → IsFoundToBe b id Same
    → SoundBefore b (suc id) (count + 1)
true_more b id count some within before h =
    let sum : 1 + count ≡ count + 1 = omega arith in
    subst (SoundBefore b (suc id)) sum (one_more b id count 1 some within before (ap₂ (λ l t. not l || t) h.0 h.1)
    (ap one_where h.0))

-- by what the row of a number was found to be
pub found_more : (b : Base) (id count more : ℕ) (found : Found) → 0 < id → id < size b → SoundBefore b id count
    → IsFoundToBe b id found → Some more ≡ live_objects found → SoundBefore b (suc id) (count + more)
found_more b id count more Dead some within before h is =
    let none : count ≡ count + more = let same : more ≡ 0 = cc in omega (arith, same) in
    subst (SoundBefore b (suc id)) none (dead_more b id count some within before h)
found_more b id count more Same some within before h is =
    let one : count + 1 ≡ count + more = let same : more ≡ 1 = cc in omega (arith, same) in
    subst (SoundBefore b (suc id)) one (true_more b id count some within before h)
found_more b id count more Other some within before h is = absurd (cc)

pub found_none : (b : Base) (id count : ℕ) (found : Found) → 0 < id → id < size b → SoundBefore b id count
    → IsFoundToBe b id found → None ≡ live_objects found → first_unsound b ≡ Some id
found_none b id count Dead some within before h is = absurd (cc)
found_none b id count Same some within before h is = absurd (cc)
found_none b id count Other some within before h is = found_untrue b id some within before.none h.0 h.1

-- before row 1 there is nothing
pub nothing_before : (b : Base) → first_rows 1 b ≡ []
nothing_before [] = refl
nothing_before (row ∷ older) = let rest = nothing_before older in grind (arith, nat_tests)

pub sound_at_first : (b : Base) → SoundBefore b 1 0
sound_at_first b = record { none = ap (unsound_among b) (nothing_before b); count = sym (ap (live_among b) (nothing_before b)) }

pub sound_at_last : (b : Base) (id count : ℕ) → size b ≤ id → SoundBefore b id count → (first_unsound b ≡ None)
    × (count ≡ live_count b)
sound_at_last b id count past h =
    let all = all_rows b id past in
    (sym (ap (unsound_among b) all) ∙ h.none, h.count ∙ ap (live_among b) all)
