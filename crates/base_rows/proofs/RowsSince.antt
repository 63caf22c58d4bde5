-- The oldest row from a row on that sets a thing is the last marked one from there on that does.
use Rattle.std.proofs.Common.{◌≡◌, ℕ, ◌<◌, ◌≤◌, ◌==◌, Bool, true, false, cond, nat_lt, List, [], ◌∷◌, length, Option, None, refl}
use Rattle.std.proofs.Common.{ap, ap₂, sym, subst, ◌∙◌, arith}
use Rattle.std.specs.Option.{option_or}
use Rattle.std.specs.declared.random_state.RandomState.{RandomState}
use Rattle.std.proofs.lemmas.Bool.Decides.{nat_tests}
use Rattle.cc_names.specs.Last.{Effect, Keeps}
use Rattle.base_model.specs.Rows.{Base, size, first_rows}
use Rattle.base_rows.specs.LookUps.{Deeds, Update, update_by_row, update_at, left_by, oldest, set_at, last_set, from_row}
use Rattle.base_rows.specs.LookUps.{ActsBySubject}
use Rattle.base_rows.specs.Marked.{AreAtMost, marked_rows}
use Rattle.base_rows.specs.Subjects.{Subject, key}
use Rattle.base_rows.proofs.MarksSink.{no_update}
use Rattle.base_rows.proofs.Newest.{newest_at, older_at}
use Rattle.base_rows.proofs.Oldest.{oldest_of_first, or_none}

-- those of these numbers that do not lie below this one
abbrev pub numbers_from : ℕ → List ℕ → List ℕ
numbers_from since [] = []
numbers_from since (n ∷ ns) = cond (nat_lt n since) (numbers_from since ns) (n ∷ numbers_from since ns)

pub first_kept : (since n : ℕ) (ns : List ℕ) → since ≤ n → numbers_from since (n ∷ ns) ≡ n ∷ numbers_from since ns
first_kept since n ns behind =
    let apart : nat_lt n since ≡ false = grind (arith, nat_tests) in
    ap (λ is. cond is (numbers_from since ns) (n ∷ numbers_from since ns)) apart

-- where the first one lies below it and none is newer, all do
pub all_below : (since n : ℕ) (ns : List ℕ) → n < since → AreAtMost n ns → numbers_from since ns ≡ []
all_below since n [] below most = refl
all_below since n (m ∷ ns) below most =
    let low : m < since = omega (arith, most.0) in
    let is : nat_lt m since ≡ true = grind (arith, nat_tests) in
    ap (λ is. cond is (numbers_from since ns) (m ∷ numbers_from since ns)) is ∙ all_below since n ns below most.1

-- what rows do from a row on, they do to the same subject
from_affects : {A : Type 0} (subject : Subject) (effect : Deeds A) (since : ℕ) → ActsBySubject subject effect
    → ActsBySubject subject (from_row since effect)
from_affects subject effect since affecting older deed h =
    elim (nat_lt (size older) since) as (λ is. cond is Keeps (effect older deed) ≡ Keeps) [
      | true ↦ refl
      | false ↦ affecting older deed h
    ]

none_either : {A : Type 0} (is : Bool) → cond {A = Option A} is None None ≡ None
none_either true = refl
none_either false = refl

update_where : {A : Type 0} (is : Bool) (n : ℕ) (effect : Effect A)
    → update_by_row n (cond is Keeps effect) ≡ cond is None (update_by_row n effect)
update_where true n effect = refl
update_where false n effect = refl

left_where : {A : Type 0} (is : Bool) (update : Option (Update A)) → left_by (cond is None update) ≡ cond is None (left_by update)
left_where true update = refl
left_where false update = refl

module _ {A : Type 0} (effect : Deeds A) (since : ℕ) where
  update_from : (b : Base) (n : ℕ) → update_at (from_row since effect) b n ≡ cond (nat_lt n since) None (update_at effect b n)
  update_from [] n = sym (none_either (nat_lt n since))
  update_from (row ∷ older) n = by (nat_lt n (size older)) (n == size older) refl refl (update_from older n)
    where
      newest_too : update_at (from_row since effect) (row ∷ older) (size older)
          ≡ cond (nat_lt (size older) since) None (update_at effect (row ∷ older) (size older))
      newest_too =
          newest_at (from_row since effect) row older
          ∙ update_where (nat_lt (size older) since) (size older) (effect older row.deed)
          ∙ sym (ap (λ update. cond (nat_lt (size older) since) None update) (newest_at effect row older))

      by : (less same : Bool) → nat_lt n (size older) ≡ less → (n == size older) ≡ same
          → update_at (from_row since effect) older n ≡ cond (nat_lt n since) None (update_at effect older n)
          → update_at (from_row since effect) (row ∷ older) n ≡ cond (nat_lt n since) None (update_at effect (row ∷ older) n)
      by true same e f before =
          let within : n ≤ length older = grind (arith, nat_tests) in
          older_at (from_row since effect) row older n within ∙ before
          ∙ sym (ap (λ update. cond (nat_lt n since) None update) (older_at effect row older n within))
      by false true e f before =
          let here : size older ≡ n = grind (arith, nat_tests) in
          subst (λ m. update_at (from_row since effect) (row ∷ older) m
          ≡ cond (nat_lt m since) None (update_at effect (row ∷ older) m)) here newest_too
      by false false e f before =
          let behind : size (row ∷ older) ≤ n = grind (arith, nat_tests) in
          no_update (from_row since effect) (row ∷ older) n behind ∙ sym (none_either (nat_lt n since))
          ∙ sym (ap (λ update. cond (nat_lt n since) None update) (no_update effect (row ∷ older) n behind))

  set_from : (b : Base) (n : ℕ) → set_at (from_row since effect) b n ≡ cond (nat_lt n since) None (set_at effect b n)
  set_from b n = ap left_by (update_from b n) ∙ left_where (nat_lt n since) (update_at effect b n)

last_from : {A : Type 0} (since : ℕ) (one two : ℕ → Option A) → ((n : ℕ) → one n ≡ cond (nat_lt n since) None (two n))
    → (rows : List ℕ) → last_set one rows ≡ last_set two (numbers_from since rows)
last_from since one two agree [] = refl
last_from since one two agree (n ∷ rows) = ap₂ option_or (last_from since one two agree rows) (agree n) ∙ by (nat_lt n since)
  where
    by : (is : Bool) → option_or (last_set two (numbers_from since rows)) (cond is None (two n))
        ≡ last_set two (cond is (numbers_from since rows) (n ∷ numbers_from since rows))
    by true = or_none (last_set two (numbers_from since rows))
    by false = refl

-- The last of a subject's marks from a row on that is among the first rows and sets the thing is the oldest of these that does.
pub oldest_since : {A : Type 0} (hashing : RandomState) (subject : Subject) (effect : Deeds A) (since : ℕ)
    → ActsBySubject subject effect → (t : ℕ) (b : Base)
    → last_set (set_at effect (first_rows t b)) (numbers_from since (marked_rows hashing (key hashing subject) b))
    ≡ oldest (from_row since effect) (first_rows t b)
oldest_since hashing subject effect since affecting t b =
    sym (last_from since (set_at (from_row since effect) (first_rows t b)) (set_at effect (first_rows t b))
    (set_from effect since (first_rows t b)) (marked_rows hashing (key hashing subject) b))
    ∙ oldest_of_first hashing subject (from_row since effect) (from_affects subject effect since affecting) t b
