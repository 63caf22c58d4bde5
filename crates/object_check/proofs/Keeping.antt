-- Values are kept of one object after the other.
use Rattle.std.proofs.Common.{◌≡◌, refl, ap, sym, subst, ◌∙◌, ℕ, suc, ◌==◌, ◌&&◌, Bool, true, false, cond, nat_lt, Option, None}
use Rattle.std.proofs.Common.{List, arith}
use Rattle.std.proofs.lemmas.Bool.Decides.{nat_tests}
use Rattle.base_model.specs.Rows.{Base, only_where, row_at, deed_of}
use Rattle.legal_history.specs.Builds.Values.{is_true, is_true_deed, rerun}
use Rattle.object_check.specs.Kept.{KeepsBelow, Values, values_kept, kept_of}
use Rattle.base_rows.proofs.RowTexts.{no_row}

-- the next value was put where it is needed, and nothing else changed
pub keeps_next : (id : ℕ) (needed : ℕ → Bool) (b : Base) (old new : Values) → KeepsBelow id needed b old
    → new id ≡ only_where (needed id) (values_kept b id) →
    ((other : ℕ) → (id == other) ≡ false → new other ≡ old other) → KeepsBelow (suc id) needed b new
keeps_next id needed b old new keeps put others = λ other. by other (id == other) refl
  where
    by : (other : ℕ) (t : Bool) → (id == other) ≡ t → new other ≡ only_where (nat_lt other (suc id) && needed other)
        (values_kept b other)
    by other true at =
        let same : id ≡ other = grind (arith, nat_tests) in
        let below : nat_lt id (suc id) ≡ true = grind (arith, nat_tests) in
        subst (λ n. new n ≡ only_where (nat_lt n (suc id) && needed n) (values_kept b n)) same (put
        ∙ sym (ap (λ l. only_where (l && needed id) (values_kept b id)) below))
    by other false apart =
        let below : nat_lt other (suc id) ≡ nat_lt other id = grind (arith, nat_tests) in
        others other apart ∙ keeps other ∙ sym (ap (λ l. only_where (l && needed other) (values_kept b other)) below)

-- nothing is kept of the next object yet
pub none_yet : (id : ℕ) (needed : ℕ → Bool) (b : Base) (values : Values) → KeepsBelow id needed b values → values id ≡ None
none_yet id needed b values keeps =
    let below : nat_lt id id ≡ false = grind (arith, nat_tests) in
    keeps id ∙ ap (λ l. only_where (l && needed id) (values_kept b id)) below

-- an object that is not needed is passed
pub passed : (id : ℕ) (needed : ℕ → Bool) (b : Base) (values : Values) → KeepsBelow id needed b values → needed id ≡ false
    → KeepsBelow (suc id) needed b values
passed id needed b values keeps is =
    keeps_next id needed b values values keeps (none_yet id needed b values keeps
    ∙ sym (ap (λ n. only_where n (values_kept b id)) is)) (λ other apart. refl)

-- a needed object's value was kept
pub kept_next : (id : ℕ) (needed : ℕ → Bool) (b : Base) (old new : Values) (value : Option (Option (List (List ℕ))))
    → KeepsBelow id needed b old → needed id ≡ true → value ≡ values_kept b id →
    ((other : ℕ) → new other ≡ cond (id == other) value (old other)) → KeepsBelow (suc id) needed b new
kept_next id needed b old new value keeps is same put =
    let own : (id == id) ≡ true = grind (arith, nat_tests) in
    keeps_next id needed b old new keeps
    (put id ∙ ap (λ t. cond t value (old id)) own ∙ same ∙ sym (ap (λ n. only_where n (values_kept b id)) is))
    (λ other apart. put other ∙ ap (λ t. cond t value (old other)) apart)

-- where there is no row nothing is kept
pub none_at : (id : ℕ) (b : Base) → row_at b id ≡ None → values_kept b id ≡ None
none_at id b h = ap (λ row. kept_of (rerun b id) (deed_of row)) h

pub untrue_at : (id : ℕ) (b : Base) → row_at b id ≡ None → is_true b id ≡ false
untrue_at id b h = ap (λ row. is_true_deed (rerun b id) (deed_of row)) h

pub nowhere_next : (id : ℕ) (needed : ℕ → Bool) (b : Base) (values : Values) → KeepsBelow id needed b values → row_at b id ≡ None
    → KeepsBelow (suc id) needed b values
nowhere_next id needed b values keeps h = keeps_next id needed b values values keeps (none_yet id needed b values keeps
    ∙ sym (nowhere (needed id))) (λ other apart. refl)
  where
    nowhere : (t : Bool) → only_where t (values_kept b id) ≡ None
    nowhere true = none_at id b h
    nowhere false = refl

-- before row 1 nothing is kept
pub keeps_none : (needed : ℕ → Bool) (b : Base) (values : Values) → ((id : ℕ) → values id ≡ None) → KeepsBelow 1 needed b values
keeps_none needed b values none =
    nowhere_next 0 needed b values (λ id. none id ∙ sym (by_number id)) (no_row b)
  where
    by_number : (id : ℕ) → only_where (nat_lt id 0 && needed id) (values_kept b id) ≡ None
    by_number id =
        let below : nat_lt id 0 ≡ false = grind (arith, nat_tests) in
        ap (λ l. only_where (l && needed id) (values_kept b id)) below
