-- The rows that give names in directories are found by the walk along their marks.
use Rattle.std.proofs.Common.{◌≡◌, ℕ, ◌≤◌, ◌==◌, Bool, true, false, ◌&&◌, ◌||◌, List, [], ◌∷◌, length, Some, refl, ap, ap₂, ◌∙◌}
use Rattle.std.proofs.Common.{arith}
use Rattle.std.specs.Prelude.{is_some, option_and_then}
use Rattle.std.specs.List.{list_any}
use Rattle.std.proofs.lemmas.Bool.Decides.{nat_tests}
use Rattle.cc_names.specs.Formed.{Plain}
use Rattle.cc_names.specs.Last.{Sets, only_if}
use Rattle.cc_names.specs.Versions.{put_if}
use Rattle.base_model.specs.Rows.{Base, size, deed_at, deed_of, row_at}
use Rattle.base_model.proofs.VersionRows.{newest_deed}
use Rattle.base_rows.specs.Giving.{gives_in, naming_effect}
use Rattle.base_rows.specs.LookUps.{update_by_row}
use Rattle.view_lookup.specs.GivenNames.{is_name, name_at, name_given, was_named}
use Rattle.base_rows.specs.Walks.{updating_rows}

-- whether one of some numbers passes, with one more where a test holds
pub any_put : (p : ℕ → Bool) (test : Bool) (n : ℕ) (ns : List ℕ) → list_any p (put_if test n ns)
    ≡ ((test && p n) || list_any p ns)
any_put p true n ns = refl
any_put p false n ns = refl

pub updates_where : (test : Bool) (n m : ℕ) → is_some (update_by_row n (only_if test (Sets m))) ≡ test
updates_where true n m = refl
updates_where false n m = refl

pub deed_there : (row : Plain) (older : Base) (n : ℕ) → n ≤ length older → deed_at (row ∷ older) n ≡ deed_at older n
deed_there row older n low =
    let apart : (size older == n) ≡ false = grind (arith, nat_tests, low) in
    ap (λ is. deed_of (elim is [ true ↦ Some row | false ↦ row_at older n ])) apart

-- the deeds of some rows of a base are those of the base
abbrev pub AreDeeds : Base → Base → Type 0
AreDeeds b rows = (n : ℕ) → n ≤ length rows → deed_at b n ≡ deed_at rows n

pub deeds_below : (b : Base) (row : Plain) (older : Base) → AreDeeds b (row ∷ older) → AreDeeds b older
deeds_below b row older agree = λ n low. agree n (omega (arith, low)) ∙ deed_there row older n low

pub deed_newest : (b : Base) (row : Plain) (older : Base) → AreDeeds b (row ∷ older) → deed_at b (size older) ≡ Some row.deed
deed_newest b row older agree = agree (size older) (omega arith) ∙ newest_deed row older

pub names_found : (b : Base) (d : ℕ) (name : List ℕ) (rows : Base) → AreDeeds b rows
    → list_any (λ n. is_name name (name_at b n)) (updating_rows (naming_effect d) rows) ≡ was_named d name rows
names_found b d name [] agree = refl
names_found b d name (row ∷ older) agree =
    any_put (λ n. is_name name (name_at b n)) (is_some (update_by_row (size older) (naming_effect d older row.deed))) (size older)
    (updating_rows (naming_effect d) older)
    ∙ ap₂ (λ (one more : Bool). one || more)
    (ap₂ (λ (one two : Bool). one && two) (updates_where (gives_in d row.deed) (size older) (size older))
    (ap (λ deed. is_name name (option_and_then name_given deed)) (deed_newest b row older agree)))
    (names_found b d name older (deeds_below b row older agree))
