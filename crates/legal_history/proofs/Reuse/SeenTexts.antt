-- The text of an entry is the text that is seen at its path, where each object that is seen is true.
use Rattle.std.proofs.Common.{◌≡◌, refl, ap, sym, subst, ◌∙◌, ℕ, zero, suc, Bool, true, false, Option, Some, None, List, [], ◌∷◌}
use Rattle.std.proofs.Common.{arith}
use Rattle.std.proofs.lemmas.Bool.Decides.{nat_tests}
use Rattle.std.specs.Prelude.{is_none}
use Rattle.cc_names.specs.declared.rows.Deed.{Deed}
use Rattle.cc_names.specs.declared.rows.Deed.TheVariants as deeds
use Rattle.cc_names.specs.declared.units.Unit.{Unit}
use Rattle.cc_names.proofs.Common.{number_found}
use Rattle.base_model.specs.Rows.{Base, first_rows, deed_at}
use Rattle.legal_history.specs.Builds.Active.{Build}
use Rattle.base_model.specs.Changes.{targets_of, targets_of_deed}
use Rattle.legal_history.specs.Builds.Choices.{entry_row, visible}
use Rattle.base_model.specs.Texts.{text_of_row, output_at, text}
use Rattle.base_model.specs.Closures.{is_publish, is_publish_deed}
use Rattle.base_model.specs.Conditions.{makes_file_text}
use Rattle.base_model.specs.Fits.{is_base}
use Rattle.base_model.specs.Objects.{agrees}
use Rattle.base_model.specs.Seen.{file_at}
use Rattle.legal_history.specs.Builds.Values.{output_of_run, outputs_of_run, text_of_entry, is_true, rerun, IsSound}
use Rattle.base_model.proofs.FilesBelow.{beyond}
use Rattle.base_model.proofs.FileRows.{FileText, file_is_text, file_text_stays_all}
use Rattle.base_model.proofs.RootRow.{no_row}
use Rattle.legal_history.specs.Laws.Objects.{GivesLive}
use Rattle.legal_history.proofs.Reuse.Members.{seen_by}
use Rattle.legal_history.specs.Laws.Given.{SeenBy, ByUnit, ByFile}
use Rattle.legal_history.proofs.Reuse.TrueObjects.{true_object, live_is_true, object_text}

-- each object that is seen is true
abbrev pub SeesTrue : Base → (List ℕ → Option ℕ) → Type 0
SeesTrue b rows = (path : List ℕ) (id : ℕ) → rows path ≡ Some id → is_publish b id ≡ true → is_true b id ≡ true

-- row 0 published nothing and made no text
no_deed : (b : Base) (o : Option Deed) → deed_at b 0 ≡ o → is_publish_deed o ≡ true → ⊥
no_deed b None is h = cc
no_deed b (Some deed) is h = no_row b deed is

pub no_text : (b : Base) (path : List ℕ) → text b 0 path ≡ None
no_text [] path = refl
no_text (row ∷ older) path = let rest = no_text older path in grind (arith, nat_tests)

-- a row that made the text of a file published nothing
no_publish : (b : Base) (r : ℕ) (o : Option Deed) → makes_file_text b r o ≡ true → is_publish_deed o ≡ true → ⊥
no_publish b r None h g = cc
no_publish b r (Some (deeds.Publish v targets script entries outputs)) h g = cc
no_publish b r (Some deed) h g = cc

file_publishes_nothing : (b : Base) (build : Build) (path : List ℕ) (r : ℕ) → is_base (first_rows build.rows b) ≡ true
    → file_at (first_rows build.rows b) build.view path ≡ Some r → is_publish b r ≡ true → ⊥
file_publishes_nothing b build path zero base is publish = no_deed b (deed_at b 0) refl publish
file_publishes_nothing b build path (suc r) base is publish =
    let more = beyond b build.rows in
    let made : FileText b (suc r) = subst (λ c. FileText c (suc r)) (sym more.is)
    (file_text_stays_all more.more (first_rows build.rows b) (suc r)
    (file_is_text (first_rows build.rows b) build.view path (suc r) base is (omega arith))) in
    no_publish b (suc r) (deed_at b (suc r)) made.makes publish

-- what a unit sees is true, where the base is sound and each object that its build gave is live
pub unit_sees_true : (b : Base) (build : Build) (n : ℕ) (unit : Unit) → is_base (first_rows build.rows b) ≡ true → IsSound b
    → GivesLive b build → SeesTrue b (visible b build n unit)
unit_sees_true b build n unit base sound gives path id seen publish = by (seen_by b build n unit path id seen)
  where
    by : SeenBy b build n unit path id → is_true b id ≡ true
    by (ByUnit g) = live_is_true b id sound (gives.lives g.m id g.given)
    by (ByFile file) = absurd (file_publishes_nothing b build path id base file publish)

-- the text of an object that an entry names is what is stored
value_text : (b : Base) (path : List ℕ) (r : ℕ) → is_true b r ≡ true → output_of_run path (targets_of b r)
    (outputs_of_run (rerun b r)) ≡ text b r path
value_text b path r h =
    let o = true_object b r h in
    ap (λ ran. output_of_run path (targets_of b r) ran) o.ran ∙ ap (λ d. output_at path (targets_of_deed d) o.outputs) o.is
    ∙ sym (object_text b r o.view o.targets o.script o.entries o.outputs path o.is)

-- the text of an entry whose row is this one, where what is seen is true
row_text : (b : Base) (rows : List ℕ → Option ℕ) (path : List ℕ) (r : ℕ) → SeesTrue b rows → rows path ≡ Some (suc r)
    → text_of_entry b (rerun b) path (suc r) ≡ text b (suc r) path
row_text b rows path r sees is = by (is_publish b (suc r)) refl
  where
    by : (t : Bool) → is_publish b (suc r) ≡ t →
        elim t as (λ x. Option (List ℕ)) [
          | true ↦ output_of_run path (targets_of b (suc r)) (outputs_of_run (rerun b (suc r)))
          | false ↦ text b (suc r) path
        ] ≡ text b (suc r) path
    by true publish = value_text b path (suc r) (sees path (suc r) is publish)
    by false other = refl

pub none_is : (o : Option ℕ) → is_none o ≡ true → o ≡ None
none_is None h = refl
none_is (Some n) h = absurd (cc)

-- an entry that agrees with what is seen has the text that is seen
pub entry_text : (b : Base) (rows : List ℕ → Option ℕ) (path : List ℕ) (r : ℕ) → SeesTrue b rows → agrees r (rows path) ≡ true
    → text_of_entry b (rerun b) path r ≡ text_of_row b path (rows path)
entry_text b rows path zero sees h = sym (ap (text_of_row b path) (none_is (rows path) h))
entry_text b rows path (suc r) sees h = let is = number_found (suc r) (rows path) h in row_text b rows path r sees is
    ∙ sym (ap (text_of_row b path) is)

-- and so has the entry that is made of what is seen
pub own_entry_text : (b : Base) (rows : List ℕ → Option ℕ) (path : List ℕ) → SeesTrue b rows
    → text_of_entry b (rerun b) path (entry_row (rows path)) ≡ text_of_row b path (rows path)
own_entry_text b rows path sees = by (rows path) refl
  where
    by : (o : Option ℕ) → rows path ≡ o → text_of_entry b (rerun b) path (entry_row o) ≡ text_of_row b path o
    by None is = refl
    by (Some zero) is = sym (no_text b path)
    by (Some (suc r)) is = row_text b rows path r sees is
