-- A row that gives an element another name fits the rows below it: the element has its first name there.
use Rattle.std.proofs.Common.{◌≡◌, ℕ, suc, ◌<◌, ◌≤◌, ◌==◌, Bool, true, false, not, ◌&&◌, Some, List, [], ◌∷◌, length, bytes_eq}
use Rattle.std.proofs.Common.{refl, ap, ap₂, sym, subst, ◌∙◌, arith}
use Rattle.std.specs.Prelude.{is_some}
use Rattle.std.proofs.lemmas.Bool.Decides.{Decides-eqb}
use Rattle.std.proofs.lemmas.Slice.Eq.{bytes_eq-Decides}
use Rattle.cc_names.specs.declared.rows.Deed.{Deed}
use Rattle.cc_names.specs.declared.rows.Deed.TheVariants as deeds
use Rattle.cc_names.proofs.Common.{and_first, and_second}
use Rattle.base_rows.proofs.Newest.{first_shorter}
use Rattle.base_model.specs.Catalogs.{BeginsEmpty, BeginsAs, Adds, Removes, Renames, edit_where, first_edit, is_out}
use Rattle.base_model.specs.Catalogs.{element_named, edit_of, own_of}
use Rattle.base_model.specs.Conditions.{has_out, has_name}
use Rattle.base_model.specs.Fits.{deed_fits, is_base}
use Rattle.base_model.specs.Rows.{Base, size, first_rows, row_at, deed_of, deed_at}
use Rattle.base_model.proofs.Deeds.{deed_below}
use Rattle.base_model.proofs.Owned.{row_fits, rows_below}
use Rattle.base_model.proofs.Stay.{first_rows_stay}
use Rattle.view_lookup.proofs.EntryRows.{below_newest, below_or_same}

some_deed : {a b : Deed} → Some a ≡ Some b → a ≡ b
some_deed h = cc

-- each row of a base fits the rows below it
pub fits_below : (b : Base) (n : ℕ) (deed : Deed) → is_base b ≡ true → deed_at b n ≡ Some deed
    → deed_fits (first_rows n b) deed ≡ true
fits_below [] n deed base h = absurd (cc)
fits_below (row ∷ older) n deed base h = by (size older == n) refl h (fits_below older n deed (rows_below row older base))
  where
    by : (is : Bool) → (size older == n) ≡ is → deed_of (elim is [ true ↦ Some row | false ↦ row_at older n ]) ≡ Some deed
        → (deed_at older n ≡ Some deed → deed_fits (first_rows n older) deed ≡ true)
        → deed_fits (first_rows n (row ∷ older)) deed ≡ true
    by true is found before =
        subst (λ (b : Base). deed_fits b deed ≡ true) (sym (below_newest row older)
        ∙ ap (λ m. first_rows m (row ∷ older)) ((Decides-eqb (size older) n).0 is))
        (subst (λ made. deed_fits older made ≡ true) (some_deed found) (row_fits row older base))
    by false is found before =
        subst (λ (b : Base). deed_fits b deed ≡ true) (sym (first_rows_stay row older n
        (below_or_same n (size older) (deed_below older n deed found)))) (before found)

-- there are fewer rows below a row
pub fewer_below : (b : Base) (n : ℕ) (deed : Deed) → deed_at b n ≡ Some deed → length (first_rows n b) < length b
fewer_below [] n deed h = absurd (cc)
fewer_below (row ∷ older) n deed h =
    let below : n < suc (size older) = deed_below (row ∷ older) n deed h in
    let less : length (first_rows n older) ≤ length older = first_shorter n older in
    let same : first_rows n (row ∷ older) ≡ first_rows n older = first_rows_stay row older n (omega arith) in
    subst (λ (b : Base). length b < suc (length older)) (sym same) (omega arith)

-- an edit that is made where a test holds, made
where_made : (test : Bool) (from_name to_name one two : List ℕ) → edit_where test (Renames from_name to_name) ≡ Renames one two
    → (test ≡ true) × (from_name ≡ one)
where_made true from_name to_name one two h = (refl, cc)
where_made false from_name to_name one two h = absurd (cc)

no_rename_as : (test : Bool) (origin : ℕ) (one two : List ℕ) → edit_where test (BeginsAs origin) ≡ Renames one two → ⊥
no_rename_as true origin one two h = cc
no_rename_as false origin one two h = cc

no_rename_of : (test : Bool) (name one two : List ℕ) → edit_where test (Removes name) ≡ Renames one two → ⊥
no_rename_of true name one two h = cc
no_rename_of false name one two h = cc

no_rename_by : (first test : Bool) (name : List ℕ) (n : ℕ) (one two : List ℕ)
    → first_edit first BeginsEmpty (edit_where test (Adds name n)) ≡ Renames one two → ⊥
no_rename_by true test name n one two h = cc
no_rename_by false true name n one two h = cc
no_rename_by false false name n one two h = cc

-- an element that gets another name has its first one
pub has_first_name : (older : Base) (v : List ℕ) (d n : ℕ) (deed : Deed) (one two : List ℕ) → edit_of v d n deed ≡ Renames one two
    → deed_fits older deed ≡ true → is_some (element_named one (own_of older v d)) ≡ true
has_first_name older v d n (deeds.Mkelem w f name kind out) one two h fit =
    absurd (no_rename_by (bytes_eq w v && (n == d) && out) (bytes_eq w v && (f == d)) name n one two h)
has_first_name older v d n (deeds.Checkout w e origin reserved) one two h fit =
    absurd (no_rename_as (bytes_eq w v && (e == d)) origin one two h)
has_first_name older v d n (deeds.Branch w e origin name out) one two h fit =
    absurd (no_rename_as (bytes_eq w v && (e == d) && is_out out) origin one two h)
has_first_name older v d n (deeds.Rmname w f name) one two h fit = absurd (no_rename_of (bytes_eq w v && (f == d)) name one two h)
has_first_name older v d n (deeds.Mv w f from_name to_name) one two h fit =
    let made = where_made (bytes_eq w v && (f == d)) from_name to_name one two h in
    let view : w ≡ v = (bytes_eq-Decides w v).0 (and_first (bytes_eq w v) (f == d) made.0) in
    let directory : f ≡ d = (Decides-eqb f d).0 (and_second (bytes_eq w v) (f == d) made.0) in
    let there : has_name older w f from_name ≡ true =
    and_second (has_out older w f) (has_name older w f from_name) (and_first (has_out older w f && has_name older w f from_name)
    (not (has_name older w f to_name)) fit) in
    ap₂ (λ by within. is_some (element_named one (own_of older by within))) (sym view) (sym directory)
    ∙ ap (λ name. is_some (element_named name (own_of older w f))) (sym made.1)
    ∙ there
has_first_name older v d n deed one two h fit = absurd (cc)
