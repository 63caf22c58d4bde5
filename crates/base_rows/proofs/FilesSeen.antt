-- What was seen in some first rows is what the first rows of a longer base show.
use Rattle.std.specs.Prelude.{IfOk, IfSome, IsTrue, cond, option_map}
use Rattle.std.specs.HashMap.{get}
use Rattle.std.specs.Str.{bytes_eq}
use Rattle.std.proofs.lemmas.Slice.Eq.{bytes_eq-Decides}
use Rattle.std.proofs.Common.{◌≡◌, refl, ℕ, ◌≤◌, Bool, true, false, nat_lt, Option, Some, None, Result, Ok, Err, List, [], ◌∷◌}
use Rattle.std.proofs.Common.{ap, sym, subst, ◌∙◌, arith}
use Rattle.cc_names.specs.Formed.{Plain}
use Rattle.base_model.specs.Rows.{Base, first_rows, size}
use Rattle.base_model.specs.Seen.{file_at}
use Rattle.base_model.proofs.Stay.{all_rows, first_rows_stay}
use Rattle.base_rows.specs.SeenFiles.{AreFiles, AreSeen, AreSeenByViews, IsSeenAs, IsSeenIn, IsSeenOnce, Views}
use Rattle.base_rows.specs.declared.seen_files.SeenFiles.{SeenFiles}

-- the first rows are no more than all
pub first_within : (b : Base) (t : ℕ) → size (first_rows t b) ≤ size b
first_within [] t = omega arith
first_within (row ∷ older) t = by (nat_lt (size older) t) (first_within older t)
  where
    by : (is : Bool) → size (first_rows t older) ≤ size older → size (elim is as (λ x. Base) [
      | true ↦ row ∷ older
      | false ↦
          first_rows t older
    ]) ≤ size (row ∷ older)
    by true before = omega arith
    by false before = omega arith

-- as many first rows as there are among the first ones are these
pub first_again : (b : Base) (t : ℕ) → first_rows (size (first_rows t b)) b ≡ first_rows t b
first_again [] t = refl
first_again (row ∷ older) t = by (nat_lt (size older) t) (first_again older t)
  where
    by : (is : Bool) → first_rows (size (first_rows t older)) older ≡ first_rows t older → let first =
        elim is as (λ x. Base) [ true ↦ row ∷ older | false ↦ first_rows t older ] in
        first_rows (size first) (row ∷ older) ≡ first
    by true before = all_rows (row ∷ older) (size (row ∷ older)) (omega arith)
    by false before = first_rows_stay row older (size (first_rows t older)) (first_within older t) ∙ before

-- what is kept of a view is of the first rows, where it is of as many
pub seen_in : (b : Base) (t : ℕ) (v : List ℕ) (it : List ℕ × SeenFiles) → IsSeenAs b v it → IsSeenIn (first_rows t b) v it
seen_in b t v it seen = (
  seen.0,
  λ count. subst (λ rows. AreFiles rows v it.1.files) (ap (λ n. first_rows n b) count
      ∙ first_again b t) seen.1.files,
)

-- what is seen in the first rows may be kept
pub stored_in : (b : Base) (t : ℕ) (v : List ℕ) (it : List ℕ × SeenFiles) → it.0 ≡ v → it.1.count ≡ size (first_rows t b)
    → AreFiles (first_rows t b) v it.1.files → AreSeen b it.0 it.1
stored_in b t v it name count files = record {
  within = let few = first_within b t in omega arith;
  files = subst (λ w. AreFiles (first_rows it.1.count b) w it.1.files) (sym name)
      (subst (λ rows. AreFiles rows v it.1.files) (sym (ap (λ n. first_rows n b) count ∙ first_again b t)) files);
}

-- what is kept of views stays with one row more
pub seen_more : (row : Plain) (b : Base) (seen : Views) → AreSeenByViews b seen → AreSeenByViews (row ∷ b) seen
seen_more row b seen before = record {
  each = λ v kept is.
      let own = before.each v kept is in
      record {
        within = let within = own.within in omega arith;
        files = subst (λ rows. AreFiles rows v kept.files) (sym (first_rows_stay row b kept.count own.within)) own.files;
      };
}

-- the value of an option, where there is one
value_in : {A : Type 0} → A → Option A → A
value_in default None = default
value_in default (Some a) = a

-- what a map has at a key where another key was given something, is that or what it had
put_or : {A : Type 0} → (P : A → Type 0) (is : Bool) (one : A) (old : Option A) (a : A) → (is ≡ true → P one)
    → (old ≡ Some a → P a) → cond is (Some one) old ≡ Some a → P a
unfolding value_in
put_or P true one old a first second given = subst P (ap (value_in one) given) (first refl)
put_or P false one old a first second given = second given

-- what a map has at a key where another key was taken out, it had
pub had : {A : Type 0} → (is : Bool) (old : Option A) (a : A) → cond is None old ≡ Some a → old ≡ Some a
had true old a given = absurd (cc)
had false old a given = given

-- with one file more the files are those that the view sees
pub file_put : (b : Base) (v key path : List ℕ) (found row : Option ℕ) (had : Option (Option ℕ)) → found ≡ file_at b v key
    → (had ≡ Some row → row ≡ file_at b v path) → cond (bytes_eq key path) (Some found) had ≡ Some row → row ≡ file_at b v path
file_put b v key path found row had is before given =
    put_or (λ r. r ≡ file_at b v path) (bytes_eq key path) found had row (λ same. is
    ∙ ap (file_at b v) ((bytes_eq-Decides key path).0 same)) before given

-- with one view more what is kept of views is right
pub view_put : (b : Base) (name v : List ℕ) (files kept : SeenFiles) (old : Option SeenFiles) → AreSeen b name files
    → (old ≡ Some kept → AreSeen b v kept) → cond (bytes_eq name v) (Some files) old ≡ Some kept → AreSeen b v kept
view_put b name v files kept old seen before given =
    put_or (AreSeen b v) (bytes_eq name v) files old kept (λ same. subst (λ w. AreSeen b w files)
    ((bytes_eq-Decides name v).0 same) seen) before given

-- what is taken out of a view was kept of it
pub view_taken : (b : Base) (v : List ℕ) (seen : Views) (it : Option (List ℕ × SeenFiles)) → AreSeenByViews b seen
    → IfSome it (λ p. IsTrue (bytes_eq v p.0)) → option_map (λ p. p.1) it ≡ get bytes_eq seen v → IfSome it (λ p. IsSeenAs b v p)
view_taken b v seen None all same value = tt
view_taken b v seen (Some p) all same value = (sym ((bytes_eq-Decides v p.0).0 (same)), all.each v p.1 (sym value))

pub seen_in_each : (b : Base) (t : ℕ) (v : List ℕ) (it : Option (List ℕ × SeenFiles)) → IfSome it (IsSeenAs b v)
    → IfSome it (IsSeenIn (first_rows t b) v)
seen_in_each b t v None seen = tt
seen_in_each b t v (Some one) seen = seen_in b t v one seen

-- what was made of the first rows may be kept
pub made_in : {E : Type 0} → (b rows : Base) (t : ℕ) (v : List ℕ) (made : Result (List ℕ × SeenFiles) E) → rows ≡ first_rows t b
    → IfOk made (λ it. it.0 ≡ v) → IfOk made (λ it. it.1.count ≡ size rows) →
    IfOk made (λ it. AreFiles rows v it.1.files) → IfOk made (λ it. AreSeen b it.0 it.1)
made_in b rows t v (Ok it) is name count files = stored_in b t v it name (count
    ∙ ap (λ (all : Base). size all) is) (subst (λ all. AreFiles all v it.1.files) is files)
made_in b rows t v (Err fault) is name count files = tt

-- what is kept of as many first rows is what these show
pub row_seen : (all b : Base) (n : ℕ) (v path : List ℕ) (kept : SeenFiles) (found : Option (Option ℕ)) → first_rows n all ≡ b
    → AreSeen all v kept → IfSome found (IsSeenOnce kept n path) → IfSome found (λ row. row ≡ file_at b v path)
row_seen all b n v path kept None first seen once = tt
row_seen all b n v path kept (Some row) first seen once = seen.files path row once.1
    ∙ ap (λ rows. file_at rows v path) (ap (λ m. first_rows m all) once.0 ∙ first)
