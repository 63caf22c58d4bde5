-- Each row that begins a checkout of a directory, or that changes a name in one, affects the subject by which it is found.
use Rattle.std.specs.Prelude.{◌≡◌, ℕ, Bool, true, false, ◌&&◌, ◌||◌, ◌==◌, List, bytes_eq, refl}
use Rattle.std.proofs.Common.{ap, ap₂}
use Rattle.std.specs.List.{list_any}
use Rattle.cc_names.specs.Last.{Keeps, Sets, only_if}
use Rattle.cc_names.specs.declared.rows.Deed.TheVariants as deeds
use Rattle.cc_names.specs.declared.rows.Out.TheVariants as outs
use Rattle.base_model.specs.Catalogs.{BeginsEmpty, BeginsAs, Adds, Removes, Renames, edit_where, first_edit, is_out}
use Rattle.base_model.specs.Rows.{size}
use Rattle.base_rows.specs.Changed.{begins, changes}
use Rattle.base_rows.specs.Entries.{begun_effect, changed_effect}
use Rattle.base_rows.specs.LookUps.{ActsBySubject}
use Rattle.base_rows.specs.Subjects.{Out as Outs, NameIn, is_same_subject, reserved_branch, reserved_subjects, taken_subjects}

begun_by_element : (name : List ℕ) (n : ℕ) (own inside more : Bool) → (own || more) ≡ false
    → only_if (begins (first_edit (own && true) BeginsEmpty (edit_where inside (Adds name n)))) (Sets n) ≡ Keeps
begun_by_element name n true inside more h = absurd (cc)
begun_by_element name n false true more h = refl
begun_by_element name n false false more h = refl

-- an element that is not taken out begins no checkout
left_in : (name : List ℕ) (n : ℕ) (own inside : Bool)
    → only_if (begins (first_edit (own && false) BeginsEmpty (edit_where inside (Adds name n)))) (Sets n) ≡ Keeps
left_in name n true true = refl
left_in name n true false = refl
left_in name n false true = refl
left_in name n false false = refl

begun_as : (origin n : ℕ) (own more : Bool) → (own || more) ≡ false → only_if (begins (edit_where own (BeginsAs origin))) (Sets n)
    ≡ Keeps
begun_as origin n true more h = absurd (cc)
begun_as origin n false more h = refl

begun_out : (origin n : ℕ) (own more : Bool) → (own || more) ≡ false
    → only_if (begins (edit_where (own && true) (BeginsAs origin))) (Sets n) ≡ Keeps
begun_out origin n true more h = absurd (cc)
begun_out origin n false more h = refl

-- nor does a branch that is not
not_out : (origin n : ℕ) (own : Bool) → only_if (begins (edit_where (own && false) (BeginsAs origin))) (Sets n) ≡ Keeps
not_out origin n true = refl
not_out origin n false = refl

not_begun : (n : ℕ) (inside : Bool) (name : List ℕ) → only_if (begins (edit_where inside (Removes name))) (Sets n) ≡ Keeps
not_begun n true name = refl
not_begun n false name = refl

not_begun_by : (n : ℕ) (inside : Bool) (from_name to_name : List ℕ) → only_if
    (begins (edit_where inside (Renames from_name to_name))) (Sets n) ≡ Keeps
not_begun_by n true from_name to_name = refl
not_begun_by n false from_name to_name = refl

pub begun_affects : (v : List ℕ) (d : ℕ) → ActsBySubject (Outs v d) (begun_effect v d)
begun_affects v d older (deeds.Mkelem w f name kind true) h = begun_by_element name (size older)
    (bytes_eq w v && (size older == d)) (bytes_eq w v && (f == d)) false h
begun_affects v d older (deeds.Mkelem w f name kind false) h = left_in name (size older) (bytes_eq w v && (size older == d))
    (bytes_eq w v && (f == d))
begun_affects v d older (deeds.Checkout w e origin reserved) h = begun_as origin (size older) (bytes_eq w v && (e == d))
    (list_any (is_same_subject (Outs v d)) (reserved_subjects (reserved_branch older (deeds.Checkout w e origin reserved)))) h
begun_affects v d older (deeds.Branch w e origin name outs.No) h = not_out origin (size older) (bytes_eq w v && (e == d))
begun_affects v d older (deeds.Branch w e origin name outs.Reserved) h = begun_out origin (size older)
    (bytes_eq w v && (e == d)) false h
begun_affects v d older (deeds.Branch w e origin name outs.Unreserved) h = begun_out origin (size older)
    (bytes_eq w v && (e == d)) false h
begun_affects v d older (deeds.Rmname w f name) h = not_begun (size older) (bytes_eq w v && (f == d)) name
begun_affects v d older (deeds.Mv w f from_name to_name) h = not_begun_by (size older) (bytes_eq w v && (f == d)) from_name
    to_name
begun_affects v d older deed h = refl

changed_by_element : (name other : List ℕ) (n : ℕ) (began own is more : Bool) → bytes_eq other name ≡ is
    → ((own && is) || more) ≡ false
    → only_if (changes name (first_edit began BeginsEmpty (edit_where own (Adds other n)))) (Sets n) ≡ Keeps
changed_by_element name other n true own is more same h = refl
changed_by_element name other n false false is more same h = refl
changed_by_element name other n false true true more same h = absurd (cc)
changed_by_element name other n false true false more same h = ap (λ is. only_if is (Sets n)) same

changed_as : (name : List ℕ) (origin n : ℕ) (own : Bool) → only_if (changes name (edit_where own (BeginsAs origin))) (Sets n)
    ≡ Keeps
changed_as name origin n true = refl
changed_as name origin n false = refl

changed_by_removal : (name other : List ℕ) (n : ℕ) (own is : Bool) → bytes_eq other name ≡ is → ((own && is) || false) ≡ false
    → only_if (changes name (edit_where own (Removes other))) (Sets n) ≡ Keeps
changed_by_removal name other n false is same h = refl
changed_by_removal name other n true true same h = absurd (cc)
changed_by_removal name other n true false same h = ap (λ is. only_if is (Sets n)) same

changed_by_move : (name from_name to_name : List ℕ) (n : ℕ) (own is into : Bool) → bytes_eq from_name name ≡ is
    → bytes_eq to_name name ≡ into
    → ((own && is) || ((own && into) || false)) ≡ false
    → only_if (changes name (edit_where own (Renames from_name to_name))) (Sets n) ≡ Keeps
changed_by_move name from_name to_name n false is into one two h = refl
changed_by_move name from_name to_name n true true into one two h = absurd (cc)
changed_by_move name from_name to_name n true false true one two h = absurd (cc)
changed_by_move name from_name to_name n true false false one two h = ap₂ (λ is into. only_if (is || into) (Sets n)) one two

pub changed_affects : (v : List ℕ) (d : ℕ) (name : List ℕ) → ActsBySubject (NameIn v d name) (changed_effect v d name)
changed_affects v d name older (deeds.Mkelem w f other kind out) h =
    changed_by_element name other (size older) (bytes_eq w v && (size older == d) && out) (bytes_eq w v && (f == d))
    (bytes_eq other name)
    (list_any (is_same_subject (NameIn v d name)) (taken_subjects out w (size older)
    (reserved_branch older (deeds.Mkelem w f other kind out))))
    refl h
changed_affects v d name older (deeds.Checkout w e origin reserved) h =
    changed_as name origin (size older) (bytes_eq w v && (e == d))
changed_affects v d name older (deeds.Branch w e origin other out) h =
    changed_as name origin (size older) (bytes_eq w v && (e == d) && is_out out)
changed_affects v d name older (deeds.Rmname w f other) h = changed_by_removal name other (size older)
    (bytes_eq w v && (f == d)) (bytes_eq other name) refl h
changed_affects v d name older (deeds.Mv w f from_name to_name) h =
    changed_by_move name from_name to_name (size older) (bytes_eq w v && (f == d)) (bytes_eq from_name name)
    (bytes_eq to_name name) refl refl h
changed_affects v d name older deed h = refl
