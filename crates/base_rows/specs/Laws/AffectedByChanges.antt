-- Each row that changes a name in a checkout, or that alters one on a branch, affects the subject by which it is found.
use Rattle.std.specs.Prelude.{◌≡◌, ℕ, suc, ◌<◌, Bool, true, false, ◌&&◌, ◌||◌, ◌==◌, ◌++◌, Option, Some, None, IfSome, List, []}
use Rattle.std.specs.Prelude.{◌∷◌, map, bytes_eq, refl}
use Rattle.std.proofs.Common.{ap, ap₂, sym, subst, ◌∙◌, arith}
use Rattle.std.specs.List.{list_any}
use Rattle.std.proofs.lemmas.Bool.Decides.{nat_tests, Decides-eqb}
use Rattle.std.proofs.lemmas.Slice.Eq.{bytes_eq-Decides}
use Rattle.cc_names.specs.Formed.{Plain}
use Rattle.cc_names.specs.Last.{Keeps, Sets, only_if, value_after}
use Rattle.cc_names.specs.Versions.{is_number, put_if}
use Rattle.cc_names.specs.declared.rows.Deed.{Deed}
use Rattle.cc_names.specs.declared.rows.Deed.TheVariants as deeds
use Rattle.base_model.specs.Catalogs.{BeginsEmpty, BeginsAs, Adds, Removes, Renames, edit_of, edit_where, first_edit, is_out}
use Rattle.base_model.specs.Rows.{Base, size, deed_at, deed_of, row_at}
use Rattle.base_rows.specs.Changed.{alters, begins, newest_checkout_row, newest_change_row, changes, changing, changing_rows}
use Rattle.base_rows.specs.Changed.{checked_in_on, checked_in_rows, changing_rows_of, is_since, names_by, names_of_deed}
use Rattle.base_rows.specs.LookUps.{Deeds, ActsBySubject}
use Rattle.base_rows.specs.Subjects.{Changing, Altered, altered_subjects, changing_subjects, is_same_subject}

-- a name is changed in the checkout that a row began
abbrev pub changing_effect : ℕ → Deeds ℕ
changing_effect began older deed = only_if (is_number began (changing older deed)) (Sets (size older))

-- a version of a branch is made from a checkout in which the name was changed
abbrev pub altered_effect : ℕ → List ℕ → Deeds ℕ
altered_effect branch name older deed = only_if (alters branch name older deed) (Sets (size older))

both : (a b : Bool) → (a && b) ≡ true → (a ≡ true) × (b ≡ true)
both true b h = (refl, h)
both false b h = absurd (cc)

any_prefix : {A : Type 0} (test : A → Bool) (xs ys : List A) → list_any test xs ≡ true → list_any test (xs ++ ys) ≡ true
any_prefix test [] ys h = absurd (cc)
any_prefix test (x ∷ xs) ys h = elim (test x) as (λ is. (is || list_any test xs) ≡ true
    → (is || list_any test (xs ++ ys)) ≡ true) [
      | true ↦ λ h. refl
      | false ↦ λ h. any_prefix test xs ys h
    ] h

any_back : {A : Type 0} (test : A → Bool) (xs ys : List A) → list_any test ys ≡ true → list_any test (xs ++ ys) ≡ true
any_back test [] ys h = h
any_back test (x ∷ xs) ys h = elim (test x) as (λ is. (is || list_any test (xs ++ ys)) ≡ true) [
  | true ↦ refl
  | false ↦
      any_back test xs ys h
]

-- an effect whose test means that a subject is borne does nothing where it is not
unless_affected : (test affected : Bool) (n : ℕ) → (test ≡ true → affected ≡ true) → affected ≡ false
    → only_if test (Sets n) ≡ Keeps
unless_affected true affected n means h =
    let is = means refl in
    absurd (cc)
unless_affected false affected n means h = refl

number_is : (n : ℕ) (found : Option ℕ) → is_number n found ≡ true → found ≡ Some n
number_is n None h = absurd (cc)
number_is n (Some m) h = ap Some (sym ((Decides-eqb n m).0 h))

changing_affected : (began : ℕ) (found : Option ℕ) → is_number began found ≡ true
    → list_any (is_same_subject (Changing began)) (changing_subjects found) ≡ true
changing_affected began None h = absurd (cc)
changing_affected began (Some other) h = ap (λ is. is || false) h

pub changing_affects : (began : ℕ) → ActsBySubject (Changing began) (changing_effect began)
changing_affects began older deed h =
    let on = checked_in_on older deed in
    let rest = altered_subjects on (names_by older (checked_in_rows older deed)) in
    unless_affected (is_number began (changing older deed)) (list_any (is_same_subject (Changing began))
    (changing_subjects (changing older deed) ++ rest)) (size older)
    (λ is. any_prefix (is_same_subject (Changing began)) (changing_subjects (changing older deed)) rest
    (changing_affected began (changing older deed) is)) h

same_branch : (branch : ℕ) → (branch == branch) ≡ true
same_branch branch = (Decides-eqb branch branch).1 refl

-- what a deed that changes a name does so in
made_in : (name other : List ℕ) (n : ℕ) (began inside : Bool) → changes name
    (first_edit began BeginsEmpty (edit_where inside (Adds other n))) ≡ true → (inside ≡ true) × (bytes_eq other name ≡ true)
made_in name other n true inside h = absurd (cc)
made_in name other n false true h = (refl, h)
made_in name other n false false h = absurd (cc)

removed_in : (name other : List ℕ) (inside : Bool) → changes name (edit_where inside (Removes other)) ≡ true → (inside ≡ true)
    × (bytes_eq other name ≡ true)
removed_in name other true h = (refl, h)
removed_in name other false h = absurd (cc)

renamed_in : (name one two : List ℕ) (inside : Bool) → changes name (edit_where inside (Renames one two)) ≡ true → (inside ≡ true)
    × ((bytes_eq one name || bytes_eq two name) ≡ true)
renamed_in name one two true h = (refl, h)
renamed_in name one two false h = absurd (cc)

not_by_beginning : (name : List ℕ) (origin : ℕ) (own : Bool) → changes name (edit_where own (BeginsAs origin)) ≡ true → ⊥
not_by_beginning name origin true h = cc
not_by_beginning name origin false h = cc

begun_there : (older : Base) (v w : List ℕ) (d f : ℕ) → (bytes_eq w v && (f == d)) ≡ true
    → newest_checkout_row older w f ≡ newest_checkout_row older v d
begun_there older v w d f is =
    let parts = both (bytes_eq w v) (f == d) is in
    ap₂ (λ view directory. newest_checkout_row older view directory) ((bytes_eq-Decides w v).0 parts.0)
    ((Decides-eqb f d).0 parts.1)

one_of : (is : Bool) → is ≡ true → (is || false) ≡ true
one_of is h = ap (λ it. it || false) h

either_of : (one two : Bool) → (one || two) ≡ true → (one || (two || false)) ≡ true
either_of true two h = refl
either_of false two h = one_of two h

changes_here : (older : Base) (v : List ℕ) (d : ℕ) (name : List ℕ) (deed : Deed)
    → changes name (edit_of v d (size older) deed) ≡ true
    → (changing older deed ≡ newest_checkout_row older v d) × (list_any (λ other. bytes_eq other name) (names_of_deed (Some deed))
    ≡ true)
changes_here older v d name (deeds.Mkelem w f other kind taken) h =
    let made = made_in name other (size older) (bytes_eq w v && (size older == d) && taken) (bytes_eq w v && (f == d)) h in
    (begun_there older v w d f made.0, one_of (bytes_eq other name) made.1)
changes_here older v d name (deeds.Checkout w e origin reserved) h = absurd
    (not_by_beginning name origin (bytes_eq w v && (e == d)) h)
changes_here older v d name (deeds.Branch w e origin own taken) h = absurd
    (not_by_beginning name origin (bytes_eq w v && (e == d) && is_out taken) h)
changes_here older v d name (deeds.Rmname w f other) h =
    let gone = removed_in name other (bytes_eq w v && (f == d)) h in
    (begun_there older v w d f gone.0, one_of (bytes_eq other name) gone.1)
changes_here older v d name (deeds.Mv w f one two) h =
    let moved = renamed_in name one two (bytes_eq w v && (f == d)) h in
    (begun_there older v w d f moved.0, either_of (bytes_eq one name) (bytes_eq two name) moved.1)
changes_here older v d name deed h = absurd (cc)

-- rows below a number
abbrev AreBelow : ℕ → List ℕ → Type 0
AreBelow n [] = Unit {0}
AreBelow n (m ∷ rows) = (m < n) × AreBelow n rows

below_more : (n : ℕ) (rows : List ℕ) → AreBelow n rows → AreBelow (suc n) rows
below_more n [] below = tt
below_more n (m ∷ rows) below = (omega (arith, below.0), below_more n rows below.1)

changing_below : (began : ℕ) (b : Base) → AreBelow (size b) (changing_rows began b)
changing_below began [] = tt
changing_below began (row ∷ older) = by (is_number began (changing older row.deed))
    (below_more (size older) (changing_rows began older) (changing_below began older))
  where
    by : (is : Bool) → AreBelow (suc (size older)) (changing_rows began older)
        → AreBelow (suc (size older)) (put_if is (size older) (changing_rows began older))
    by true below = (omega arith, below)
    by false below = below

names_stay : (row : Plain) (older : Base) (rows : List ℕ) → AreBelow (size older) rows
    → names_by (row ∷ older) rows ≡ names_by older rows
names_stay row older [] below = refl
names_stay row older (n ∷ rows) below =
    let apart : (size older == n) ≡ false = other_row (size older) n below.0 in
    ap₂ (λ is rest. names_of_deed (deed_of (elim is [ true ↦ Some row | false ↦ row_at older n ])) ++ rest) apart
    (names_stay row older rows below.1)
  where
    other_row : (m n : ℕ) → n < m → (m == n) ≡ false
    other_row m n below = grind (arith, nat_tests)

changed_low : (v : List ℕ) (d : ℕ) (name : List ℕ) (b : Base) → IfSome (newest_change_row b v d name) (λ n. n < size b)
changed_low v d name [] = tt
changed_low v d name (row ∷ older) = by (changes name (edit_of v d (size older) row.deed)) (newest_change_row older v d name)
    (changed_low v d name older)
  where
    by : (is : Bool) (found : Option ℕ) → IfSome found (λ n. n < size older)
        → IfSome (value_after (only_if is (Sets (size older))) found) (λ n. n < suc (size older))
    by true found h = omega arith
    by false None h = tt
    by false (Some n) h = omega arith

not_since_newest : (n : ℕ) (found : Option ℕ) → IfSome found (λ m. m < suc n) → is_since (Some n) found ≡ false
not_since_newest n None h = refl
not_since_newest n (Some m) h = grind (arith, nat_tests)

deed_here : (row : Plain) (older : Base) → deed_at (row ∷ older) (size older) ≡ Some row.deed
deed_here row older = ap (λ is. deed_of (elim is [ true ↦ Some row | false ↦ row_at older (size older) ]))
    (same_branch (size older))

-- a name that was changed since a checkout began is one of those that were changed in it
name_among : (v : List ℕ) (d : ℕ) (name : List ℕ) (b : Base) (c : ℕ) → newest_checkout_row b v d ≡ Some c
    → is_since (Some c) (newest_change_row b v d name) ≡ true → list_any (λ other. bytes_eq other name)
    (names_by b (changing_rows c b)) ≡ true
name_among v d name [] c began since = absurd (cc)
name_among v d name (row ∷ older) c began since =
    by (begins (edit_of v d (size older) row.deed)) (changes name (edit_of v d (size older) row.deed)) refl refl began since
    (name_among v d name older c)
  where
    by : (one two : Bool) → begins (edit_of v d (size older) row.deed) ≡ one
        → changes name (edit_of v d (size older) row.deed) ≡ two → value_after (only_if one (Sets (size older)))
        (newest_checkout_row older v d) ≡ Some c
        → is_since (Some c) (value_after (only_if two (Sets (size older))) (newest_change_row older v d name)) ≡ true
        → (newest_checkout_row older v d ≡ Some c → is_since (Some c) (newest_change_row older v d name) ≡ true
        → list_any (λ other. bytes_eq other name) (names_by older (changing_rows c older)) ≡ true)
        → list_any (λ other. bytes_eq other name) (names_by (row ∷ older)
        (put_if (is_number c (changing older row.deed)) (size older) (changing_rows c older))) ≡ true
    by true two is is' began since before =
        let same : size older ≡ c = cc in
        let newest : IfSome (value_after (only_if two (Sets (size older))) (newest_change_row older v d name))
        (λ n. n < suc (size older)) =
        subst (λ test. IfSome (value_after (only_if test (Sets (size older))) (newest_change_row older v d name))
        (λ n. n < suc (size older))) is' (changed_low v d name (row ∷ older)) in
        let none = ap (λ n. is_since (Some n) (value_after (only_if two (Sets (size older))) (newest_change_row older v d name)))
        (sym same) ∙ not_since_newest (size older) (value_after (only_if two (Sets (size older)))
        (newest_change_row older v d name)) newest in
        absurd (cc)
    by false true is is' began since before =
        let here = changes_here older v d name row.deed is' in
        let own : is_number c (changing older row.deed) ≡ true = ap (is_number c) (here.0 ∙ began) ∙ same_branch c in
        ap (λ test. list_any (λ other. bytes_eq other name) (names_by (row ∷ older)
        (put_if test (size older) (changing_rows c older)))) own
        ∙ any_prefix (λ other. bytes_eq other name) (names_of_deed (deed_at (row ∷ older) (size older)))
        (names_by (row ∷ older) (changing_rows c older))
        (ap (λ deed. list_any (λ other. bytes_eq other name) (names_of_deed deed)) (deed_here row older) ∙ here.1)
    by false false is is' began since before =
        let there : list_any (λ other. bytes_eq other name) (names_by (row ∷ older) (changing_rows c older)) ≡ true =
        ap (list_any (λ other. bytes_eq other name)) (names_stay row older (changing_rows c older) (changing_below c older))
        ∙ before began since in
        elim (is_number c (changing older row.deed)) as (λ test. list_any (λ other. bytes_eq other name)
        (names_by (row ∷ older) (put_if test (size older) (changing_rows c older))) ≡ true) [
          | true ↦ any_back (λ other. bytes_eq other name) (names_of_deed (deed_at (row ∷ older) (size older)))
              (names_by (row ∷ older) (changing_rows c older)) there
          | false ↦ there
        ]

altered_in : (branch : ℕ) (name : List ℕ) (names : List (List ℕ)) → list_any (λ other. bytes_eq other name) names ≡ true
    → list_any (is_same_subject (Altered branch name)) (map (Altered branch) names) ≡ true
altered_in branch name names h = same branch names ∙ h
  where
    same : (branch : ℕ) (names : List (List ℕ)) → list_any (is_same_subject (Altered branch name)) (map (Altered branch) names)
        ≡ list_any (λ other. bytes_eq other name) names
    same branch [] = refl
    same branch (other ∷ names) = ap₂ (λ own rest. (own && bytes_eq other name) || rest) (same_branch branch) (same branch names)

altered_affected : (branch : ℕ) (name : List ℕ) (on : Option ℕ) (names : List (List ℕ)) → on ≡ Some branch
    → list_any (λ other. bytes_eq other name) names ≡ true
    → list_any (is_same_subject (Altered branch name)) (altered_subjects on names) ≡ true
altered_affected branch name on names on_is h = subst (λ o. list_any (is_same_subject (Altered branch name))
    (altered_subjects o names) ≡ true) (sym on_is) (altered_in branch name names h)

-- what a version that alters a name is made from
alters_on : (branch : ℕ) (name : List ℕ) (older : Base) (deed : Deed) → alters branch name older deed ≡ true
    → (checked_in_on older deed ≡ Some branch) × (list_any (λ other. bytes_eq other name)
    (names_by older (checked_in_rows older deed)) ≡ true)
alters_on branch name older (deeds.Checkin v d) is =
    let parts = both (is_number branch (checked_in_on older (deeds.Checkin v d)))
    (is_since (newest_checkout_row older v d) (newest_change_row older v d name)) is in
    (number_is branch (checked_in_on older (deeds.Checkin v d)) parts.0, by (newest_checkout_row older v d) refl parts.1)
  where
    by : (found : Option ℕ) → newest_checkout_row older v d ≡ found → is_since found (newest_change_row older v d name) ≡ true
        → list_any (λ other. bytes_eq other name) (names_by older (changing_rows_of older found)) ≡ true
    by None began since = absurd (cc)
    by (Some c) began since = name_among v d name older c began since
alters_on branch name older deed is = absurd (cc)

pub altered_affects : (branch : ℕ) (name : List ℕ) → ActsBySubject (Altered branch name) (altered_effect branch name)
altered_affects branch name older deed h =
    let on = checked_in_on older deed in
    let names = names_by older (checked_in_rows older deed) in
    let rest = altered_subjects on names in
    unless_affected (alters branch name older deed) (list_any (is_same_subject (Altered branch name))
    (changing_subjects (changing older deed) ++ rest)) (size older)
    (λ is.
    let there = alters_on branch name older deed is in
    any_back (is_same_subject (Altered branch name)) (changing_subjects (changing older deed)) rest
    (altered_affected branch name on names there.0 there.1)) h
