-- The labels on a version, found among those that stand on its element's versions, are those of the label types that stand on it.
use Rattle.std.proofs.Common.{◌≡◌, ℕ, ◌==◌, Bool, true, false, cond, T, ◌&&◌, ◌||◌, List, [], ◌∷◌, map, filter}
use Rattle.std.proofs.Common.{Option, Some, None, refl, ap, ap₂, sym, subst, ◌∙◌, arith, bytes_eq}
use Rattle.std.specs.Prelude.{is_some}
use Rattle.std.specs.BTreeSet.{insert_key}
use Rattle.std.specs.Cmp.Lexicographic.{slice_cmp}
use Rattle.std.specs.FinMap.Entries.{put, by_order, find, where_key, below_all, is_sorted, is_sorted-put, is_sorted-where_key}
use Rattle.std.specs.FinMap.Entries.{find-put, find-where_key}
use Rattle.std.specs.List.{list_all, list_any}
use Rattle.std.specs.Ordering.{nat_cmp, is_eq, is_lt, match_ordering, ordering_reverse}
use Rattle.std.specs.declared.cmp.Ordering.{Ordering}
use Rattle.std.specs.declared.cmp.Ordering.TheVariants.{Less, Equal, Greater}
use Rattle.std.proofs.lemmas.Bool.Decides.{nat_tests}
use Rattle.std.proofs.lemmas.Cmp.{nat_list_cmp_total}
use Rattle.std.proofs.lemmas.Map.Text.{is_eq-slice_cmp}
use Rattle.std.proofs.lemmas.Slice.Eq.{bytes_eq-Decides}
use Rattle.std.proofs.lemmas.Bool.{or_right, or_left}
use Rattle.cc_names.specs.Labels.{holder}
use Rattle.cc_names.specs.Last.{Ends, Sets, only_if, value_after}
use Rattle.cc_names.specs.Versions.{is_number}
use Rattle.cc_names.specs.declared.changes.LabelChange.{LabelChange}
use Rattle.cc_names.specs.declared.changes.LabelChange.TheVariants.{Put, Taken}
use Rattle.cc_names.specs.declared.rows.Deed.{Deed}
use Rattle.cc_names.specs.declared.rows.Deed.TheVariants as deeds
use Rattle.cc_names.specs.declared.rows.Placed.{Placed}
use Rattle.cc_names.specs.declared.rows.TypeKind.{TypeKind}
use Rattle.cc_names.specs.declared.rows.TypeKind.TheVariants as type_kinds
use Rattle.cc_names.proofs.Common.{test_first, test_second, less_by_test, texts_tied, number_found, and_first, and_second}
use Rattle.cc_names.proofs.Common.{bytes_swapped}
use Rattle.base_model.specs.Rows.{Base, size}
use Rattle.base_model.specs.Changes.{labels, labels_after, all_placed, kind_of_type, type_effect}
use Rattle.base_model.specs.Conditions.{is_label_type, is_label_kind}
use Rattle.base_model.specs.Fits.{is_base, deed_fits}
use Rattle.legal_history.specs.Queries.ElementTexts.{NameSet, entry_key, label_types, labels_on, with_label_type}
use Rattle.base_model.proofs.Owned.{row_fits, rows_below}
use Rattle.label_book.specs.Standings.{AreStanding, Placement, is_placement, plain, stands}
use Rattle.label_book.specs.declared.element_labels.Standing.{Standing}
use Rattle.vob_history.specs.LabelSets.{stands_on, with_label_if, with_standing}

-- ---- sets of names

-- whether a set has a name
abbrev has : List ℕ → NameSet → Bool
has name set = is_some (find (slice_cmp nat_cmp) name set)

-- a name with itself, put where a test holds
abbrev put_one : Bool → List ℕ → NameSet → NameSet
put_one true name set = put (slice_cmp nat_cmp) name name set
put_one false name set = set

some_if : (is : Bool) (name : List ℕ) (found : Option (List ℕ)) → is_some (cond is (Some name) found) ≡ (is || is_some found)
some_if true name found = refl
some_if false name found = refl

has_put : (name other : List ℕ) (set : NameSet) → has name (put (slice_cmp nat_cmp) other other set)
    ≡ (bytes_eq name other || has name set)
has_put name other set =
    ap is_some (find-put (slice_cmp nat_cmp) nat_list_cmp_total name other other set)
    ∙ some_if (is_eq (slice_cmp nat_cmp name other)) other (find (slice_cmp nat_cmp) name set)
    ∙ ap (λ is. is || has name set) (is_eq-slice_cmp name other)

some_where : (is : Bool) (found : Option (List ℕ)) → is_some (cond is found None) ≡ (is && is_some found)
some_where true found = refl
some_where false found = refl

has_where : (p : List ℕ → Bool) (name : List ℕ) (set : NameSet) → has name (where_key (slice_cmp nat_cmp) p set)
    ≡ (p name && has name set)
has_where p name set =
    ap is_some (find-where_key (slice_cmp nat_cmp) p name same set) ∙ some_where (p name) (find (slice_cmp nat_cmp) name set)
  where
    same : (key : List ℕ) → slice_cmp nat_cmp name key ≡ Equal → p key ≡ p name
    same key ties = ap p (sym ((bytes_eq-Decides name key).0 (sym (is_eq-slice_cmp name key) ∙ ap is_eq ties)))

-- the names of a set with one more
names_put : (name : List ℕ) (set : NameSet) → map entry_key (put (slice_cmp nat_cmp) name name set)
    ≡ insert_key (slice_cmp nat_cmp) (map entry_key set) name
names_put name [] = refl
names_put name (entry ∷ set) = by (slice_cmp nat_cmp name entry.0) (names_put name set)
  where
    by : (o : Ordering) → map entry_key (put (slice_cmp nat_cmp) name name set)
        ≡ insert_key (slice_cmp nat_cmp) (map entry_key set) name →
        map entry_key (by_order o ((name, name) ∷ entry ∷ set) ((entry.0, name) ∷ set)
        (entry ∷ put (slice_cmp nat_cmp) name name set))
        ≡ match_ordering o (name ∷ entry.0 ∷ map entry_key set) (entry.0 ∷ map entry_key set)
        (entry.0 ∷ insert_key (slice_cmp nat_cmp) (map entry_key set) name)
    by Less rest = refl
    by Equal rest = refl
    by Greater rest = ap (λ names. entry.0 ∷ names) rest

-- the names of a part of a set
names_where : (p : List ℕ → Bool) (set : NameSet) → map entry_key (where_key (slice_cmp nat_cmp) p set)
    ≡ filter p (map entry_key set)
names_where p [] = refl
names_where p (entry ∷ set) = by (p entry.0) (names_where p set)
  where
    by : (is : Bool) → map entry_key (where_key (slice_cmp nat_cmp) p set) ≡ filter p (map entry_key set) →
        map entry_key (cond is (entry ∷ where_key (slice_cmp nat_cmp) p set) (where_key (slice_cmp nat_cmp) p set))
        ≡ cond is (entry.0 ∷ filter p (map entry_key set)) (filter p (map entry_key set))
    by true rest = ap (λ names. entry.0 ∷ names) rest
    by false rest = rest

-- a name below all of a set is not in it
below_none : (name : List ℕ) (set : NameSet) → T (below_all (slice_cmp nat_cmp) name set) → has name set ≡ false
below_none name [] h = refl
below_none name (entry ∷ set) h =
    let apart : slice_cmp nat_cmp name entry.0 ≡ Less = less_by_test (slice_cmp nat_cmp name entry.0) (test_first _ _ h) in
    ap (λ o. is_some (cond (is_eq o) (Some entry.1) (find (slice_cmp nat_cmp) name set))) apart
    ∙ below_none name set (test_second _ _ h)

-- a name below the first of a set is below all
below_first : (name : List ℕ) (entry : List ℕ × List ℕ) (set : NameSet) → slice_cmp nat_cmp name entry.0 ≡ Less
    → T (below_all (slice_cmp nat_cmp) entry.0 set) → T (below_all (slice_cmp nat_cmp) name set)
below_first name entry [] low h = tt
below_first name entry (next ∷ set) low h =
    let step : slice_cmp nat_cmp name next.0 ≡ Less = nat_list_cmp_total.trans name entry.0 next.0 low
    (less_by_test _ (test_first _ _ h)) in
    t_both (is_lt (slice_cmp nat_cmp name next.0)) (below_all (slice_cmp nat_cmp) name set)
    (subst (λ o. T (is_lt o)) (sym step) tt) (below_first name entry set low (test_second _ _ h))
  where
    t_both : (a b : Bool) → T a → T b → T (a && b)
    t_both true b p q = q
    t_both false b p q = p

has_first : (entry : List ℕ × List ℕ) (set : NameSet) → has entry.0 (entry ∷ set) ≡ true
has_first entry set = ap (λ is. is_some (cond is (Some entry.1) (find (slice_cmp nat_cmp) entry.0 set)))
    (is_eq-slice_cmp entry.0 entry.0 ∙ (bytes_eq-Decides entry.0 entry.0).1 refl)

-- two sets with the same names are the same names
same_sets : (one two : NameSet) → T (is_sorted (slice_cmp nat_cmp) one) → T (is_sorted (slice_cmp nat_cmp) two)
    → ((name : List ℕ) → has name one ≡ has name two) → map entry_key one ≡ map entry_key two
same_sets [] [] s t same = refl
same_sets [] (entry ∷ two) s t same = absurd (cc (same entry.0, has_first entry two))
same_sets (entry ∷ one) [] s t same = absurd (cc (same entry.0, has_first entry one))
same_sets (first ∷ one) (second ∷ two) s t same = by (slice_cmp nat_cmp first.0 second.0) refl
    (same_sets one two (test_second _ _ s) (test_second _ _ t))
  where
    rest_of : first.0 ≡ second.0 → (name : List ℕ) → has name one ≡ has name two
    rest_of at name = elim (is_eq (slice_cmp nat_cmp name first.0)) as (λ is. is_eq (slice_cmp nat_cmp name first.0) ≡ is
        → has name one ≡ has name two) [
          | true ↦ λ e.
              let is : name ≡ first.0 = (bytes_eq-Decides name first.0).0 (sym (is_eq-slice_cmp name first.0) ∙ e) in
              ap (λ n. has n one) is ∙ below_none first.0 one (test_first _ _ s)
              ∙ sym (ap (λ n. has n two) (is ∙ at) ∙ below_none second.0 two (test_first _ _ t))
          | false ↦ λ e.
              sym (ap (λ is. is_some (cond is (Some first.1) (find (slice_cmp nat_cmp) name one))) e)
              ∙ same name
              ∙ ap (λ is. is_some (cond is (Some second.1) (find (slice_cmp nat_cmp) name two)))
              (ap (λ n. is_eq (slice_cmp nat_cmp name n)) (sym at) ∙ e)
        ] refl

    by : (o : Ordering) → slice_cmp nat_cmp first.0 second.0 ≡ o → (((name : List ℕ) → has name one ≡ has name two)
        → map entry_key one ≡ map entry_key two) → map entry_key (first ∷ one) ≡ map entry_key (second ∷ two)
    by Less e rest =
        let none : has first.0 (second ∷ two) ≡ false =
        ap (λ o. is_some (cond (is_eq o) (Some second.1) (find (slice_cmp nat_cmp) first.0 two))) e
        ∙ below_none first.0 two (below_first first.0 second two e (test_first _ _ t)) in
        absurd (cc (same first.0, has_first first one, none))
    by Equal e rest =
        let at = texts_tied first.0 second.0 e in
        ap₂ (λ (name : List ℕ) (names : List (List ℕ)). name ∷ names) at (rest (rest_of at))
    by Greater e rest =
        let low : slice_cmp nat_cmp second.0 first.0 ≡ Less = turned (slice_cmp nat_cmp second.0 first.0)
        (nat_list_cmp_total.antisymm first.0 second.0) e in
        let none : has second.0 (first ∷ one) ≡ false =
        ap (λ o. is_some (cond (is_eq o) (Some first.1) (find (slice_cmp nat_cmp) second.0 one))) low
        ∙ below_none second.0 one (below_first second.0 first one low (test_first _ _ s)) in
        absurd (cc (same second.0, has_first second two, none))
      where
        turned : (o : Ordering) → slice_cmp nat_cmp first.0 second.0 ≡ ordering_reverse o
            → slice_cmp nat_cmp first.0 second.0 ≡ Greater → o ≡ Less
        turned Less a g = refl
        turned Equal a g = absurd (cc)
        turned Greater a g = absurd (cc)

-- ---- the label types

types_sorted : (b : Base) → T (is_sorted (slice_cmp nat_cmp) (label_types b))
types_sorted [] = tt
types_sorted (row ∷ older) = by row.deed (types_sorted older)
  where
    by : (deed : Deed) → T (is_sorted (slice_cmp nat_cmp) (label_types older))
        → T (is_sorted (slice_cmp nat_cmp) (with_label_type deed (label_types older)))
    by (deeds.Mktype type_kinds.Label name) rest = is_sorted-put (slice_cmp nat_cmp) nat_list_cmp_total name name
        (label_types older) rest
    by (deeds.Mktype type_kinds.Branch name) rest = rest
    by deed rest = rest

-- a type stays one
type_stays : (name : List ℕ) (deed : Deed) (set : NameSet) → has name set ≡ true → has name (with_label_type deed set) ≡ true
type_stays name (deeds.Mktype type_kinds.Label other) set h = has_put name other set
    ∙ or_right (bytes_eq name other) (has name set) h
type_stays name (deeds.Mktype type_kinds.Branch other) set h = h
type_stays name deed set h = h

-- a label type is one of them
type_has : (b : Base) (name : List ℕ) → is_label_type b name ≡ true → has name (label_types b) ≡ true
type_has [] name is = absurd (cc)
type_has (row ∷ older) name is = by row.deed (type_has older name) is
  where
    kept : (made : List ℕ) (kind : TypeKind) (test : Bool) → bytes_eq made name ≡ test
        → is_label_kind (value_after (only_if test (Sets kind)) (kind_of_type older name)) ≡ true →
        (is_label_type older name ≡ true → has name (label_types older) ≡ true)
        → has name (with_label_type (deeds.Mktype kind made) (label_types older)) ≡ true
    kept made type_kinds.Label true test is before = has_put name made (label_types older)
        ∙ or_left (bytes_eq name made) (has name (label_types older)) (bytes_swapped made name true test)
    kept made type_kinds.Branch true test is before = absurd (cc)
    kept made kind false test is before = type_stays name (deeds.Mktype kind made) (label_types older) (before is)

    by : (deed : Deed) → (is_label_type older name ≡ true → has name (label_types older) ≡ true)
        → is_label_kind (value_after (type_effect name deed) (kind_of_type older name)) ≡ true
        → has name (with_label_type deed (label_types older)) ≡ true
    by (deeds.Mktype kind made) before is = kept made kind (bytes_eq made name) refl is before
    by deed before is = before is

-- each label that changes leave is a label type of the base
record AllTyped (b : Base) (changes : List LabelChange) : Type 0 where
  typed : (name : List ℕ) (e r : ℕ) → holder changes name e ≡ Some r → has name (label_types b) ≡ true

one_put : (b : Base) (n : ℕ) (label : List ℕ) (f version : ℕ) (changes : List LabelChange) → has label (label_types b) ≡ true
    → AllTyped b changes → AllTyped b (Put n label f version ∷ changes)
one_put b n label f version changes is h = record {
  typed = λ name e r held. by name e r (bytes_eq name label && (e == f)) refl
      held;
}
  where
    by : (name : List ℕ) (e r : ℕ) (x : Bool) → (bytes_eq name label && (e == f)) ≡ x
        → value_after (only_if x (Sets version)) (holder changes name e) ≡ Some r → has name (label_types b) ≡ true
    by name e r true test held = subst (λ n. has n (label_types b) ≡ true)
        (sym ((bytes_eq-Decides name label).0 (and_first _ _ test))) is
    by name e r false test held = h.typed name e r held

one_taken : (b : Base) (n : ℕ) (label : List ℕ) (f : ℕ) (changes : List LabelChange) → AllTyped b changes
    → AllTyped b (Taken n label f ∷ changes)
one_taken b n label f changes h = record { typed = λ name e r held. by name e r (bytes_eq name label && (e == f)) held }
  where
    by : (name : List ℕ) (e r : ℕ) (x : Bool) → value_after (only_if x Ends) (holder changes name e) ≡ Some r
        → has name (label_types b) ≡ true
    by name e r true held = absurd (cc)
    by name e r false held = h.typed name e r held

all_put : (b : Base) (n : ℕ) (label : List ℕ) (placed : List Placed) (changes : List LabelChange)
    → has label (label_types b) ≡ true → AllTyped b changes → AllTyped b (all_placed n label placed changes)
all_put b n label [] changes is h = h
all_put b n label (one ∷ more) changes is h = all_put b n label more (Put n label one.element one.version ∷ changes) is
    (one_put b n label one.element one.version changes is h)

row_typed : (b older : Base) (deed : Deed) (changes : List LabelChange)
    → ((name : List ℕ) → has name (label_types older) ≡ true → has name (label_types b) ≡ true) →
    deed_fits older deed ≡ true → AllTyped b changes → AllTyped b (labels_after (size older) deed changes)
row_typed b older (deeds.Label label e version) changes stays fit h = one_put b (size older) label e version changes
    (stays label (type_has older label (and_first (is_label_type older label) _ fit))) h
row_typed b older (deeds.Unlabel label e) changes stays fit h = one_taken b (size older) label e changes h
row_typed b older (deeds.Labels label placed) changes stays fit h = all_put b (size older) label placed changes
    (stays label (type_has older label (and_first (is_label_type older label) _ fit))) h
row_typed b older deed changes stays fit h = h

labels_typed : (b : Base) → is_base b ≡ true → AllTyped b (labels b)
labels_typed [] h = record { typed = λ name e r held. absurd (cc) }
labels_typed (row ∷ older) h =
    let stays : (name : List ℕ) → has name (label_types older) ≡ true → has name (label_types (row ∷ older)) ≡ true =
    λ name is. type_stays name row.deed (label_types older) is in
    let before = labels_typed older (rows_below row older h) in
    row_typed (row ∷ older) older row.deed (labels older) stays (row_fits row older h)
    (record { typed = λ name e r held. stays name (before.typed name e r held) })

-- ---- the labels that stand on a version

-- the labels that stand on it with themselves
abbrev put_standing : ℕ → List Placement → NameSet → NameSet
put_standing version [] set = set
put_standing version (one ∷ more) set = put_standing version more (put_one (version == one.1) one.0 set)

names_one : (is : Bool) (label : List ℕ) (set : NameSet)
    → map entry_key (put_one is label set) ≡ with_label_if is label (map entry_key set)
names_one true label set = names_put label set
names_one false label set = refl

names_standing : (version : ℕ) (found : List Placement) (set : NameSet)
    → map entry_key (put_standing version found set) ≡ with_standing version found (map entry_key set)
names_standing version [] set = refl
names_standing version (one ∷ more) set =
    names_standing version more (put_one (version == one.1) one.0 set)
    ∙ ap (with_standing version more) (names_one (version == one.1) one.0 set)

one_sorted : (is : Bool) (label : List ℕ) (set : NameSet) → T (is_sorted (slice_cmp nat_cmp) set)
    → T (is_sorted (slice_cmp nat_cmp) (put_one is label set))
one_sorted true label set h = is_sorted-put (slice_cmp nat_cmp) nat_list_cmp_total label label set h
one_sorted false label set h = h

standing_sorted : (version : ℕ) (found : List Placement) (set : NameSet) → T (is_sorted (slice_cmp nat_cmp) set)
    → T (is_sorted (slice_cmp nat_cmp) (put_standing version found set))
standing_sorted version [] set h = h
standing_sorted version (one ∷ more) set h = standing_sorted version more (put_one (version == one.1) one.0 set)
    (one_sorted (version == one.1) one.0 set h)

-- what the set has once a label was looked at
has_one : (name label : List ℕ) (is : Bool) (set : NameSet)
    → has name (put_one is label set) ≡ ((bytes_eq name label && is) || has name set)
has_one name label true set = has_put name label set ∙ ap (λ x. x || has name set) (sym (and_true (bytes_eq name label)))
  where
    and_true : (x : Bool) → (x && true) ≡ x
    and_true true = refl
    and_true false = refl
has_one name label false set = sym (ap (λ x. x || has name set) (and_false (bytes_eq name label)))
  where
    and_false : (x : Bool) → (x && false) ≡ false
    and_false true = refl
    and_false false = refl

has_standing : (version : ℕ) (found : List Placement) (name : List ℕ) (set : NameSet)
    → has name (put_standing version found set) ≡ (list_any (is_placement name version) found || has name set)
has_standing version [] name set = refl
has_standing version (one ∷ more) name set =
    has_standing version more name (put_one (version == one.1) one.0 set)
    ∙ ap (λ rest. list_any (is_placement name version) more || rest) (has_one name one.0 (version == one.1) set)
    ∙ joined (list_any (is_placement name version) more) (is_placement name version one) (has name set)
  where
    joined : (more one before : Bool) → (more || (one || before)) ≡ ((one || more) || before)
    joined true true before = refl
    joined true false before = refl
    joined false true before = refl
    joined false false before = refl

-- a label that is among those that stand stands there
stands_there : (b : Base) (e version : ℕ) (name : List ℕ) (found : List Placement)
    → list_all (stands (λ label. holder (labels b) label e)) found ≡ true → list_any (is_placement name version) found ≡ true
    → stands_on b e version name ≡ true
stands_there b e version name [] all any = absurd (cc)
stands_there b e version name (one ∷ more) all any = by (is_placement name version one) refl any
    (stands_there b e version name more (and_second _ _ all))
  where
    by : (is : Bool) → is_placement name version one ≡ is → (is || list_any (is_placement name version) more) ≡ true
        → (list_any (is_placement name version) more ≡ true → stands_on b e version name ≡ true)
        → stands_on b e version name ≡ true
    by true is any rest =
        let label : name ≡ one.0 = (bytes_eq-Decides name one.0).0 (and_first _ _ is) in
        let number : version ≡ one.1 = same_number version one.1 (and_second (bytes_eq name one.0) (version == one.1) is) in
        ap₂ (λ n l. is_number n (holder (labels b) l e)) number label ∙ and_first _ _ all
      where
        same_number : (m n : ℕ) → (m == n) ≡ true → m ≡ n
        same_number m n is = grind (arith, nat_tests, is)
    by false is any rest = rest any

same_labels : (b : Base) (e version : ℕ) (name : List ℕ) (found : List Standing) → is_base b ≡ true
    → AreStanding (λ label. holder (labels b) label e) found →
    has name (put_standing version (map plain found) []) ≡ has name (where_key (slice_cmp nat_cmp) (stands_on b e version)
    (label_types b))
same_labels b e version name found fits standing =
    has_standing version (map plain found) name []
    ∙ by (stands_on b e version name) refl (list_any (is_placement name version) (map plain found)) refl
    ∙ sym (has_where (stands_on b e version) name (label_types b))
  where
    by : (is : Bool) → stands_on b e version name ≡ is → (any : Bool) → list_any (is_placement name version) (map plain found)
        ≡ any → (any || false) ≡ (is && has name (label_types b))
    by true on true any =
        let held = number_found version (holder (labels b) name e) on in
        sym ((labels_typed b fits).typed name e version held)
    by true on false any =
        let held = number_found version (holder (labels b) name e) on in
        absurd (cc (any, standing.all name version held))
    by false on true any = absurd (cc (on, stands_there b e version name (map plain found) standing.stand any))
    by false on false any = refl

pub labels_found : (b : Base) (e version : ℕ) (found : List Standing) → is_base b ≡ true
    → AreStanding (λ label. holder (labels b) label e) found → with_standing version (map plain found) [] ≡ labels_on b e version
labels_found b e version found fits standing =
    sym (names_standing version (map plain found) [])
    ∙ same_sets (put_standing version (map plain found) []) (where_key (slice_cmp nat_cmp) (stands_on b e version)
    (label_types b))
    (standing_sorted version (map plain found) [] tt) (is_sorted-where_key (slice_cmp nat_cmp) (stands_on b e version)
    (label_types b) (types_sorted b))
    (λ name. same_labels b e version name found fits standing)
    ∙ names_where (stands_on b e version) (label_types b)
