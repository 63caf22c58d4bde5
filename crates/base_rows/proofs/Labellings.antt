-- What rows make of labels, given by the changes of each label on each element.
use Rattle.std.proofs.Common.{◌≡◌, ℕ, suc, ◌+◌, ◌<◌, ◌&&◌, ◌==◌, Bool, true, false, cond, List, [], ◌∷◌, length, drop, get_or}
use Rattle.std.proofs.Common.{map, refl, ap, subst, sym, ◌∙◌, arith, add-one, drop-cons}
use Rattle.std.specs.Prelude.{filter}
use Rattle.std.specs.List.Sorted.{IsStrictlySortedBy}
use Rattle.std.specs.Ordering.{nat_cmp}
use Rattle.std.specs.Str.{bytes_eq}
use Rattle.std.proofs.lemmas.Bool.Decides.{nat_tests}
use Rattle.std.proofs.lemmas.List.{get_or-map, length-map}
use Rattle.std.proofs.lemmas.Map.Keys.{below_from_sorted}
use Rattle.cc_names.specs.Falling.{IsAbove}
use Rattle.cc_names.specs.Formed.{element_of}
use Rattle.cc_names.specs.Labels.{holder, labels_of_first_rows, row_of_label_change}
use Rattle.cc_names.specs.declared.changes.LabelChange.{LabelChange}
use Rattle.cc_names.specs.declared.changes.LabelChange.TheVariants.{Put, Taken}
use Rattle.cc_names.specs.declared.rows.Deed.{Deed}
use Rattle.cc_names.specs.declared.rows.Deed.TheVariants as deeds
use Rattle.cc_names.specs.declared.rows.Placed.{Placed}
use Rattle.label_book.specs.Marks.{AddsLabelChange, Marks, is_about, of_pair, rows_of_pair}
use Rattle.label_book.proofs.Pairs.{same_holder}
use Rattle.base_model.specs.Rows.{Base, size}
use Rattle.base_model.specs.Changes.{labels, labels_after, all_placed}
use Rattle.base_rows.specs.Labelling.{AreLabels}
use Rattle.base_rows.proofs.Growths.{above_next}

-- the same changes, twice
pub same_twice : (one two three : List LabelChange) → AreLabels one two → AreLabels two three → AreLabels one three
same_twice one two three first second = record { pairs = λ l e. first.pairs l e ∙ second.pairs l e }

-- one more change of both
pub one_more : (change : LabelChange) (xs ys : List LabelChange) → AreLabels xs ys → AreLabels (change ∷ xs) (change ∷ ys)
one_more change xs ys same = record {
  pairs = λ l e. ap (λ (rest : List LabelChange). cond (is_about l e change) (change ∷ rest)
      rest) (same.pairs l e);
}

pub places_same : (n : ℕ) (label : List ℕ) (placed : List Placed) (xs ys : List LabelChange) → AreLabels xs ys
    → AreLabels (all_placed n label placed xs) (all_placed n label placed ys)
places_same n label [] xs ys same = same
places_same n label (one ∷ more) xs ys same =
    places_same n label more (Put n label one.element one.version ∷ xs) (Put n label one.element one.version ∷ ys)
    (one_more (Put n label one.element one.version) xs ys same)

-- a row makes the same of labels that are kept
pub after_same : (n : ℕ) (deed : Deed) (xs ys : List LabelChange) → AreLabels xs ys
    → AreLabels (labels_after n deed xs) (labels_after n deed ys)
after_same n (deeds.Label label e version) xs ys same = one_more (Put n label e version) xs ys same
after_same n (deeds.Unlabel label e) xs ys same = one_more (Taken n label e) xs ys same
after_same n (deeds.Labels label placed) xs ys same = places_same n label placed xs ys same
after_same n deed xs ys same = same

places_under : (n : ℕ) (label : List ℕ) (placed : List Placed) (changes : List LabelChange)
    → IsAbove (suc n) (map row_of_label_change changes) → IsAbove (suc n)
    (map row_of_label_change (all_placed n label placed changes))
places_under n label [] changes above = above
places_under n label (one ∷ more) changes above = places_under n label more (Put n label one.element one.version ∷ changes)
    (omega arith, above)

row_under : (n : ℕ) (deed : Deed) (changes : List LabelChange) → IsAbove (suc n) (map row_of_label_change changes)
    → IsAbove (suc n) (map row_of_label_change (labels_after n deed changes))
row_under n (deeds.Label label e version) changes above = (omega arith, above)
row_under n (deeds.Unlabel label e) changes above = (omega arith, above)
row_under n (deeds.Labels label placed) changes above = places_under n label placed changes above
row_under n deed changes above = above

labels_under : (b : Base) → IsAbove (size b) (map row_of_label_change (labels b))
labels_under [] = tt
labels_under (row ∷ older) = row_under (size older) row.deed (labels older)
    (above_next (size older) (map row_of_label_change (labels older)) (labels_under older))

above_some : (n : ℕ) (test : LabelChange → Bool) (changes : List LabelChange) → IsAbove n (map row_of_label_change changes)
    → IsAbove n (map row_of_label_change (filter test changes))
above_some n test [] above = tt
above_some n test (change ∷ older) above =
    elim (test change) as (λ (is : Bool). IsAbove n (map row_of_label_change
    (cond is (change ∷ filter test older) (filter test older)))) [
      | true ↦ (above.0, above_some n test older above.1)
      | false ↦ above_some n test older above.1
    ]

-- the next row is above all that changed a label on an element
pub above_labels : (b : Base) (kept : List LabelChange) → AreLabels kept (labels b) → (l : List ℕ) (e : ℕ)
    → IsAbove (size b) (rows_of_pair l e kept)
above_labels b kept same l e =
    subst (λ (changes : List LabelChange). IsAbove (size b) (map row_of_label_change changes)) (sym (same.pairs l e))
    (above_some (size b) (is_about l e) (labels b) (labels_under b))

-- what the first rows did to labels that are kept
pub holder_stored : (t : ℕ) (kept changes : List LabelChange) → AreLabels kept changes → (l : List ℕ) (e : ℕ)
    → holder (labels_of_first_rows t kept) l e ≡ holder (labels_of_first_rows t changes) l e
holder_stored t kept changes same l e = same_holder kept changes t l e (same.pairs l e)

-- the rows of a pair are those of before where a change is of another one
pub other_rows : (old new : Marks) (change : LabelChange) (n : ℕ) (l : List ℕ) (e : ℕ) → AddsLabelChange old new change
    → is_about l e change ≡ false → IsAbove n (rows_of_pair l e old.changes) → IsAbove n (rows_of_pair l e new.changes)
other_rows old new change n l e adds other above =
    let rest = of_pair l e old.changes in
    let same : of_pair l e new.changes ≡ rest = adds.pairs l e ∙ ap (λ (is : Bool). cond is (change ∷ rest) rest) other in
    subst (λ (changes : List LabelChange). IsAbove n (map row_of_label_change changes)) (sym same) above

-- the elements of versions in the order of their elements differ
element_rises : (placed : List Placed) (i k : ℕ) (d e : Placed) → IsStrictlySortedBy nat_cmp (map element_of placed) → i < k
    → k < length placed → (get_or placed i d).element < (get_or placed k e).element
element_rises placed i k d e rising lower within =
    let first : i < length placed = omega arith in
    let below : get_or (map element_of placed) i 0 < get_or (map element_of placed) k 0 =
    below_from_sorted (map element_of placed) i k 0 rising lower (omega (arith, length-map placed element_of)) in
    let one : get_or (map element_of placed) i 0 ≡ (get_or placed i d).element = get_or-map element_of placed i d 0 first in
    let two : get_or (map element_of placed) k 0 ≡ (get_or placed k e).element = get_or-map element_of placed k e 0 within in
    omega arith

-- a label on one of them is none on another
pub another : (placed : List Placed) (label : List ℕ) (n i k : ℕ) (d e : Placed)
    → IsStrictlySortedBy nat_cmp (map element_of placed) → i < k → k < length placed
    → is_about label (get_or placed k e).element (Put n label (get_or placed i d).element (get_or placed i d).version) ≡ false
another placed label n i k d e rising lower within =
    let rises : (get_or placed i d).element < (get_or placed k e).element = element_rises placed i k d e rising lower within in
    let apart : ((get_or placed k e).element == (get_or placed i d).element) ≡ false = grind (arith, nat_tests) in
    by (bytes_eq label label) ((get_or placed k e).element == (get_or placed i d).element) apart
  where
    by : (same is : Bool) → is ≡ false → (same && is) ≡ false
    by true is apart = apart
    by false is apart = refl

pub next_placed : (placed : List Placed) (i : ℕ) (d : Placed) → i < length placed
    → drop i placed ≡ get_or placed i d ∷ drop (i + 1) placed
next_placed placed i d within = rw (add-one, drop-cons placed i d) refl

-- a label that is put on one more version
pub one_put : (old new : Marks) (n : ℕ) (label : List ℕ) (placed : List Placed) (i : ℕ) (one : Placed) (all : List LabelChange)
    → AddsLabelChange old new (Put n label one.element one.version) → drop i placed ≡ one ∷ drop (i + 1) placed
    → AreLabels (all_placed n label (drop i placed) old.changes) all → AreLabels
    (all_placed n label (drop (i + 1) placed) new.changes) all
one_put old new n label placed i one all adds next same =
    let added = Put n label one.element one.version ∷ old.changes in
    let more = drop (i + 1) placed in
    let here : AreLabels new.changes added = record { pairs = adds.pairs } in
    same_twice (all_placed n label more new.changes) (all_placed n label more added) all
    (places_same n label more new.changes added here)
    (subst (λ (rest : List Placed). AreLabels (all_placed n label rest old.changes) all) next same)
