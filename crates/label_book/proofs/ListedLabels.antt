-- The labels of elements, as one is added to those of one element; and that a label which stands is among them.
use Rattle.std.proofs.Common.{◌≡◌, ℕ, zero, suc, ◌<◌, ◌==◌, Bool, true, false, cond, ◌||◌, List, [], ◌∷◌, ◌++◌, slice_get}
use Rattle.std.proofs.Common.{length, get_or, position, Some, None, refl, ap, sym, ◌∙◌, arith}
use Rattle.std.specs.Prelude.{Vec}
use Rattle.std.specs.declared.alloc.Global.{Global}
use Rattle.std.specs.List.{list_any}
use Rattle.std.specs.Map.{keys_of, lookup, values_of}
use Rattle.std.proofs.lemmas.Bool.Decides.{Decides-eqb}
use Rattle.std.proofs.lemmas.List.{length-map}
use Rattle.std.proofs.lemmas.List.Folds.{list_any-append}
use Rattle.std.proofs.lemmas.List.Quantifiers.{position-Some}
use Rattle.indexmap.specs.IndexMap.{set_value_at}
use Rattle.label_book.specs.Listed.{KeepsListed, LabelLists, has_listed, labels_of_list}

itself : (n : ℕ) → (n == n) ≡ true
itself n = (Decides-eqb n n).1 refl

-- whether a label is one of these
abbrev pub has : ℕ → List ℕ → Bool
has n labels = list_any (λ m. m == n) labels

-- one label more leaves the others, and is one of them
pub has_more : (n label : ℕ) (labels : List ℕ) → has n labels ≡ true → has n (labels ++ label ∷ []) ≡ true
has_more n label labels is = list_any-append (λ m. m == n) labels (label ∷ []) ∙ rw is refl

pub has_last : (label : ℕ) (labels : List ℕ) → has label (labels ++ label ∷ []) ≡ true
has_last label [] = rw (itself label) refl
has_last label (m ∷ labels) = rw (has_last label labels) (or_true (m == label))
  where
    or_true : (a : Bool) → (a || true) ≡ true
    or_true true = refl
    or_true false = refl

-- a longer list of one element
pub kept_set : (lists : LabelLists) (p : ℕ) (old new : Vec ℕ Global) → slice_get (values_of lists) p ≡ Some old
    → ((n : ℕ) → has n old.items ≡ true → has n new.items ≡ true) → KeepsListed lists (set_value_at lists p new)
kept_set [] p old new is more e n h = h
kept_set (list ∷ lists) zero old new is more e n h = by (e == list.0) h
  where
    by : (own : Bool) → has n (labels_of_list (cond own (Some list.1) (lookup (λ f. e == f) lists))) ≡ true
        → has n (labels_of_list (cond own (Some new) (lookup (λ f. e == f) lists))) ≡ true
    by true is_there =
        let there : list.1 ≡ old = cc in
        more n (ap (λ (labels : Vec ℕ Global). has n labels.items) (sym there) ∙ is_there)
    by false is_there = is_there
kept_set (list ∷ lists) (suc p) old new is more e n h = by (kept_set lists p old new is more e n) (e == list.0) h
  where
    by : (has_listed lists e n ≡ true → has_listed (set_value_at lists p new) e n ≡ true) → (own : Bool)
        → has n (labels_of_list (cond own (Some list.1) (lookup (λ f. e == f) lists))) ≡ true
        → has n (labels_of_list (cond own (Some list.1) (lookup (λ f. e == f) (set_value_at lists p new)))) ≡ true
    by rest true is_there = is_there
    by rest false is_there = rest is_there

-- a first list of an element
pub kept_push : (lists : LabelLists) (list : ℕ × Vec ℕ Global) → KeepsListed lists (lists ++ list ∷ [])
kept_push [] list e n h = absurd (cc)
kept_push (first ∷ lists) list e n h = by (kept_push lists list e n) (e == first.0) h
  where
    by : (has_listed lists e n ≡ true → has_listed (lists ++ list ∷ []) e n ≡ true) → (own : Bool)
        → has n (labels_of_list (cond own (Some first.1) (lookup (λ f. e == f) lists))) ≡ true
        → has n (labels_of_list (cond own (Some first.1) (lookup (λ f. e == f) (lists ++ list ∷ [])))) ≡ true
    by rest true is_there = is_there
    by rest false is_there = rest is_there

pub listed_push : (lists : LabelLists) (e : ℕ) (labels : Vec ℕ Global) → lookup (λ f. e == f) lists ≡ None
    → lookup (λ f. e == f) (lists ++ (e, labels) ∷ []) ≡ Some labels
listed_push [] e labels none = rw (itself e) refl
listed_push (first ∷ lists) e labels none = by (listed_push lists e labels) (e == first.0) none
  where
    by : (lookup (λ f. e == f) lists ≡ None → lookup (λ f. e == f) (lists ++ (e, labels) ∷ []) ≡ Some labels) → (own : Bool)
        → cond own (Some first.1) (lookup (λ f. e == f) lists) ≡ None
        → cond own (Some first.1) (lookup (λ f. e == f) (lists ++ (e, labels) ∷ [])) ≡ Some labels
    by rest true missing = absurd (cc)
    by rest false missing = rest missing

-- a list at its place
set_there : (lists : LabelLists) (e p : ℕ) (labels : Vec ℕ Global) → p < length lists
    → (e == get_or (keys_of lists) p 0) ≡ true → ((k : ℕ) → k < p → (e == get_or (keys_of lists) k 0) ≡ false)
    → lookup (λ f. e == f) (set_value_at lists p labels) ≡ Some labels
set_there [] e p labels within is before = absurd (omega arith)
set_there (list ∷ lists) e zero labels within is before = rw is refl
set_there (list ∷ lists) e (suc p) labels within is before =
    rw (before 0 (omega arith)) (set_there lists e p labels (omega arith) is (λ k lower. before (suc k) (omega arith)))

pub listed_set : (lists : LabelLists) (e p : ℕ) (labels : Vec ℕ Global) → position (λ f. e == f) (keys_of lists) ≡ Some p
    → lookup (λ f. e == f) (set_value_at lists p labels) ≡ Some labels
listed_set lists e p labels found =
    let (within, is, before) = position-Some (λ f. e == f) (keys_of lists) p 0 found in
    set_there lists e p labels (omega (arith, length-map lists (λ (list : ℕ × Vec ℕ Global). list.0), within)) is
    (λ k lower. before k lower)
