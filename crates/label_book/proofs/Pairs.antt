-- The changes of one label on one element among all.
use Rattle.std.proofs.Common.{◌≡◌, ◌≢◌, ℕ, zero, suc, ◌<◌, Bool, true, false, cond, ◌&&◌, eqb, ltb, List, [], ◌∷◌, ◌++◌, length}
use Rattle.std.proofs.Common.{get_or, set, map, reverse, Option, Some, None, refl, sym, ap, ◌∙◌, arith}
use Rattle.std.specs.Str.{bytes_eq}
use Rattle.std.proofs.lemmas.List.{append-nil}
use Rattle.std.proofs.lemmas.List.Elements.{filter-append}
use Rattle.std.proofs.lemmas.Bool.Decides.{Decides-eqb}
use Rattle.std.proofs.lemmas.Slice.Eq.{bytes_eq-Decides}
use Rattle.std.proofs.lemmas.Bool.{and_parts}
use Rattle.cc_names.specs.Labels.{row_of_label_change, labels_of_first_rows, label_effect, holder}
use Rattle.cc_names.specs.Last.{value_after}
use Rattle.cc_names.specs.declared.changes.LabelChange.{LabelChange}
use Rattle.cc_names.specs.declared.changes.LabelChange.TheVariants.{Put, Taken}
use Rattle.label_book.specs.Marks.{is_about, of_pair}
use Rattle.label_book.specs.Holding.{Held, change_by, change_of_move, changes_held, all_changes, is_pair}
use Rattle.label_book.specs.declared.held.Move.{Move}

-- the label and the element that a test found
pub pair_is : (l : List ℕ) (e : ℕ) (held : Held) → is_pair l e held ≡ true → (l ≡ held.label) × (e ≡ held.element)
pair_is l e held is =
    let (labels, elements) = and_parts (bytes_eq l held.label) (eqb e held.element) is in
    ((bytes_eq-Decides l held.label).0 labels, (Decides-eqb e held.element).0 elements)

-- the holder of a label on an element is given by its own changes
pub holder_of_pair : (changes : List LabelChange) (rows : ℕ) (l : List ℕ) (e : ℕ)
    → holder (labels_of_first_rows rows changes) l e ≡ holder (labels_of_first_rows rows (of_pair l e changes)) l e
holder_of_pair [] rows l e = refl
holder_of_pair (change ∷ older) rows l e =
    at (ltb (row_of_label_change change) rows) (is_about l e change) refl refl (holder_of_pair older rows l e)
  where
    effect_other : (c : LabelChange) (before : Option ℕ) → is_about l e c ≡ false
        → value_after (label_effect l e c) before ≡ before
    effect_other (Put row label element version) before other = rw other refl
    effect_other (Taken row label element) before other = rw other refl

    at : (early about : Bool) → ltb (row_of_label_change change) rows ≡ early → is_about l e change ≡ about
        → holder (labels_of_first_rows rows older) l e ≡ holder (labels_of_first_rows rows (of_pair l e older)) l e
        → holder (cond early (change ∷ labels_of_first_rows rows older) (labels_of_first_rows rows older)) l e
        ≡ holder (labels_of_first_rows rows (cond about (change ∷ of_pair l e older) (of_pair l e older))) l e
    at true true early about rest = rw early (ap (value_after (label_effect l e change)) rest)
    at false true early about rest = rw early rest
    at true false early about rest = effect_other change (holder (labels_of_first_rows rows older) l e) about ∙ rest
    at false false early about rest = rest

-- where two lists have the same changes of a pair, it has the same holder
pub same_holder : (one two : List LabelChange) (rows : ℕ) (l : List ℕ) (e : ℕ) → of_pair l e one ≡ of_pair l e two
    → holder (labels_of_first_rows rows one) l e ≡ holder (labels_of_first_rows rows two) l e
same_holder one two rows l e same =
    holder_of_pair one rows l e ∙ ap (λ cs. holder (labels_of_first_rows rows cs) l e) same ∙ sym (holder_of_pair two rows l e)

-- whether a move is about a pair
pub about_by : (l : List ℕ) (e : ℕ) (label : List ℕ) (element row : ℕ) (version : Option ℕ)
    → is_about l e (change_by label element row version) ≡ (bytes_eq l label && eqb e element)
about_by l e label element row (Some version) = refl
about_by l e label element row None = refl

-- the changes of one label on one element are all its own, or none are
pub of_pair_held : (l : List ℕ) (e : ℕ) (held : Held) → of_pair l e (changes_held held)
    ≡ cond (is_pair l e held) (changes_held held) []
of_pair_held l e held = over (reverse held.moves.items)
  where
    at : (t : Bool) (c : LabelChange) (rest : List LabelChange) → cond t (c ∷ cond t rest []) (cond t rest [])
        ≡ cond t (c ∷ rest) []
    at true c rest = refl
    at false c rest = refl

    over : (moves : List Move) → of_pair l e (map (change_of_move held.label held.element) moves)
        ≡ cond (is_pair l e held) (map (change_of_move held.label held.element) moves) []
    over [] = nothing (is_pair l e held)
      where
        nothing : (t : Bool) → [] ≡ cond t (map (change_of_move held.label held.element) []) []
        nothing true = refl
        nothing false = refl
    over (move ∷ moves) =
        rw (about_by l e held.label held.element move.row move.version, over moves)
        (at (is_pair l e held) (change_of_move held.label held.element move) (map (change_of_move held.label held.element) moves))

-- where the label stands nowhere on the element, there is no change of it
pub of_pair_none : (l : List ℕ) (e : ℕ) (all : List Held) → ((k : ℕ) (d : Held) → k < length all
    → is_pair l e (get_or all k d) ≡ false) → of_pair l e (all_changes all) ≡ []
of_pair_none l e [] none = refl
of_pair_none l e (held ∷ others) none =
    rw (filter-append (is_about l e) (changes_held held) (all_changes others), of_pair_held l e held, none 0 held (omega arith))
    (of_pair_none l e others (λ k d within. none (suc k) d (omega arith)))

-- where it stands once, its changes are those
pub of_pair_at : (l : List ℕ) (e : ℕ) (all : List Held) (p : ℕ) (d : Held) → p < length all → is_pair l e (get_or all p d) ≡ true
    → ((k : ℕ) (f : Held) → k < length all → k ≢ p → is_pair l e (get_or all k f) ≡ false)
    → of_pair l e (all_changes all) ≡ changes_held (get_or all p d)
of_pair_at l e [] p d within is others = absurd (omega arith)
of_pair_at l e (held ∷ more) zero d within is others =
    rw (
      filter-append (is_about l e) (changes_held held) (all_changes more),
      of_pair_held l e held,
      is,
      of_pair_none l e more (λ k f in_range. others (suc k) f (omega arith) (λ same. cc same)),
    )
    (append-nil (changes_held held))
of_pair_at l e (held ∷ more) (suc p) d within is others =
    rw (
      filter-append (is_about l e) (changes_held held) (all_changes more),
      of_pair_held l e held,
      others 0 held (omega arith) (λ same. cc same),
    )
    (of_pair_at l e more p d (omega arith) is (λ k f in_range apart. others (suc k) f (omega arith)
    (λ same. apart (omega arith))))

-- another label or another element does not see a change
pub of_pair_set_other : (l : List ℕ) (e : ℕ) (all : List Held) (p : ℕ) (held : Held) → p < length all
    → ((d : Held) → is_pair l e (get_or all p d) ≡ false) → is_pair l e held ≡ false
    → of_pair l e (all_changes (set all p held)) ≡ of_pair l e (all_changes all)
of_pair_set_other l e [] p held within was is = absurd (omega arith)
of_pair_set_other l e (x ∷ more) zero held within was is =
    rw (
      filter-append (is_about l e) (changes_held held) (all_changes more),
      filter-append (is_about l e) (changes_held x) (all_changes more),
      of_pair_held l e held,
      of_pair_held l e x,
      is,
      was x,
    ) refl
of_pair_set_other l e (x ∷ more) (suc p) held within was is =
    rw (
      filter-append (is_about l e) (changes_held x) (all_changes (set more p held)),
      filter-append (is_about l e) (changes_held x) (all_changes more),
    )
    (ap (λ cs. of_pair l e (changes_held x) ++ cs) (of_pair_set_other l e more p held (omega arith) was is))

-- one more without changes adds none
pub of_pair_push : (l : List ℕ) (e : ℕ) (all : List Held) (held : Held) → held.moves.items ≡ []
    → of_pair l e (all_changes (all ++ held ∷ [])) ≡ of_pair l e (all_changes all)
of_pair_push l e [] held empty = rw empty refl
of_pair_push l e (x ∷ more) held empty =
    rw (
      filter-append (is_about l e) (changes_held x) (all_changes (more ++ held ∷ [])),
      filter-append (is_about l e) (changes_held x) (all_changes more),
    )
    (ap (λ cs. of_pair l e (changes_held x) ++ cs) (of_pair_push l e more held empty))
