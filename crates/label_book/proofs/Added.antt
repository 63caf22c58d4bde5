-- What one change more of a label on an element adds to all changes.
use Rattle.std.proofs.Common.{◌≡◌, ◌≢◌, ℕ, zero, suc, ◌<◌, true, false, ◌&&◌, eqb, List, [], ◌∷◌, ◌++◌, length, get_or, set, map}
use Rattle.std.proofs.Common.{reverse, Option, None, refl, inl, inr, sym, ap, ◌∙◌, arith}
use Rattle.std.specs.Str.{bytes_eq}
use Rattle.std.proofs.lemmas.List.{reverse-append, length-set, get_or-set_same, get_or-set_other, get_or_default}
use Rattle.std.proofs.lemmas.Bool.{cases_Bool}
use Rattle.cc_names.specs.Falling.{IsAbove, Falls}
use Rattle.cc_names.specs.Labels.{row_of_label_change, labels_of_first_rows, holder}
use Rattle.label_book.specs.Marks.{is_about, of_pair, rows_of_pair}
use Rattle.label_book.specs.Holding.{Held, row_of_move, change_by, change_of_move, changes_by, changes_held, all_changes}
use Rattle.label_book.specs.Holding.{is_pair, IsPlaceOf, HasNoPlace}
use Rattle.label_book.specs.declared.held.Move.{Move}
use Rattle.label_book.proofs.Entries.{SameHead}
use Rattle.label_book.proofs.Newest.{row_by}
use Rattle.label_book.proofs.Pairs.{pair_is, holder_of_pair, about_by, of_pair_none, of_pair_at, of_pair_set_other}

-- the rows of moves, as changes or not
rows_by : (l : List ℕ) (e : ℕ) (moves : List Move) → map row_of_label_change (map (change_of_move l e) moves)
    ≡ map row_of_move moves
rows_by l e [] = refl
rows_by l e (move ∷ older) = rw (row_by l e move.row move.version) (ap (λ rows. move.row ∷ rows) (rows_by l e older))

-- the same head is the same pair
pub same_pair : (k : List ℕ) (n : ℕ) (one two : Held) → SameHead one two → is_pair k n one ≡ is_pair k n two
same_pair k n one two same = ap (λ x. bytes_eq k x && eqb n one.element) same.label
    ∙ ap (λ x. bytes_eq k two.label && eqb n x) same.element

-- the changes with one more at the head
changes_more : (old held : Held) (move : Move) → SameHead held old → held.moves.items ≡ old.moves.items ++ move ∷ []
    → changes_held held ≡ change_of_move old.label old.element move ∷ changes_held old
changes_more old held move same more =
    ap (λ l. map (change_of_move l held.element) (reverse held.moves.items)) same.label
    ∙ ap (λ e. map (change_of_move old.label e) (reverse held.moves.items)) same.element
    ∙ ap (λ ms. map (change_of_move old.label old.element) ms) (ap reverse more ∙ reverse-append old.moves.items (move ∷ []))

module _ (all : List Held) (l : List ℕ) (e p : ℕ) (place : IsPlaceOf l e all p) where
  -- the changes of the pair are those at its place
  pub pair_at : (d : Held) → of_pair l e (all_changes all) ≡ changes_held (get_or all p d)
  pair_at d = of_pair_at l e all p d place.within (place.is d) place.alone

  -- its holder is given by the moves there
  pub holder_at : (rows : ℕ) (moves : List Move) (d : Held) → (get_or all p d).moves.items ≡ moves
      → holder (labels_of_first_rows rows (all_changes all)) l e ≡ holder (labels_of_first_rows rows (changes_by l e moves)) l e
  holder_at rows moves d there =
      let held = get_or all p d in
      let (labels, elements) = pair_is l e held (place.is d) in
      let changes : changes_held held ≡ changes_by l e moves =
      ap (λ k. changes_by k held.element held.moves.items) (sym labels) ∙ ap (λ n. changes_by l n held.moves.items) (sym elements)
      ∙ ap (changes_by l e) there in
      holder_of_pair (all_changes all) rows l e ∙ ap (λ cs. holder (labels_of_first_rows rows cs) l e) (pair_at d ∙ changes)

  -- a row above those of the pair is above those at its place
  pub above_at : (row : ℕ) (d : Held) → IsAbove row (rows_of_pair l e (all_changes all))
      → IsAbove row (map row_of_move (reverse (get_or all p d).moves.items))
  above_at row d above = rw (ap (map row_of_label_change) (pair_at d) ∙ rows_by (get_or all p d).label (get_or all p d).element
      (reverse (get_or all p d).moves.items)) at above

  -- with the change its moves are in order
  pub falls_more : (move : Move) (older moves : List Move) (d : Held) → (get_or all p d).moves.items ≡ older
      → Falls (map row_of_move (reverse older)) → moves ≡ older ++ move ∷ []
      → IsAbove move.row (rows_of_pair l e (all_changes all)) → Falls (map row_of_move (reverse moves))
  falls_more move older moves d there falls more above =
      let below : IsAbove move.row (map row_of_move (reverse older)) = rw there at (above_at move.row d above) in
      rw (more, reverse-append older (move ∷ [])) (below, falls)

  -- a change of the pair is about what is at its place
  pub about_at : (row : ℕ) (version : Option ℕ) (k : List ℕ) (n : ℕ) (d : Held)
      → is_about k n (change_by l e row version) ≡ is_pair k n (get_or all p d)
  about_at row version k n d =
      let (labels, elements) = pair_is l e (get_or all p d) (place.is d) in
      about_by k n l e row version ∙ ap (λ x. bytes_eq k x && eqb n e) labels
      ∙ ap (λ x. bytes_eq k (get_or all p d).label && eqb n x) elements

  -- the change is added for the pair, and for no other
  pub added : (move : Move) (held : Held) → ((d : Held) → SameHead held (get_or all p d))
      → ((d : Held) → held.moves.items ≡ (get_or all p d).moves.items ++ move ∷ [])
      → (k : List ℕ) (n : ℕ) → of_pair k n (all_changes (set all p held))
      ≡ of_pair k n (change_by l e move.row move.version ∷ all_changes all)
  added move held same more k n =
      let old = get_or all p held in
      let (labels, elements) = pair_is l e old (place.is held) in
      let about : is_about k n (change_by l e move.row move.version) ≡ is_pair k n old =
      about_at move.row move.version k n held in
      let at : (d : Held) → get_or all p d ≡ old = λ d. get_or_default all p d held place.within in
      elim (cases_Bool (is_pair k n old)) [
        | inl is ↦
            let (names, numbers) = pair_is k n old is in
            let others : (i : ℕ) (f : Held) → i < length all → i ≢ p → is_pair k n (get_or all i f) ≡ false =
            λ i f in_range apart. ap (λ x. is_pair x n (get_or all i f)) (names ∙ sym labels)
            ∙ ap (λ x. is_pair l x (get_or all i f)) (numbers ∙ sym elements) ∙ place.alone i f in_range apart in
            let there : get_or (set all p held) p held ≡ held = get_or-set_same all p held held place.within in
            let is_held : is_pair k n held ≡ true = same_pair k n held old (same held) ∙ is in
            let before : of_pair k n (all_changes all) ≡ changes_held old = of_pair_at k n all p held place.within is others in
            let after : of_pair k n (all_changes (set all p held)) ≡ changes_held (get_or (set all p held) p held) =
            of_pair_at k n (set all p held) p held (omega (arith, length-set {A = Held}, place.within)) (rw there is_held)
            (λ i f in_range apart. rw (get_or-set_other all p i held f apart)
            (others i f (omega (arith, length-set {A = Held})) apart)) in
            let change : change_of_move old.label old.element move ≡ change_by l e move.row move.version =
            ap (λ x. change_by x old.element move.row move.version) (sym labels)
            ∙ ap (λ x. change_by l x move.row move.version) (sym elements) in
            rw (about, is, before) (after ∙ ap changes_held there ∙ changes_more old held move (same held) (more held)
            ∙ ap (λ c. c ∷ changes_held old) change)
        | inr is_not ↦
            let not_held : is_pair k n held ≡ false = same_pair k n held old (same held) ∙ is_not in
            rw (about, is_not) (of_pair_set_other k n all p held place.within (λ d. rw (at d) is_not) not_held)
      ]

-- a pair that stands nowhere has no holder
pub holder_nowhere : (all : List Held) (l : List ℕ) (e rows : ℕ) → HasNoPlace l e all
    → holder (labels_of_first_rows rows (all_changes all)) l e ≡ None
holder_nowhere all l e rows absent =
    holder_of_pair (all_changes all) rows l e ∙ ap (λ cs. holder (labels_of_first_rows rows cs) l e)
    (of_pair_none l e all absent.none)

-- the same moves are the same changes
pub same_changes : (all : List Held) (p : ℕ) (held : Held) → p < length all → ((d : Held) → SameHead held (get_or all p d))
    → ((d : Held) → held.moves.items ≡ (get_or all p d).moves.items)
    → all_changes (set all p held) ≡ all_changes all
same_changes [] p held within same moves = absurd (omega arith)
same_changes (h ∷ more) zero held within same moves =
    ap (λ cs. cs ++ all_changes more)
    (ap (λ l. map (change_of_move l held.element) (reverse held.moves.items)) (same h).label
    ∙ ap (λ e. map (change_of_move h.label e) (reverse held.moves.items)) (same h).element
    ∙ ap (λ ms. map (change_of_move h.label h.element) (reverse ms)) (moves h))
same_changes (h ∷ more) (suc p) held within same moves = ap (λ cs. changes_held h ++ cs)
    (same_changes more p held (omega arith) same moves)
