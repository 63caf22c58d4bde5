-- The version that the last change of a label on an element names.
use Rattle.std.proofs.Common.{◌≡◌, ℕ, zero, suc, ◌-◌, ◌<◌, ◌≤◌, Bool, true, false, cond, ◌&&◌, eqb, ltb, List, [], ◌∷◌, ◌++◌}
use Rattle.std.proofs.Common.{length, get_or, take, map, reverse, Option, Some, None, refl, sym, ap, ◌∙◌, arith}
use Rattle.std.specs.Prelude.{filter}
use Rattle.std.specs.Str.{bytes_eq}
use Rattle.std.specs.List.Sorted.{IsPartitionPoint}
use Rattle.std.proofs.lemmas.List.{reverse-append}
use Rattle.std.proofs.lemmas.Bool.Decides.{Decides-eqb}
use Rattle.std.proofs.lemmas.Slice.Eq.{bytes_eq-Decides}
use Rattle.cc_names.specs.Labels.{row_of_label_change, labels_of_first_rows, label_effect, holder}
use Rattle.cc_names.specs.Last.{value_after}
use Rattle.cc_names.proofs.ByRows.{filter-reverse, filter_first}
use Rattle.label_book.specs.Holding.{row_of_move, change_by, change_of_move}
use Rattle.label_book.specs.declared.held.Move.{Move}

-- a label and an element are themselves
pub is_itself : (l : List ℕ) (e : ℕ) → (bytes_eq l l && eqb e e) ≡ true
is_itself l e = rw ((bytes_eq-Decides l l).1 refl, (Decides-eqb e e).1 refl) refl

-- the version that the newest of these moves names
abbrev pub newest_version : List Move → Option ℕ
newest_version [] = None
newest_version (move ∷ older) = move.version

-- what one move leaves, whatever was before
left_by : (l : List ℕ) (e row : ℕ) (version before : Option ℕ) → value_after (label_effect l e (change_by l e row version)) before
    ≡ version
left_by l e row (Some version) before = rw (is_itself l e) refl
left_by l e row None before = rw (is_itself l e) refl

-- the holder by moves of one label on one element
pub holder_by_moves : (l : List ℕ) (e : ℕ) (moves : List Move) → holder (map (change_of_move l e) moves) l e
    ≡ newest_version moves
holder_by_moves l e [] = refl
holder_by_moves l e (move ∷ older) = left_by l e move.row move.version (holder (map (change_of_move l e) older) l e)

pub row_by : (l : List ℕ) (e row : ℕ) (version : Option ℕ) → row_of_label_change (change_by l e row version) ≡ row
row_by l e row (Some version) = refl
row_by l e row None = refl

-- the moves that the first rows made
pub moves_of_first_rows : (rows : ℕ) (l : List ℕ) (e : ℕ) (moves : List Move)
    → labels_of_first_rows rows (map (change_of_move l e) moves) ≡ map (change_of_move l e)
    (filter (λ m. ltb (row_of_move m) rows) moves)
moves_of_first_rows rows l e [] = refl
moves_of_first_rows rows l e (move ∷ older) = rw (
  row_by l e move.row move.version,
  moves_of_first_rows rows l e older,
) (at (ltb move.row rows))
  where
    at : (t : Bool) → cond t (change_of_move l e move ∷ map (change_of_move l e) (filter (λ m. ltb (row_of_move m) rows) older))
        (map (change_of_move l e) (filter (λ m. ltb (row_of_move m) rows) older))
        ≡ map (change_of_move l e) (cond t (move ∷ filter (λ m. ltb (row_of_move m) rows) older)
        (filter (λ m. ltb (row_of_move m) rows) older))
    at true = refl
    at false = refl

-- the last of the first items of a list, read from their other end
newest_of_first : (moves : List Move) (k : ℕ) (d : Move) → k < length moves
    → newest_version (reverse (take (suc k) moves)) ≡ (get_or moves k d).version
newest_of_first [] k d within = absurd (omega arith)
newest_of_first (m ∷ moves) zero d within = refl
newest_of_first (m ∷ moves) (suc k) d within = rw (reverse-append (m ∷ []) (take (suc k) moves))
    (in_prefix (reverse (take (suc k) moves)) (reversed_some moves k (omega arith)) ∙ newest_of_first moves k d (omega arith))
  where
    in_prefix : (xs : List Move) → (x : Move) × (rest : List Move) × (xs ≡ x ∷ rest)
        → newest_version (xs ++ m ∷ []) ≡ newest_version xs
    in_prefix xs (x, rest, is) = rw is refl

    reversed_some : (ys : List Move) (i : ℕ) → i < length ys → (x : Move) × (rest : List Move)
        × (reverse (take (suc i) ys) ≡ x ∷ rest)
    reversed_some [] i lt = absurd (omega arith)
    reversed_some (y ∷ ys) zero lt = (y, [], refl)
    reversed_some (y ∷ ys) (suc i) lt =
        let (x, rest, is) = reversed_some ys i (omega arith) in
        (x, rest ++ y ∷ [], reverse-append (y ∷ []) (take (suc i) ys) ∙ ap (λ zs. zs ++ y ∷ []) is)

module _ (l : List ℕ) (e rows count : ℕ) (moves : List Move) (within : count ≤ length moves)
    (parted : IsPartitionPoint (λ m. ltb (row_of_move m) rows ≡ true) (λ m. ltb (row_of_move m) rows ≡ false) moves count) where
  -- the holder among the first rows, where a search ended
  holder_searched : holder (labels_of_first_rows rows (map (change_of_move l e) (reverse moves))) l e
      ≡ newest_version (reverse (take count moves))
  holder_searched =
      let p : Move → Bool = λ m. ltb (row_of_move m) rows in
      let prefix : filter p (reverse moves) ≡ reverse (take count moves) = filter-reverse p moves
      ∙ ap reverse (filter_first p moves count within parted) in
      rw (moves_of_first_rows rows l e (reverse moves), prefix) (holder_by_moves l e (reverse (take count moves)))

  -- there is none
  pub holder_none : count ≡ 0 → holder (labels_of_first_rows rows (map (change_of_move l e) (reverse moves))) l e ≡ None
  holder_none none = holder_searched ∙ rw none refl

  -- it is that of the last move before the place
  pub holder_last : (d : Move) → 0 < count → holder (labels_of_first_rows rows (map (change_of_move l e) (reverse moves))) l e
      ≡ (get_or moves (count - 1) d).version
  holder_last d some =
      let before : suc (count - 1) ≡ count = omega arith in
      holder_searched ∙ ap (λ n. newest_version (reverse (take n moves))) (sym before)
      ∙ newest_of_first moves (count - 1) d (omega arith)
