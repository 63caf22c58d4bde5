-- The entries of a book as labels on elements with their moves.
use Rattle.std.proofs.Common.{◌≡◌, ℕ, zero, suc, ◌<◌, List, [], ◌∷◌, ◌++◌, length, get_or, set, map, reverse, slice_get, Some}
use Rattle.std.proofs.Common.{true, ◌&&◌, refl, ap, ◌∙◌, arith}
use Rattle.std.specs.Str.{bytes_eq}
use Rattle.std.specs.List.{IsDistinct}
use Rattle.std.specs.Map.{values_of}
use Rattle.std.proofs.lemmas.Bool.{and_parts}
use Rattle.std.proofs.lemmas.List.{get_or-map, length-map}
use Rattle.std.proofs.lemmas.List.Folds.{list_all-append}
use Rattle.indexmap.specs.IndexMap.{set_value_at}
use Rattle.cc_names.specs.Falling.{Falls}
use Rattle.label_book.specs.Holding.{MovesByPlace, Held, MoveList, row_of_move, held_among, all_held, AreNamed, HasGrown}
use Rattle.label_book.specs.BookFields.{BookInStep}
use Rattle.label_book.specs.Listed.{KeepsListed, LabelLists, are_listed, is_listed}

-- the same label on the same element
abbrev pub SameHead : Held → Held → Type 0
SameHead one two = record { label : one.label ≡ two.label; element : one.element ≡ two.element }

-- the moves that an index lends
moves_at : (entries : List MovesByPlace) (p : ℕ) (d : MovesByPlace) (moves : MoveList)
    → slice_get (values_of entries) p ≡ Some moves → (get_or entries p d).1 ≡ moves
moves_at [] p d moves is = absurd (cc)
moves_at (entry ∷ entries) zero d moves is = cc
moves_at (entry ∷ entries) (suc p) d moves is = moves_at entries p d moves is

pub held_moves : (names : List (List ℕ)) (entries : List MovesByPlace) (p : ℕ) (moves : MoveList)
    → slice_get (values_of entries) p ≡ Some moves → p < length (all_held names entries)
    → (f : Held) → (get_or (all_held names entries) p f).moves ≡ moves
held_moves names entries p moves is within f =
    let d : MovesByPlace = (record { label = 0; element = 0 }, moves) in
    ap (λ (h : Held). h.moves) (get_or-map (held_among names) entries p d f
    (omega (arith, length-map entries (held_among names)))) ∙ moves_at entries p d moves is

-- other moves in their place
pub held_set : (names : List (List ℕ)) (entries : List MovesByPlace) (p : ℕ) (d : MovesByPlace) (moves : MoveList)
    → p < length entries
    → all_held names (set_value_at entries p moves) ≡ set (all_held names entries) p
    (held_among names ((get_or entries p d).0, moves))
held_set names [] p d moves within = absurd (omega arith)
held_set names (entry ∷ entries) zero d moves within = refl
held_set names (entry ∷ entries) (suc p) d moves within = ap (λ all. held_among names entry ∷ all)
    (held_set names entries p d moves (omega arith))

-- what such a write leaves of the list
pub record Writes (all after : List Held) (p : ℕ) (moves : MoveList) : Type 0 where
  pub held : Held
  pub written : held.moves ≡ moves
  pub same : (f : Held) → SameHead held (get_or all p f)
  pub set : after ≡ set all p held

pub writes : (names : List (List ℕ)) (entries : List MovesByPlace) (p : ℕ) (moves : MoveList)
    → p < length (all_held names entries) → Writes (all_held names entries) (all_held names (set_value_at entries p moves)) p
    moves
writes names entries p moves within =
    let d : MovesByPlace = (record { label = 0; element = 0 }, moves) in
    let in_range : p < length entries = omega (arith, length-map entries (held_among names)) in
    record {
      held = held_among names ((get_or entries p d).0, moves);
      written = refl;
      same = λ f. rw (get_or-map (held_among names) entries p d f in_range) (record { label = refl; element = refl });
      set = held_set names entries p d moves in_range;
    }

-- one entry more
pub held_push : (names : List (List ℕ)) (entries : List MovesByPlace) (entry : MovesByPlace)
    → all_held names (entries ++ entry ∷ []) ≡ all_held names entries ++ held_among names entry ∷ []
held_push names [] entry = refl
held_push names (e ∷ entries) entry = ap (λ all. held_among names e ∷ all) (held_push names entries entry)

-- more names leave what was named
pub held_grown : (old new : List (List ℕ)) (entries : List MovesByPlace) → HasGrown old new → AreNamed old entries
    → all_held new entries ≡ all_held old entries
held_grown old new [] grown named = refl
held_grown old new (entry ∷ entries) grown named =
    let same : held_among new entry ≡ held_among old entry = ap (λ (l : List ℕ). record {
      label = l;
      element = entry.0.element;
      moves = entry.1;
    }) (grown.same entry.0.label (named 0 entry (omega arith))) in
    ap (λ (h : Held). h ∷ all_held new entries) same ∙ ap (λ all. held_among old entry ∷ all)
    (held_grown old new entries grown (λ p d within. named (suc p) d (omega arith)))

-- what holds of each entry, where one has other moves
module _ (P : MovesByPlace → Type 0) where
  all_set : (moves : MoveList) → ((entry : MovesByPlace) → P entry → P (entry.0, moves)) → (entries : List MovesByPlace) (p : ℕ)
      → ((q : ℕ) (d : MovesByPlace) → q < length entries → P (get_or entries q d)) → (q : ℕ) (d : MovesByPlace)
      → q < length (set_value_at entries p moves) → P (get_or (set_value_at entries p moves) q d)
  all_set moves carries [] p all q d within = absurd (omega arith)
  all_set moves carries (entry ∷ entries) zero all zero d within = carries entry (all 0 d (omega arith))
  all_set moves carries (entry ∷ entries) zero all (suc q) d within = all (suc q) d within
  all_set moves carries (entry ∷ entries) (suc p) all zero d within = all 0 d (omega arith)
  all_set moves carries (entry ∷ entries) (suc p) all (suc q) d within =
      all_set moves carries entries p (λ i f in_range. all (suc i) f (omega arith)) q d (omega arith)

  -- where one more comes last
  at_end : (last : MovesByPlace) → P last → (entries : List MovesByPlace)
      → ((q : ℕ) (d : MovesByPlace) → q < length entries → P (get_or entries q d)) → (q : ℕ) (d : MovesByPlace)
      → q < length (entries ++ last ∷ []) → P (get_or (entries ++ last ∷ []) q d)
  at_end last is [] all zero d within = is
  at_end last is [] all (suc q) d within = absurd (omega arith)
  at_end last is (entry ∷ entries) all zero d within = all 0 d (omega arith)
  at_end last is (entry ∷ entries) all (suc q) d within = at_end last is entries (λ i f in_range. all (suc i) f (omega arith)) q d
      (omega arith)

-- other moves leave the labels of elements
set_listed : (lists : LabelLists) (entries : List MovesByPlace) (p : ℕ) (moves : MoveList)
    → are_listed lists (set_value_at entries p moves) ≡ are_listed lists entries
set_listed lists [] p moves = refl
set_listed lists (entry ∷ entries) zero moves = refl
set_listed lists (entry ∷ entries) (suc p) moves = ap (λ rest. is_listed lists entry && rest)
    (set_listed lists entries p moves)

all_kept : (old new : LabelLists) → KeepsListed old new → (entries : List MovesByPlace) → are_listed old entries ≡ true
    → are_listed new entries ≡ true
all_kept old new keeps [] all = refl
all_kept old new keeps (entry ∷ entries) all =
    let (here, rest) = and_parts (is_listed old entry) (are_listed old entries) all in
    rw (keeps entry.0.element entry.0.label here) (all_kept old new keeps entries rest)

-- the fields of a book stay in step
module _ (names : List (List ℕ)) (entries : List MovesByPlace) {lists : LabelLists} (step : BookInStep names entries lists) where
  -- as there are other moves at a place
  pub step_set : (p : ℕ) (moves : MoveList) → Falls (map row_of_move (reverse moves.items))
      → BookInStep names (set_value_at entries p moves) lists
  step_set p moves falls = record {
    apart = step.apart;
    named = all_set (λ entry. entry.0.label < length names) moves (λ entry named. named) entries p step.named;
    fall = all_set (λ entry. Falls (map row_of_move (reverse entry.1.items))) moves (λ entry fall. falls) entries p step.fall;
    listed = set_listed lists entries p moves ∙ step.listed;
  }

  -- the moves that an index lends are in order
  pub fall_at : (p : ℕ) (moves : MoveList) → slice_get (values_of entries) p ≡ Some moves → p < length (all_held names entries)
      → Falls (map row_of_move (reverse moves.items))
  fall_at p moves is within =
      let d : MovesByPlace = (record { label = 0; element = 0 }, moves) in
      rw (moves_at entries p d moves is) at (step.fall p d (omega (arith, length-map entries (held_among names))))

  -- as the same moves get more room
  pub step_same : (p : ℕ) (old new : MoveList) → slice_get (values_of entries) p ≡ Some old → p < length (all_held names entries)
      → new.items ≡ old.items → BookInStep names (set_value_at entries p new) lists
  step_same p old new is within items = step_set p new (rw items (fall_at p old is within))

  -- as there are more names
  pub step_grown : (more : List (List ℕ)) → HasGrown names more → IsDistinct bytes_eq more → BookInStep more entries lists
  step_grown more grown apart = record {
    apart = apart;
    named = λ p d within. omega (arith, step.named p d within, grown.more);
    fall = step.fall;
    listed = step.listed;
  }

  -- as elements have more labels
  pub step_listed : (more : LabelLists) → KeepsListed lists more → BookInStep names entries more
  step_listed more keeps = record {
    apart = step.apart;
    named = step.named;
    fall = step.fall;
    listed = all_kept lists more keeps entries step.listed;
  }

  -- as there is one label on an element more, which has no change
  pub step_push : (entry : MovesByPlace) → entry.0.label < length names → entry.1.items ≡ [] → is_listed lists entry ≡ true
      → BookInStep names (entries ++ entry ∷ []) lists
  step_push entry named empty is = record {
    apart = step.apart;
    named = at_end (λ one. one.0.label < length names) entry named entries step.named;
    fall = at_end (λ one. Falls (map row_of_move (reverse one.1.items))) entry (rw empty tt) entries step.fall;
    listed = list_all-append (is_listed lists) entries (entry ∷ []) ∙ rw (step.listed, is) refl;
  }
