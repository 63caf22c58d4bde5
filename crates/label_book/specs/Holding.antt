-- The labels that a book keeps, each on one element with its changes.
use Rattle.std.specs.Prelude.{◌≡◌, ◌≢◌, ℕ, ◌<◌, ◌≤◌, ◌==◌, ◌&&◌, nat_lt, Bool, true, false, Option, Some, None, List, [], ◌∷◌}
use Rattle.std.specs.Prelude.{◌++◌, length, map, reverse, slice_index_or, Vec, vec_len, vec_capacity}
use Rattle.std.specs.declared.alloc.Global.{Global}
use Rattle.std.specs.Str.{bytes_eq}
use Rattle.cc_names.specs.Versions.{put_if}
use Rattle.cc_names.specs.declared.changes.LabelChange.{LabelChange}
use Rattle.cc_names.specs.declared.changes.LabelChange.TheVariants.{Put, Taken}
use Rattle.label_book.specs.Marks.{Pair}
use Rattle.label_book.specs.declared.held.Move.{Move}
use Rattle.label_book.specs.declared.held.LabelOn.{LabelOn}

-- moves of one label on one element, oldest first
abbrev pub MoveList : Type 0
MoveList = Vec Move Global

-- a label on one element with its moves
pub record Held : Type 0 where
  pub label : List ℕ
  pub element : ℕ
  pub moves : MoveList

-- the row of a move
abbrev pub row_of_move : Move → ℕ
row_of_move move = move.row

-- a move of a label on an element, as a change
abbrev pub change_by : List ℕ → ℕ → ℕ → Option ℕ → LabelChange
change_by l e row (Some version) = Put row l e version
change_by l e row None = Taken row l e

-- the change that a move was
abbrev pub change_of_move : List ℕ → ℕ → Move → LabelChange
change_of_move l e move = change_by l e move.row move.version

-- the changes that moves of one label on one element were, newest first
abbrev pub changes_by : List ℕ → ℕ → List Move → List LabelChange
changes_by l e moves = map (change_of_move l e) (reverse moves)

-- the changes of one label on one element
abbrev pub changes_held : Held → List LabelChange
changes_held held = changes_by held.label held.element held.moves.items

-- those of all of them
abbrev pub all_changes : List Held → List LabelChange
all_changes [] = []
all_changes (held ∷ others) = changes_held held ++ all_changes others

-- whether it is this label on this element
abbrev pub is_pair : List ℕ → ℕ → Held → Bool
is_pair l e held = bytes_eq l held.label && (e == held.element)

-- those that have room for one more change
abbrev pub ready_pairs : List Held → List Pair
ready_pairs [] = []
ready_pairs (held ∷ others) =
    put_if (nat_lt (vec_len held.moves) (vec_capacity held.moves)) (record { label = held.label; element = held.element })
    (ready_pairs others)

-- whether two are the same label on the same element
abbrev pub is_same_label : LabelOn → LabelOn → Bool
is_same_label one two = (one.label == two.label) && (one.element == two.element)

-- a label on an element with its moves, where the label is given by its place
abbrev pub MovesByPlace : Type 0
MovesByPlace = LabelOn × MoveList

-- the same by the label's name, among these names
abbrev pub held_among : List (List ℕ) → MovesByPlace → Held
held_among names entry = record { label = slice_index_or names entry.0.label []; element = entry.0.element; moves = entry.1 }

-- the same of all of them
abbrev pub all_held : List (List ℕ) → List MovesByPlace → List Held
all_held names entries = map (held_among names) entries

-- each label has a name
abbrev pub AreNamed : List (List ℕ) → List MovesByPlace → Type 0
AreNamed names entries = (p : ℕ) (d : MovesByPlace) → p < length entries → (slice_index_or entries p d).0.label < length names

-- each name keeps its place, and there may be more
pub record HasGrown (old new : List (List ℕ)) : Type 0 where
  pub more : length old ≤ length new
  pub same : (n : ℕ) → n < length old → slice_index_or new n [] ≡ slice_index_or old n []

-- where a label stands among the names
pub record IsPlaceOfLabel (l : List ℕ) (names : List (List ℕ)) (n : ℕ) : Type 0 where
  pub within : n < length names
  pub is : slice_index_or names n [] ≡ l

-- where a label on an element stands, and nowhere else
pub record IsPlaceOf (l : List ℕ) (e : ℕ) (all : List Held) (p : ℕ) : Type 0 where
  pub within : p < length all
  pub is : (d : Held) → is_pair l e (slice_index_or all p d) ≡ true
  pub alone : (k : ℕ) (d : Held) → k < length all → k ≢ p → is_pair l e (slice_index_or all k d) ≡ false

-- the label stands nowhere on the element
pub record HasNoPlace (l : List ℕ) (e : ℕ) (all : List Held) : Type 0 where
  pub none : (p : ℕ) (d : Held) → p < length all → is_pair l e (slice_index_or all p d) ≡ false
