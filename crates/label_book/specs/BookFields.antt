-- The fields of a `Book`: what contracts see of them, and how they are in step.
use Rattle.std.specs.Prelude.{◌≡◌, ℕ, ◌<◌, true, List, length, map, reverse, slice_index_or}
use Rattle.std.specs.Str.{bytes_eq}
use Rattle.std.specs.List.{IsDistinct}
use Rattle.cc_names.specs.Falling.{Falls}
use Rattle.label_book.specs.Listed.{LabelLists, are_listed}
use Rattle.label_book.specs.Marks.{Marks}
use Rattle.label_book.specs.Holding.{MovesByPlace, Held, row_of_move, all_changes, all_held, ready_pairs, AreNamed}
use Rattle.label_book.specs.declared.Book.TheInside.{Inside}

-- what contracts see of labels on elements
abbrev pub marks_in : List Held → Marks
marks_in all = record { changes = all_changes all; ready = ready_pairs all }

-- what contracts see of a book
abbrev pub marks_of : Inside → Marks
marks_of inside = marks_in (all_held inside.labels.keys inside.moves.entries)

-- each name stands once, each label has one, the changes of each label on each element are in order of rows, and each element has
-- its labels
pub record BookInStep (names : List (List ℕ)) (entries : List MovesByPlace) (lists : LabelLists) : Type 0 where
  pub apart : IsDistinct bytes_eq names
  pub named : AreNamed names entries
  pub fall : (p : ℕ) (d : MovesByPlace) → p < length entries → Falls (map row_of_move
      (reverse (slice_index_or entries p d).1.items))
  pub listed : are_listed lists entries ≡ true

-- the fields of a book are in step
abbrev pub IsBookInStep : Inside → Type 0
IsBookInStep inside = BookInStep inside.labels.keys inside.moves.entries inside.lists.entries
