-- The labels that a book lists for each element, by their places among the names.
use Rattle.std.specs.Prelude.{◌≡◌, ℕ, ◌==◌, Bool, true, Option, Some, None, List, [], Vec}
use Rattle.std.specs.declared.alloc.Global.{Global}
use Rattle.std.specs.List.{list_all, list_any}
use Rattle.std.specs.Map.{lookup}
use Rattle.label_book.specs.Holding.{MovesByPlace}

-- the labels of each element
abbrev pub LabelLists : Type 0
LabelLists = List (ℕ × Vec ℕ Global)

-- the labels of a list, where there is one
abbrev pub labels_of_list : Option (Vec ℕ Global) → List ℕ
labels_of_list None = []
labels_of_list (Some labels) = labels.items

-- the labels of an element
abbrev pub labels_listed : LabelLists → ℕ → List ℕ
labels_listed lists e = labels_of_list (lookup (λ f. e == f) lists)

-- whether an element has a label
abbrev pub has_listed : LabelLists → ℕ → ℕ → Bool
has_listed lists e n = list_any (λ m. m == n) (labels_listed lists e)

-- no element has fewer labels
abbrev pub KeepsListed : LabelLists → LabelLists → Type 0
KeepsListed old new = (e n : ℕ) → has_listed old e n ≡ true → has_listed new e n ≡ true

-- whether a label on an element is among the element's labels
abbrev pub is_listed : LabelLists → MovesByPlace → Bool
is_listed lists entry = has_listed lists entry.0.element entry.0.label

-- each is
abbrev pub are_listed : LabelLists → List MovesByPlace → Bool
are_listed lists entries = list_all (is_listed lists) entries
