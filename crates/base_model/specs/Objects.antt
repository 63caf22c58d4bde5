-- Objects and their records: which object a view holds at some paths, and whether it sees what a record has.
use Rattle.std.specs.Prelude.{ℕ, zero, suc, Bool, true, false, not, ◌&&◌, Option, Some, None, is_none, List, [], ◌∷◌, find}
use Rattle.std.specs.Prelude.{option_map, bytes_eq}
use Rattle.std.specs.List.{list_all}
use Rattle.std.specs.Option.{option_or}
use Rattle.cc_names.specs.References.{held_at}
use Rattle.cc_names.specs.Versions.{is_number}
use Rattle.cc_names.specs.declared.rows.ReadOf.{ReadOf}
use Rattle.base_model.specs.Rows.{Base, deed_at, only_where}
use Rattle.base_model.specs.Changes.{objects_held}
use Rattle.base_model.specs.Closures.{Inputs, closure, entries_of_deed}
use Rattle.base_model.specs.Seen.{file_at}

-- whether two lists have the same paths in the same order
abbrev pub are_same_paths : List (List ℕ) → List (List ℕ) → Bool
are_same_paths [] [] = true
are_same_paths (p ∷ ps) (q ∷ qs) = bytes_eq p q && are_same_paths ps qs
are_same_paths _ _ = false

-- whether a row is the one that was found; row 0 says that nothing was there
abbrev pub agrees : ℕ → Option ℕ → Bool
agrees zero found = is_none found
agrees (suc row) found = is_number (suc row) found

-- an object where it is held at each of some paths
abbrev pub held_at_each : Base → List ℕ → List (List ℕ) → ℕ → Bool
held_at_each b v paths id = list_all (λ path. is_number id (held_at (objects_held b) v path)) paths

-- the object that is held at one target, where it is held at the others too
abbrev pub held_at_others : Base → List ℕ → List (List ℕ) → Option ℕ → Option ℕ
held_at_others b v paths None = None
held_at_others b v paths (Some id) = only_where (held_at_each b v paths id) (Some id)

-- the object that the view holds at every target
abbrev pub held_at_all : Base → List ℕ → List (List ℕ) → Option ℕ
held_at_all b v [] = None
held_at_all b v (target ∷ targets) = held_at_others b v targets (held_at (objects_held b) v target)

-- the entries of an object's record
abbrev pub record_of : Base → ℕ → List ReadOf
record_of b id = entries_of_deed (deed_at b id)

-- the row of a path in a record
abbrev pub row_in : List ReadOf → List ℕ → Option ℕ
row_in entries path = option_map (λ entry. entry.row) (find (λ entry. bytes_eq entry.path path) entries)

-- the first path among inputs that the view sees with another row; row 0 stands for none
abbrev pub uncovered_among : Base → List ℕ → Inputs → Option (List ℕ)
uncovered_among b v [] = None
uncovered_among b v (input ∷ inputs) =
    option_or (only_where (not (agrees input.1 (file_at b v input.0.0))) (Some input.0.0)) (uncovered_among b v inputs)

-- The first path of an object's closure whose row is not the one that the view sees there. Where there is none, what the
-- view sees covers the record.
abbrev pub uncovered_path : Base → List ℕ → ℕ → Option (List ℕ)
uncovered_path b v id = uncovered_among b v (closure b id)
