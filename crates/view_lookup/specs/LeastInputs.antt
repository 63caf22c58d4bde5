-- The least path of what an object rests on, of which a test holds, object by object.
use Rattle.std.specs.Prelude.{ℕ, cond, Option, Some, None, List, [], ◌∷◌}
use Rattle.std.specs.Cmp.Lexicographic.{slice_cmp}
use Rattle.std.specs.Ordering.{is_lt, nat_cmp}
use Rattle.cc_names.specs.declared.rows.ReadOf.{ReadOf}
use Rattle.base_model.specs.Closures.{Inputs, closure, is_publish, inputs_of_entry}
use Rattle.base_model.specs.Rows.{Base, only_where}
use Rattle.view_lookup.specs.FirstInputs.{PathTest}

-- the lesser of two paths
abbrev pub lower : List ℕ → List ℕ → List ℕ
lower one two = cond (is_lt (slice_cmp nat_cmp two one)) two one

-- the lesser of a path and another, where there are two
abbrev pub lesser : Option (List ℕ) → Option (List ℕ) → Option (List ℕ)
lesser None other = other
lesser (Some one) None = Some one
lesser (Some one) (Some two) = Some (lower one two)

-- a path, where the test holds of it and the row there
abbrev pub path_if_passed : PathTest → List ℕ → ℕ → Option (List ℕ)
path_if_passed passes path row = only_where (passes path row) (Some path)

-- the least path among inputs of which the test holds
abbrev pub least_in : PathTest → Inputs → Option (List ℕ)
least_in passes [] = None
least_in passes (input ∷ inputs) = lesser (path_if_passed passes input.0.0 input.1) (least_in passes inputs)

-- the same of what an object rests on
abbrev pub least_of : Base → PathTest → ℕ → Option (List ℕ)
least_of b passes id = least_in passes (closure b id)

-- of some objects
abbrev pub least_of_all : Base → PathTest → List ℕ → Option (List ℕ)
least_of_all b passes [] = None
least_of_all b passes (id ∷ ids) = lesser (least_of b passes id) (least_of_all b passes ids)

-- of an entry of a record
abbrev pub least_of_entry : Base → PathTest → ReadOf → Option (List ℕ)
least_of_entry b passes entry = least_in passes (inputs_of_entry (is_publish b entry.row) (closure b) entry)

-- of some entries
abbrev pub least_of_entries : Base → PathTest → List ReadOf → Option (List ℕ)
least_of_entries b passes [] = None
least_of_entries b passes (entry ∷ entries) = lesser (least_of_entry b passes entry) (least_of_entries b passes entries)
