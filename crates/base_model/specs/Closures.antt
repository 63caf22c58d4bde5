-- What an object rests on in the end, and the version of each element that its record lists.
use Rattle.std.specs.Prelude.{ℕ, zero, suc, Bool, true, false, ◌==◌, Option, Some, None, List, [], ◌∷◌, max, bytes_eq, map}
use Rattle.std.specs.List.{list_any}
use Rattle.std.specs.declared.cmp.Ordering.{Ordering}
use Rattle.std.specs.Ordering.{nat_cmp, on, then_cmp}
use Rattle.std.specs.Cmp.Lexicographic.{slice_cmp}
use Rattle.std.specs.FinMap.Entries.{put, find}
use Rattle.cc_names.specs.Versions.{version_id}
use Rattle.cc_names.specs.declared.changes.VersionId.{VersionId}
use Rattle.cc_names.specs.declared.rows.ReadOf.{ReadOf}
use Rattle.cc_names.specs.declared.rows.Deed.{Deed}
use Rattle.cc_names.specs.declared.rows.Deed.TheVariants as deeds
use Rattle.base_model.specs.Rows.{Base, size, deed_at, only_where}
use Rattle.base_model.specs.Changes.{tree, targets_of}
use Rattle.cc_names.specs.declared.rows.Placed.{Placed}

-- one of what an object rests on: a path, and the row that made the text there, 0 where nothing was there
abbrev pub Input : Type 0
Input = List ℕ × ℕ

-- in byte order of paths, then by rows
abbrev pub input_cmp : Input → Input → Ordering
input_cmp = then_cmp (on (λ input. input.0) (slice_cmp nat_cmp)) (on (λ input. input.1) nat_cmp)

-- inputs in order, each once
abbrev pub Inputs : Type 0
Inputs = List (Input × ℕ)

-- the inputs of a list, put among others
abbrev pub joined_inputs : Inputs → Inputs → Inputs
joined_inputs [] others = others
joined_inputs (input ∷ inputs) others = joined_inputs inputs (put input_cmp input.0 input.1 others)

-- the entries of an object's record; any other row has none
abbrev pub entries_of_deed : Option Deed → List ReadOf
entries_of_deed (Some (deeds.Publish v targets script entries outputs)) = entries
entries_of_deed _ = []

-- whether a deed publishes an object
abbrev pub is_publish_deed : Option Deed → Bool
is_publish_deed (Some (deeds.Publish v targets script entries outputs)) = true
is_publish_deed _ = false

-- whether the row of this number published an object
abbrev pub is_publish : Base → ℕ → Bool
is_publish b id = is_publish_deed (deed_at b id)

-- the inputs of an entry: those of the object that it names, else the entry itself
abbrev pub inputs_of_entry : Bool → (ℕ → Inputs) → ReadOf → Inputs
inputs_of_entry true of_object entry = of_object entry.row
inputs_of_entry false of_object entry = ((entry.path, entry.row), entry.row) ∷ []

-- the inputs of all entries of a record in a base
abbrev pub inputs_of : Base → (ℕ → Inputs) → List ReadOf → Inputs
inputs_of b of_object [] = []
inputs_of b of_object (entry ∷ entries) =
    joined_inputs (inputs_of_entry (is_publish b entry.row) of_object entry) (inputs_of b of_object entries)

-- The closure of an object: the entries of its record, each that names an object replaced by that object's closure.
abbrev pub closure : Base → ℕ → Inputs
closure [] id = []
closure (row ∷ older) id =
    elim (size older == id) [
      | true ↦ inputs_of older (closure older) (entries_of_deed (Some row.deed))
      | false ↦
          closure older id
    ]

-- whether a version is one of the element
abbrev pub is_of_element : ℕ → Option VersionId → Bool
is_of_element e None = false
is_of_element e (Some version_id) = version_id.element == e

-- whether a row made a version of the element
abbrev pub is_version_of : Base → ℕ → ℕ → Bool
is_version_of b e row = is_of_element e (version_id (tree b) row)

-- the greater of a number and another, where there is another
abbrev pub greater_of : ℕ → Option ℕ → ℕ
greater_of n None = n
greater_of n (Some m) = max n m

-- versions by their elements, in the order of elements
abbrev pub Listing : Type 0
Listing = List (ℕ × ℕ)

-- a listing with one more version, of which the greatest of each element counts
abbrev pub with_version_at : ℕ → Option VersionId → Listing → Listing
with_version_at row None listing = listing
with_version_at row (Some version_id) listing = put nat_cmp version_id.element
    (greater_of row (find nat_cmp version_id.element listing)) listing

-- The version that the row of an input made. Row 0, which says that nothing was at the path, lists none.
abbrev pub version_listed : Base → ℕ → Option VersionId
version_listed b zero = None
version_listed b (suc row) = version_id (tree b) (suc row)

-- the versions among inputs
abbrev pub listing_of : Base → Inputs → Listing
listing_of b [] = []
listing_of b (input ∷ inputs) = with_version_at input.1 (version_listed b input.1) (listing_of b inputs)

-- What the record of an object lists: of each element the greatest row of the object's closure that is a version of it.
abbrev pub listing : Base → ℕ → Listing
listing b id = listing_of b (closure b id)

-- whether a path is among paths
abbrev pub is_path_among : List ℕ → List (List ℕ) → Bool
is_path_among path paths = list_any (bytes_eq path) paths

-- the version of the element that the record of the object lists, where the object has this target
abbrev pub recorded_version : Base → ℕ → List ℕ → ℕ → Option ℕ
recorded_version b id target e = only_where (is_path_among target (targets_of b id)) (find nat_cmp e (listing b id))

-- an element with its version, as a place of a label
abbrev pub as_placed : ℕ × ℕ → Placed
as_placed entry = record { element = entry.0; version = entry.1 }

-- a version of each element that the record of an object lists
abbrev pub placed_by : Base → ℕ → List Placed
placed_by b id = map as_placed (listing b id)
