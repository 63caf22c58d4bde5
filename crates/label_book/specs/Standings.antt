-- The labels that stand on versions of an element.
use Rattle.std.specs.Prelude.{◌≡◌, ℕ, ◌==◌, ◌&&◌, Bool, true, Option, Some, None, List, [], ◌∷◌, ◌++◌, map, bytes_eq, slice_get}
use Rattle.std.specs.List.{list_all, list_any}
use Rattle.cc_names.specs.Versions.{is_number}
use Rattle.label_book.specs.declared.element_labels.Standing.{Standing}

-- a label with the version on which it stands
abbrev pub Placement : Type 0
Placement = List ℕ × ℕ

-- the same without where its name lies in memory
abbrev pub plain : Standing → Placement
plain standing = (standing.label.now, standing.version)

-- a label, where it stands on a version
abbrev pub placed_at : List ℕ → Option ℕ → List Placement
placed_at l None = []
placed_at l (Some version) = (l, version) ∷ []

-- the label that is at a place, where it stands on a version
abbrev pub placed_name : (List ℕ → Option ℕ) → Option (List ℕ) → List Placement
placed_name holder_of None = []
placed_name holder_of (Some l) = placed_at l (holder_of l)

-- those of the labels at these places among the names that stand on versions
abbrev pub placements : List (List ℕ) → (List ℕ → Option ℕ) → List ℕ → List Placement
placements names holder_of [] = []
placements names holder_of (n ∷ ns) = placed_name holder_of (slice_get names n) ++ placements names holder_of ns

-- whether a label stands on its version, where each label stands on these
abbrev pub stands : (List ℕ → Option ℕ) → Placement → Bool
stands holder_of placement = is_number placement.1 (holder_of placement.0)

-- whether it is this label on this version
abbrev pub is_placement : List ℕ → ℕ → Placement → Bool
is_placement l version placement = bytes_eq l placement.0 && (version == placement.1)

-- These labels stand on these versions, and no others do.
pub record AreStanding (holder_of : List ℕ → Option ℕ) (found : List Standing) : Type 0 where
  pub stand : list_all (stands holder_of) (map plain found) ≡ true
  pub all : (l : List ℕ) (version : ℕ) → holder_of l ≡ Some version
      → list_any (is_placement l version) (map plain found) ≡ true
