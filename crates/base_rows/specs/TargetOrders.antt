-- The places of an object's targets in byte order of the targets, as they are kept of objects with many targets.
use Rattle.std.specs.Prelude.{◌≡◌, ℕ, ◌<◌, ◌==◌, true, false, Option, Some, None, List, [], length, All, IfSome, Vec, bytes_eq}
use Rattle.std.specs.Prelude.{slice_get, slice_index_or}
use Rattle.std.specs.declared.alloc.Global.{Global}
use Rattle.std.specs.List.{list_any}
use Rattle.std.specs.List.Sorted.{IsSortedByKey}
use Rattle.std.specs.Ordering.{nat_cmp}
use Rattle.std.specs.Cmp.Lexicographic.{slice_cmp}
use Rattle.cc_names.specs.declared.rows.Deed.{Deed}
use Rattle.base_model.specs.Changes.{targets_of, targets_of_deed}
use Rattle.base_model.specs.Closures.{is_path_among}
use Rattle.base_model.specs.Rows.{Base, size}

-- the target at a place
abbrev pub target_at : List (List ℕ) → ℕ → List ℕ
target_at targets place = slice_index_or targets place []

-- places at which these targets stand, and no other path
abbrev pub AreTheirPlaces : List (List ℕ) → List ℕ → Type 0
AreTheirPlaces targets places = (path : List ℕ) → list_any (λ place. bytes_eq path (target_at targets place)) places
    ≡ is_path_among path targets

-- the place of a path among targets, where it is one of them
abbrev pub IsPlaceOf : List ℕ → List (List ℕ) → Option ℕ → Type 0
IsPlaceOf path targets None = is_path_among path targets ≡ false
IsPlaceOf path targets (Some place) = slice_get targets place ≡ Some path

-- the places of targets, in byte order of the targets
pub record AreOrdered (targets : List (List ℕ)) (places : List ℕ) : Type 0 where
  pub within : All (λ place. place < length targets) places
  pub all : AreTheirPlaces targets places
  pub ascend : IsSortedByKey (target_at targets) (slice_cmp nat_cmp) places

-- places as they are kept
abbrev pub Places : Type 0
Places = Vec ℕ Global

-- what is kept of a row of this deed, where anything is
abbrev pub AreOfDeed : Option Places → Deed → Type 0
AreOfDeed places deed = IfSome places (λ places. AreOrdered (targets_of_deed (Some deed)) places.items)

-- what is kept under a number is the places of the targets of that object of a base
pub record AreOfObject (b : Base) (id : ℕ) (places : List ℕ) : Type 0 where
  pub within : id < size b
  pub ordered : AreOrdered (targets_of b id) places

-- what is kept of each object is the places of its targets
abbrev pub AreOrders : (ℕ → Option Places) → Base → Type 0
AreOrders kept b = (id : ℕ) → IfSome (kept id) (λ places. AreOfObject b id places.items)

-- with the places of one object more, where there are any
abbrev pub with_order : ℕ → Option Places → (ℕ → Option Places) → ℕ → Option Places
with_order id None kept q = kept q
with_order id (Some places) kept q = elim (id == q) [ true ↦ Some places | false ↦ kept q ]
