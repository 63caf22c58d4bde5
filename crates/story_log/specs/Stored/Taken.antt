-- The extents that rows as frames spell them take in the file of objects.
use Rattle.std.specs.Prelude.{ℕ, Bool, not, ◌==◌, List, [], ◌∷◌, ◌++◌, map, filter}
use Rattle.std.specs.List.{list_any}
use Rattle.cc_names.specs.declared.rows.Extent.{Extent}
use Rattle.cc_names.specs.declared.rows.Stored.{Stored}
use Rattle.cc_names.specs.declared.rows.Stored.TheVariants.{Here, There}
use Rattle.cc_names.specs.declared.rows.Deed.{Deed}
use Rattle.cc_names.specs.declared.rows.Deed.TheVariants as deeds
use Rattle.base_model.specs.Rows.{Base, size}

-- an extent, with the object that it has an output of
pub record ObjectExtent : Type 0 where
  pub object : ℕ
  pub extent : Extent

-- an extent of this object
abbrev pub owned_by : ℕ → Extent → ObjectExtent
owned_by object extent = record { object = object; extent = extent }

-- the extent alone
abbrev pub extent_of_owned : ObjectExtent → Extent
extent_of_owned owned = owned.extent

-- the extents of outputs, in order
abbrev pub extents_in : List Stored → List Extent
extents_in [] = []
extents_in (Here bytes ∷ outputs) = extents_in outputs
extents_in (There extent ∷ outputs) = extent ∷ extents_in outputs

-- the extents of a deed's outputs, in order
abbrev pub extents_of : Deed → List Extent
extents_of (deeds.PublishAt view targets script entries outputs) = extents_in outputs
extents_of deed = []

-- whether an extent stays taken where these objects are scrubbed
abbrev pub is_left_by : List ℕ → ObjectExtent → Bool
is_left_by objects owned = not (list_any (λ object. object == owned.object) objects)

-- the extents that are taken after a row of this number and deed, where these were before: a publish takes its own, and a
-- scrub gives back those of its objects
abbrev pub taken_after : ℕ → Deed → List ObjectExtent → List ObjectExtent
taken_after n (deeds.PublishAt view targets script entries outputs) held = map (owned_by n) (extents_in outputs) ++ held
taken_after n (deeds.Scrub objects) held = filter (is_left_by objects) held
taken_after n deed held = held

-- the extents that are taken after rows as frames spell them, the newest row first: those of the live objects
abbrev pub taken : Base → List ObjectExtent
taken [] = []
taken (row ∷ older) = taken_after (size older) row.deed (taken older)
