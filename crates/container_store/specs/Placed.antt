-- Extents that were placed one after the other.
use Rattle.std.specs.Prelude.{ℕ, List, [], ◌∷◌}
use Rattle.cc_names.specs.declared.rows.Extent.{Extent}
use Rattle.container_store.specs.Extents.{IsFirstFit}

-- each has the next of these lengths, and was placed at the lowest place where it was free, with those before it taken
abbrev pub ArePlaced : List Extent → List ℕ → List Extent → Type 0
ArePlaced taken [] [] = Unit {0}
ArePlaced taken [] (e ∷ more) = ⊥
ArePlaced taken (length ∷ lengths) [] = ⊥
ArePlaced taken (length ∷ lengths) (e ∷ more) = IsFirstFit taken length e × ArePlaced (e ∷ taken) lengths more
