-- Row 0 is the first version of the root directory, and no view sees it as a file.
use Rattle.std.proofs.Common.{◌≡◌, refl, Bool, true, false, ◌==◌, Option, Some, [], ◌∷◌, arith}
use Rattle.cc_names.specs.Formed.{Plain}
use Rattle.cc_names.specs.Versions.{kind_of}
use Rattle.cc_names.specs.declared.rows.Deed.{Deed}
use Rattle.cc_names.specs.declared.rows.Kind.TheVariants.{Directory}
use Rattle.cc_names.proofs.Common.{same_number}
use Rattle.base_model.specs.Rows.{Base, size, row_at, deed_of, deed_at}
use Rattle.base_model.specs.Changes.{tree}
use Rattle.base_model.specs.Closures.{is_version_of}
use Rattle.base_model.proofs.VersionsStay.{kind_stays, version_stays}

-- it has no deed
pub no_row : (b : Base) (deed : Deed) → deed_at b 0 ≡ Some deed → ⊥
no_row [] deed is = cc
no_row (row ∷ older) deed is = by (size older == 0) refl is (no_row older deed)
  where
    by : (t : Bool) → (size older == 0) ≡ t → deed_of (elim t as (λ x. Option Plain) [ true ↦ Some row | false ↦ row_at older 0 ])
        ≡ Some deed → (deed_at older 0 ≡ Some deed → ⊥) → ⊥
    by true e is rest = let number = same_number (size older) 0 e in absurd (omega arith)
    by false e is rest = rest is

pub root_version : (b : Base) → is_version_of b 0 0 ≡ true
root_version [] = refl
root_version (row ∷ older) = version_stays row older 0 0 (root_version older)

pub root_is_directory : (b : Base) → kind_of (tree b) 0 ≡ Some Directory
root_is_directory [] = refl
root_is_directory (row ∷ older) = kind_stays row older 0 Directory (root_is_directory older)
