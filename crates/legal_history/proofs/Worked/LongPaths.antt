-- A directory that is renamed makes the paths below it longer. One that passes 1,024 bytes is seen by nothing.
use Rattle.std.proofs.Common.{◌≡◌, refl, ℕ, true, false, List, [], ◌∷◌, ◌++◌}
use Rattle.std.specs.Prelude.{codes, replicate}
use Rattle.cc_names.specs.Paths.{path_of_names}
use Rattle.cc_names.specs.declared.rows.Deed.{Deed}
use Rattle.cc_names.specs.declared.rows.Deed.TheVariants as deeds
use Rattle.cc_names.specs.declared.rows.Kind.TheVariants.{File, Directory}
use Rattle.cc_names.specs.declared.selection.Seen.TheVariants.{Element, Nothing}
use Rattle.base_model.specs.Rows.{Base}
use Rattle.base_model.specs.Fits.{is_base}
use Rattle.legal_history.specs.Queries.DirectoryTexts.{ls_text}
use Rattle.base_model.specs.Seen.{at, at_names}
use Rattle.legal_history.specs.Worked.{base_of}
use Rattle.legal_history.proofs.Worked.TwoViews.{v}

-- four directories, one in another, and a file in the last
abbrev nested : List Deed
nested =
    deeds.Mkview v ∷ deeds.Checkout v 0 0 true
    ∷ deeds.Mkelem v 0 (codes "a") Directory true ∷ deeds.Mkelem v 3 (codes "b") Directory true
    ∷ deeds.Mkelem v 4 (codes "c") Directory true ∷ deeds.Mkelem v 5 (codes "d") Directory true
    ∷ deeds.Mkelem v 6 (codes "in") File false ∷ []

-- the longest name
abbrev long : List ℕ
long = replicate 255 97

-- each directory has the longest name
abbrev renamed : Base
renamed = base_of (nested ++ (
    deeds.Mv v 0 (codes "a") long ∷ deeds.Mv v 3 (codes "b") long
    ∷ deeds.Mv v 4 (codes "c") long ∷ deeds.Mv v 5 (codes "d") long ∷ []))

it_is_a_base : is_base renamed ≡ true
it_is_a_base = refl

the_file_is_seen : at (base_of nested) v (codes "a/b/c/d/in") ≡ Element 7 (record { row = 7; line = 2; out = false })
the_file_is_seen = refl

-- 1,023 bytes
the_last_directory_is_seen : at_names renamed v (long ∷ long ∷ long ∷ long ∷ [])
    ≡ Element 6 (record { row = 6; line = 1; out = true })
the_last_directory_is_seen = refl

-- 1,026 bytes
the_file_is_not : at_names renamed v (codes "in" ∷ long ∷ long ∷ long ∷ long ∷ []) ≡ Nothing
the_file_is_not = refl

nor_is_it_listed : ls_text renamed v (path_of_names (long ∷ long ∷ long ∷ long ∷ [])) ≡ []
nor_is_it_listed = refl
