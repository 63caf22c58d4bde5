-- The rows of saves fit.
use Rattle.std.proofs.Common.{◌≡◌, refl, ℕ, Bool, true, false, Option, Some, None, List, nat_lt}
use Rattle.std.specs.Prelude.{is_some}
use Rattle.cc_names.specs.Versions.{kind_of}
use Rattle.cc_names.specs.declared.rows.Kind.{Kind}
use Rattle.cc_names.specs.declared.rows.Kind.TheVariants.{File, Directory}
use Rattle.cc_names.specs.declared.selection.Seen.TheVariants.{Element, Private, Unselected, Nothing}
use Rattle.cc_names.specs.declared.selection.Seen.{Seen}
use Rattle.cc_names.specs.declared.rows.Deed.TheVariants as deeds
use Rattle.base_model.specs.Rows.{Base, size}
use Rattle.base_model.specs.Changes.{tree}
use Rattle.base_model.specs.Conditions.{has_out, is_file, is_directory, is_file_kind, is_directory_kind, exists}
use Rattle.legal_history.specs.Commands.Decisions.{Scene}
use Rattle.legal_history.specs.Commands.FileLines.{save, save_tests, save_deed, saves_at, saves_element}
use Rattle.base_model.specs.Fits.{is_base, fits, row_limit}
use Rattle.base_model.specs.Seen.{at}
use Rattle.base_model.specs.Views.{out}
use Rattle.legal_history.proofs.Decisions.FileFits.{Fits, RowFits}
use Rattle.legal_history.proofs.Decisions.Handed.{row_is}
use Rattle.base_model.proofs.Origins.{out_is_version}
use Rattle.base_model.proofs.Owned.{version_has_kind}
use Rattle.legal_history.proofs.Decisions.Passed.{unless_passes, fits_by}
use Rattle.legal_history.proofs.Decisions.CheckoutFits.{was_out}

-- what is there, by its test
some_of : {A : Type 0} (o : Option A) → is_some o ≡ true → (a : A) × (o ≡ Some a)
some_of None h = absurd (cc)
some_of (Some a) h = (a, refl)

file_or_directory : (kind : Option Kind) → is_some kind ≡ true → is_directory_kind kind ≡ false → is_file_kind kind ≡ true
file_or_directory None h d = absurd (cc)
file_or_directory (Some File) h d = refl
file_or_directory (Some Directory) h d = absurd (cc)

saves_by : (b : Base) (v path : List ℕ) (e : ℕ) (d : Bool) → saves_element d path (out b v e) ≡ None → (d ≡ false)
    × (has_out b v e ≡ true)
saves_by b v path e true h = absurd (cc)
saves_by b v path e false h = (refl, was_out path (out b v e) h)

saved_element : (s : Scene) (v path text : List ℕ) (e : ℕ) → nat_lt (size s.base) row_limit ≡ true →
    ((e : ℕ) → has_out s.base v e ≡ true → is_directory s.base e ≡ false → is_file s.base e ≡ true) →
    saves_element (is_directory s.base e) path (out s.base v e) ≡ None → fits s.base (deeds.Save v e text) ≡ true
saved_element s v path text e room known h =
    let both = saves_by s.base v path e (is_directory s.base e) h in
    let file : is_file s.base e ≡ true = known e both.1 both.0 in
    let taken : has_out s.base v e ≡ true = both.1 in
    fits_by s.base (deeds.Save v e text) room (rw (taken, file) refl)

-- a save's own tests, by what stands at its path
save_made : (s : Scene) (v path text : List ℕ) (seen : Seen) → exists s.base v ≡ true → nat_lt (size s.base) row_limit ≡ true →
    ((e : ℕ) → has_out s.base v e ≡ true → is_directory s.base e ≡ false → is_file s.base e ≡ true) →
    saves_at s.base v path seen ≡ None → fits s.base (save_deed v path text seen) ≡ true
save_made s v path text (Private row) there room known h = fits_by s.base (deeds.Put v path text) room there
save_made s v path text Nothing there room known h = fits_by s.base (deeds.Put v path text) room there
save_made s v path text (Element e picked) there room known h = saved_element s v path text e room known h
save_made s v path text (Unselected e) there room known h = saved_element s v path text e room known h

-- the row of a save fits, where an element that the view has checked out and that is no directory is a file
save_fits_by : (s : Scene) (v path text : List ℕ) →
    ((e : ℕ) → has_out s.base v e ≡ true → is_directory s.base e ≡ false → is_file s.base e ≡ true)
    → RowFits s (save s v path text)
save_fits_by s v path text known =
    row_is (Fits s) s (save_tests s v path) (save_deed v path text (at s.base v path))
    (λ m. save_made s v path text (at s.base v path) (unless_passes _ _ m.pass.0) m.room known m.pass.1.1.1.1.0)

pub save_fits : (s : Scene) (v path text : List ℕ) → is_base s.base ≡ true → RowFits s (save s v path text)
save_fits s v path text h = save_fits_by s v path text known
  where
    known : (e : ℕ) → has_out s.base v e ≡ true → is_directory s.base e ≡ false → is_file s.base e ≡ true
    known e taken no_directory =
        let checkout = some_of (out s.base v e) taken in
        let version = out_is_version s.base v e checkout.0 h checkout.1 in
        file_or_directory (kind_of (tree s.base) e) (version_has_kind s.base e checkout.0.origin h version) no_directory
