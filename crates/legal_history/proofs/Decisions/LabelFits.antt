-- The rows of labels and arrows fit.
use Rattle.std.proofs.Common.{◌≡◌, refl, ℕ, Bool, true, false, ◌==◌, None, List, [], ◌∷◌, arith}
use Rattle.std.specs.Prelude.{is_none}
use Rattle.std.proofs.lemmas.Bool.Decides.{nat_tests}
use Rattle.cc_names.specs.declared.commands.VersionName.{VersionName}
use Rattle.cc_names.specs.declared.selection.Picked.{Picked}
use Rattle.cc_names.specs.declared.refusals.Refusal.TheVariants as refusals
use Rattle.cc_names.specs.declared.rows.Deed.TheVariants as deeds
use Rattle.cc_names.specs.declared.selection.Selector.TheVariants as selectors
use Rattle.base_model.specs.Rows.{Base}
use Rattle.base_model.specs.Closures.{is_version_of}
use Rattle.base_model.specs.Conditions.{is_label_type, arrow_row}
use Rattle.legal_history.specs.Commands.Decisions.{Scene}
use Rattle.legal_history.specs.Commands.Found.{for_element, for_selected}
use Rattle.base_model.specs.Fits.{is_base}
use Rattle.base_model.specs.Seen.{at}
use Rattle.legal_history.specs.Commands.Tests.{needs_view}
use Rattle.base_model.specs.Views.{out}
use Rattle.legal_history.proofs.Decisions.FileFits.{Fits, RowFits}
use Rattle.legal_history.proofs.Decisions.Handed.{past_is, element_is, row_is, selected_is, version_is}
use Rattle.legal_history.proofs.Decisions.Passed.{unless_passes, fits_by, where_passes}
use Rattle.legal_history.specs.Commands.LabelLines.{mklabel, mklabel_of, mklabel_tests, needs_version_picked, mkarrow}
use Rattle.legal_history.specs.Commands.LabelLines.{mkarrow_of, mkarrow_from, mkarrow_tests, version_named, rmlabel, rmlabel_of}
use Rattle.legal_history.specs.Commands.LabelLines.{rmlabel_tests}
use Rattle.base_model.proofs.Makings.{making_is_out}
use Rattle.base_model.proofs.Picks.{IsPick, found_version}
use Rattle.legal_history.proofs.Decisions.CheckoutFits.{was_not_out, picks_at, none_mapped, Picks}

-- the same where only a picked checkout is asked not to be
picked_no_checkout : (b : Base) (v : List ℕ) (e : ℕ) (picked : Picked) → is_base b ≡ true → IsPick b v e picked
    → needs_version_picked picked.out (out b v e) ≡ None → is_version_of b e picked.row ≡ true
picked_no_checkout b v e picked base pick h = by picked.out refl h
  where
    by : (own : Bool) → picked.out ≡ own → needs_version_picked own (out b v e) ≡ None → is_version_of b e picked.row ≡ true
    by true is h = absurd (let taken = making_is_out b v e picked.row base (pick.own is) in
        let idle = was_not_out (out b v e) h in cc)
    by false is h = pick.version is

pub mklabel_fits : (s : Scene) (v : List ℕ) (replace : Bool) (label path : List ℕ) → is_base s.base ≡ true
    → RowFits s (mklabel s v replace label path)
mklabel_fits s v replace label path base =
    past_is (Fits s) (needs_view s.base v ∷ []) (for_selected path (at s.base v path) (mklabel_of s v replace label))
    (λ before. selected_is (Fits s) path (at s.base v path) (mklabel_of s v replace label)
    (λ e picked is. by e picked (picks_at s.base v path e picked base is).pick))
  where
    by : (e : ℕ) (picked : Picked) → IsPick s.base v e picked → RowFits s (mklabel_of s v replace label e picked)
    by e picked pick =
        let deed = deeds.Label label e picked.row in
        row_is (Fits s) s (mklabel_tests s v replace label e picked) deed (λ m.
        let type : is_label_type s.base label ≡ true = unless_passes _ _ m.pass.0 in
        let version = picked_no_checkout s.base v e picked base pick m.pass.1.0 in
        fits_by s.base deed m.room (rw (type, version) refl))

pub rmlabel_fits : (s : Scene) (v label path : List ℕ) → RowFits s (rmlabel s v label path)
rmlabel_fits s v label path =
    past_is (Fits s) (needs_view s.base v ∷ []) (for_element path (at s.base v path) (rmlabel_of s label path))
    (λ before. element_is (Fits s) path (at s.base v path) (rmlabel_of s label path) of_element)
  where
    of_element : (e : ℕ) → RowFits s (rmlabel_of s label path e)
    of_element e = row_is (Fits s) s (rmlabel_tests s label path e) (deeds.Unlabel label e)
        (λ m. fits_by s.base (deeds.Unlabel label e) m.room (unless_passes _ _ m.pass.1.0))

apart_too : (m n : ℕ) → (m == n) ≡ false → (n == m) ≡ false
apart_too m n h = grind (arith, nat_tests)

-- an arrow's own tests, from a version of the element
arrow_made : (s : Scene) (v : List ℕ) (e : ℕ) (picked : Picked) (tail : ℕ) → is_base s.base ≡ true → IsPick s.base v e picked
    → is_version_of s.base e tail ≡ true →
    RowFits s (mkarrow_from s v e picked tail)
arrow_made s v e picked tail base pick from =
    let head = picked.row in
    row_is (Fits s) s (mkarrow_tests s v e picked tail) (deeds.Arrow e tail head) (λ m.
    let to : is_version_of s.base e head ≡ true = picked_no_checkout s.base v e picked base pick m.pass.0 in
    let differ : (tail == head) ≡ false = apart_too head tail (where_passes _ _ m.pass.1.0) in
    let new : is_none (arrow_row s.base e tail head) ≡ true = none_mapped refusals.ArrowExists _ m.pass.1.1.0 in
    fits_by s.base (deeds.Arrow e tail head) m.room (rw (from, to, differ, new) refl))

pub mkarrow_fits : (s : Scene) (v path : List ℕ) (name : VersionName) → is_base s.base ≡ true → RowFits s (mkarrow s v path name)
mkarrow_fits s v path name base =
    past_is (Fits s) (needs_view s.base v ∷ []) (for_selected path (at s.base v path) (mkarrow_of s v path name))
    (λ before. selected_is (Fits s) path (at s.base v path) (mkarrow_of s v path name)
    (λ e picked is. by e picked (picks_at s.base v path e picked base is)))
  where
    by : (e : ℕ) (picked : Picked) → Picks s.base v e picked → RowFits s (mkarrow_of s v path name e picked)
    by e picked picks =
        version_is (Fits s) path (version_named s.base e name) (mkarrow_from s v e picked) (λ tail found.
        arrow_made s v e picked tail base picks.pick (found_version s.base v e None (selectors.Numbered name.branches name.number)
        tail base picks.element refl found))
