-- The rows of the commands on views and private files fit.
use Rattle.std.proofs.Common.{◌≡◌, refl, ap, subst, ◌∙◌, ℕ, Bool, true, false, not, Some, None, Result, Ok, Err, List, [], ◌∷◌}
use Rattle.std.proofs.lemmas.List.{reverse-reverse}
use Rattle.std.specs.Bool.{⊤}
use Rattle.std.specs.Prelude.{is_ok, reverse}
use Rattle.cc_names.specs.declared.refusals.Refusal.{Refusal}
use Rattle.cc_names.specs.declared.refusals.SpecError.{SpecError}
use Rattle.cc_names.specs.declared.rows.Deed.TheVariants as deeds
use Rattle.cc_names.specs.declared.rows.TypeKind.{TypeKind}
use Rattle.cc_names.specs.declared.selection.Rule.{Rule}
use Rattle.cc_names.specs.declared.selection.Seen.{Seen}
use Rattle.cc_names.specs.declared.selection.Seen.TheVariants.{Private, Element, Unselected, Nothing}
use Rattle.base_model.specs.ConfigSpecs.Specs.{rules_of}
use Rattle.cc_names.specs.Paths.{path_of_names, names_of}
use Rattle.cc_names.proofs.PathParts.{path_of_names-names_of}
use Rattle.base_model.specs.Views.{private}
use Rattle.base_model.specs.Conditions.{exists}
use Rattle.legal_history.specs.Commands.Decisions.{Decision, Makes, Answers, Begins, Scene}
use Rattle.legal_history.specs.Commands.FileLines.{mkview, mkview_tests, rmview, rmview_tests, setcs, setcs_tests, rm, rm_tests}
use Rattle.base_model.specs.Fits.{fits}
use Rattle.base_model.specs.Seen.{at}
use Rattle.legal_history.specs.Commands.LabelLines.{mktype}
use Rattle.legal_history.specs.Commands.ObjectLines.{rmdo, rmdo_tests}
use Rattle.legal_history.specs.Commands.Tests.{needs_rules, needs_private, needs_free_type}
use Rattle.legal_history.proofs.Decisions.Handed.{IfDecided, row_is}
use Rattle.legal_history.proofs.Decisions.Passed.{Made, where_passes, unless_passes, fits_by}
use Rattle.base_model.proofs.PrivateFiles.{private_at}

-- a decision's row, where it makes one, fits
abbrev pub Fits : Scene → Decision → Type 0
Fits s (Makes deed) = fits s.base deed ≡ true
Fits s (Answers text) = ⊤
Fits s (Begins us) = ⊤

-- whatever row is decided fits
abbrev pub RowFits : Scene → Result Decision Refusal → Type 0
RowFits s decided = IfDecided (Fits s) decided

pub mkview_fits : (s : Scene) (v : List ℕ) → RowFits s (mkview s v)
mkview_fits s v = row_is (Fits s) s (mkview_tests s v) (deeds.Mkview v) by
  where
    by : Made s (mkview_tests s v) (deeds.Mkview v) (deeds.Mkview v) → fits s.base (deeds.Mkview v) ≡ true
    by m = let new : exists s.base v ≡ false = where_passes _ _ m.pass.0 in fits_by s.base (deeds.Mkview v) m.room (ap not new)

pub rmview_fits : (s : Scene) (v : List ℕ) (force : Bool) → RowFits s (rmview s v force)
rmview_fits s v force = row_is (Fits s) s (rmview_tests s v force) (deeds.Rmview v)
    (λ m. fits_by s.base (deeds.Rmview v) m.room (unless_passes _ _ m.pass.0))

were_read : (rules : Result (List Rule) SpecError) → needs_rules rules ≡ None → is_ok rules ≡ true
were_read (Ok rules) e = refl
were_read (Err error) e = absurd (cc)

pub setcs_fits : (s : Scene) (v text : List ℕ) → RowFits s (setcs s v text)
setcs_fits s v text = row_is (Fits s) s (setcs_tests s v text) (deeds.Setcs v text) by
  where
    by : Made s (setcs_tests s v text) (deeds.Setcs v text) (deeds.Setcs v text) → fits s.base (deeds.Setcs v text) ≡ true
    by m =
        let there : exists s.base v ≡ true = unless_passes _ _ m.pass.0 in
        let ok : is_ok (rules_of text) ≡ true = were_read _ m.pass.1.1.0 in
        fits_by s.base (deeds.Setcs v text) m.room (rw (there, ok) refl)

was_private : (path : List ℕ) (seen : Seen) → needs_private path seen ≡ None → (row : ℕ) × (seen ≡ Private row)
was_private path (Private row) e = (row, refl)
was_private path (Element e picked) h = absurd (cc)
was_private path (Unselected e) h = absurd (cc)
was_private path Nothing h = absurd (cc)

pub rm_fits : (s : Scene) (v path : List ℕ) → RowFits s (rm s v path)
rm_fits s v path = row_is (Fits s) s (rm_tests s v path) (deeds.Rm v path) by
  where
    back : path_of_names (reverse (reverse (names_of path))) ≡ path
    back = ap path_of_names (reverse-reverse (names_of path)) ∙ path_of_names-names_of path

    by : Made s (rm_tests s v path) (deeds.Rm v path) (deeds.Rm v path) → fits s.base (deeds.Rm v path) ≡ true
    by m =
        let seen = was_private path (at s.base v path) m.pass.1.1.0 in
        let there : private s.base v path ≡ Some seen.0 = subst (λ p. private s.base v p ≡ Some seen.0) back
        (private_at s.base v (reverse (names_of path)) seen.0 seen.1) in
        fits_by s.base (deeds.Rm v path) m.room (rw there refl)

pub mktype_fits : (s : Scene) (kind : TypeKind) (name : List ℕ) → RowFits s (mktype s kind name)
mktype_fits s kind name = row_is (Fits s) s (needs_free_type s.base name ∷ []) (deeds.Mktype kind name)
    (λ m. fits_by s.base (deeds.Mktype kind name) m.room (ap not (where_passes _ _ m.pass.0)))

pub rmdo_fits : (s : Scene) (v path : List ℕ) → RowFits s (rmdo s v path)
rmdo_fits s v path = row_is (Fits s) s (rmdo_tests s v path) (deeds.Drop v path)
    (λ m. fits_by s.base (deeds.Drop v path) m.room (unless_passes _ _ m.pass.1.1.0))
