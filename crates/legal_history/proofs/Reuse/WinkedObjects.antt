-- An object that a unit winks in is held at every target of the unit.
use Rattle.std.proofs.Common.{◌≡◌, refl, sym, subst, ℕ, true, Some, ◌∷◌}
use Rattle.cc_names.specs.Formed.{Plain}
use Rattle.cc_names.specs.declared.rows.Deed.{Deed}
use Rattle.cc_names.specs.declared.rows.Deed.TheVariants as deeds
use Rattle.cc_names.specs.declared.units.Unit.{Unit}
use Rattle.base_model.specs.Rows.{Base}
use Rattle.legal_history.specs.Builds.Active.{Build, unit_at, unit_with_first}
use Rattle.base_model.specs.Changes.{targets_of}
use Rattle.base_model.specs.Fits.{is_base}
use Rattle.legal_history.specs.Builds.Reuse.{reusable}
use Rattle.legal_history.specs.Laws.Given.{IsHeld}
use Rattle.legal_history.proofs.Reuse.GivenRows.{wink_held}
use Rattle.legal_history.proofs.Reuse.Matched.{match_targets}
use Rattle.legal_history.proofs.Reuse.Reusables.{reusable_matches}

pub winked_held : (row : Plain) (b : Base) (build : Build) (n : ℕ) (unit : Unit) (id : ℕ) → is_base b ≡ true
    → unit_at build n ≡ Some unit → unit_with_first build (targets_of b id) ≡ Some n → reusable b build n unit ≡ Some id →
    row.deed ≡ deeds.Wink build.view id → IsHeld (row ∷ b) build n id
winked_held row b build n unit id base is place chosen wink =
    let m = reusable_matches b build n unit id base chosen in
    subst (λ (deed : Deed). IsHeld (record { tag = row.tag; moment = row.moment; deed = deed } ∷ b) build n id) (sym wink)
    (wink_held b build n unit row.tag row.moment build.view id refl (sym (match_targets b build n unit id m.matches_unit)) m.lives
    is place)
