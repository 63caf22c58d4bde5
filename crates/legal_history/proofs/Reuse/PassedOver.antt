-- Where a unit may reuse nothing, no live object's record matches it.
use Rattle.std.proofs.Common.{◌≡◌, refl, ap, sym, subst, ◌∙◌, ℕ, suc, ◌<◌, Bool, true, false, ◌&&◌, ◌==◌, Option, Some, None, []}
use Rattle.std.proofs.Common.{◌∷◌, arith}
use Rattle.std.proofs.lemmas.Bool.Decides.{nat_tests}
use Rattle.std.specs.Option.{option_or}
use Rattle.std.specs.Prelude.{is_some}
use Rattle.cc_names.specs.declared.units.Unit.{Unit}
use Rattle.cc_names.proofs.Common.{same_number}
use Rattle.base_model.specs.Rows.{Base, size}
use Rattle.legal_history.specs.Builds.Active.{Build}
use Rattle.base_model.specs.Changes.{live_row}
use Rattle.legal_history.specs.Builds.Reuse.{matches, if_matches, newest_match, by_options, reusable}
use Rattle.base_model.specs.Objects.{held_at_all}
use Rattle.legal_history.proofs.Reuse.SoundRows.{live_below, live_above}

lower_one : (older : Base) (id : ℕ) → (size older == id) ≡ false → id < suc (size older) → id < size older
lower_one older id e low = grind (arith, nat_tests)

-- among rows in which no match is found, none of them matches
none_matches : (b : Base) (build : Build) (n : ℕ) (unit : Unit) (rows : Base) (id : ℕ) → newest_match b build n unit rows ≡ None
    → 0 < id → id < size rows → (is_some (live_row b id) && matches b build n unit id) ≡ false
none_matches b build n unit [] id h above low = absurd (omega arith)
none_matches b build n unit (row ∷ older) id h above low =
    by (is_some (live_row b (size older)) && matches b build n unit (size older)) refl h
    (λ rest lower. none_matches b build n unit older id rest above lower)
  where
    by_number : (t : Bool) → (size older == id) ≡ t → (is_some (live_row b (size older)) && matches b build n unit (size older))
        ≡ false → (id < size older → (is_some (live_row b id) && matches b build n unit id) ≡ false) →
        (is_some (live_row b id) && matches b build n unit id) ≡ false
    by_number true e is rest = subst (λ k. (is_some (live_row b k) && matches b build n unit k) ≡ false)
        (same_number (size older) id e) is
    by_number false e is rest = rest (lower_one older id e low)

    by : (t : Bool) → (is_some (live_row b (size older)) && matches b build n unit (size older)) ≡ t
        → elim t as (λ x. Option ℕ) [ true ↦ Some (size older) | false ↦ newest_match b build n unit older ] ≡ None →
        (newest_match b build n unit older ≡ None → id < size older → (is_some (live_row b id) && matches b build n unit id)
        ≡ false) → (is_some (live_row b id) && matches b build n unit id) ≡ false
    by true is h rest = absurd (cc)
    by false is h rest = by_number (size older == id) refl is (rest h)

none_newest : (own newest : Option ℕ) → option_or own newest ≡ None → newest ≡ None
none_newest None newest h = h
none_newest (Some id) newest h = absurd (cc)

pub nothing_passed_over : (b : Base) (build : Build) (n : ℕ) (unit : Unit) (id : ℕ) → build.own_only ≡ false
    → build.rebuild ≡ false → reusable b build n unit ≡ None → is_some (live_row b id) ≡ true → matches b build n unit id ≡ false
nothing_passed_over b build n unit id own_only rebuild none lives =
    let own = if_matches b build n unit (held_at_all b build.view unit.targets) in
    let plain : by_options false false own (newest_match b build n unit b) ≡ None =
    (λ i. by_options (sym own_only i) (sym rebuild i) own (newest_match b build n unit b)) ∙ none in
    let newest = none_newest own (newest_match b build n unit b) plain in
    ap (λ t. t && matches b build n unit id) (sym lives) ∙ none_matches b build n unit b id newest (live_above b id lives)
    (live_below b id lives)
