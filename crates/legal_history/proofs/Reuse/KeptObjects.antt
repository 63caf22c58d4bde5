-- An object that a view holds at every target of a unit is held at each of them.
use Rattle.std.proofs.Common.{◌≡◌, refl, ap, subst, ◌∙◌, ℕ, Bool, true, false, ◌||◌, Option, Some, None, List, [], ◌∷◌}
use Rattle.std.proofs.lemmas.Slice.Eq.{bytes_eq-Decides}
use Rattle.std.specs.Prelude.{bytes_eq}
use Rattle.std.proofs.lemmas.Bool.{or_left}
use Rattle.cc_names.specs.References.{held_at}
use Rattle.cc_names.specs.Versions.{is_number}
use Rattle.cc_names.specs.declared.units.Unit.{Unit}
use Rattle.cc_names.proofs.Common.{bytes_equal_themselves, and_first, and_second, number_found}
use Rattle.base_model.specs.Rows.{Base}
use Rattle.legal_history.specs.Builds.Active.{Build, unit_at}
use Rattle.base_model.specs.Changes.{objects_held}
use Rattle.base_model.specs.Closures.{is_path_among}
use Rattle.base_model.specs.Fits.{is_base}
use Rattle.legal_history.specs.Builds.Consistency.{IsObjectOf}
use Rattle.base_model.specs.Objects.{held_at_all, held_at_each, held_at_others}
use Rattle.legal_history.specs.Builds.Reuse.{reusable}
use Rattle.legal_history.specs.Laws.Given.{IsHeld}
use Rattle.legal_history.proofs.Reuse.Matched.{match_targets}
use Rattle.legal_history.proofs.Reuse.Reusables.{held_lives, only_one, reusable_matches}
use Rattle.legal_history.proofs.Reuse.SoundRows.{live_below}

-- an object that a unit may reuse is one of the unit
pub chosen_object : (b : Base) (build : Build) (n : ℕ) (unit : Unit) (id : ℕ) → is_base b ≡ true
    → reusable b build n unit ≡ Some id → IsObjectOf b unit id
chosen_object b build n unit id base h =
    let m = reusable_matches b build n unit id base h in
    record { below = live_below b id m.lives; targets = match_targets b build n unit id m.matches_unit }

-- at the first of some paths, or at each of the others
among_others : (b : Base) (v path target : List ℕ) (targets : List (List ℕ)) (id : ℕ)
    → held_at (objects_held b) v target ≡ Some id → (is_path_among path targets ≡ true
    → held_at (objects_held b) v path ≡ Some id) → is_path_among path (target ∷ targets) ≡ true →
    held_at (objects_held b) v path ≡ Some id
among_others b v path target targets id first rest among = by (bytes_eq path target) refl among
  where
    by : (t : Bool) → bytes_eq path target ≡ t → (t || is_path_among path targets) ≡ true
        → held_at (objects_held b) v path ≡ Some id
    by true e among = let same : path ≡ target = (bytes_eq-Decides path target).0 e in ap (held_at (objects_held b) v) same
        ∙ first
    by false e among = rest among

held_each : (b : Base) (v : List ℕ) (targets : List (List ℕ)) (id : ℕ) (path : List ℕ) → held_at_each b v targets id ≡ true
    → is_path_among path targets ≡ true → held_at (objects_held b) v path ≡ Some id
held_each b v [] id path h among = absurd (cc)
held_each b v (target ∷ targets) id path h among =
    among_others b v path target targets id (number_found id (held_at (objects_held b) v target)
    (and_first (is_number id (held_at (objects_held b) v target)) (held_at_each b v targets id) h))
    (held_each b v targets id path (and_second (is_number id (held_at (objects_held b) v target)) (held_at_each b v targets id)
    h)) among

held_all : (b : Base) (v : List ℕ) (targets : List (List ℕ)) (id : ℕ) (path : List ℕ) → held_at_all b v targets ≡ Some id
    → is_path_among path targets ≡ true → held_at (objects_held b) v path ≡ Some id
held_all b v [] id path h among = absurd (cc)
held_all b v (target ∷ targets) id path h among = by (held_at (objects_held b) v target) refl h
  where
    by : (o : Option ℕ) → held_at (objects_held b) v target ≡ o → held_at_others b v targets o ≡ Some id
        → held_at (objects_held b) v path ≡ Some id
    by None is h = absurd (cc)
    by (Some k) is h =
        let one = only_one (held_at_each b v targets k) k id h in
        among_others b v path target targets id (is ∙ ap Some one.1) (held_each b v targets id path
        (subst (λ m. held_at_each b v targets m ≡ true) one.1 one.0)) among

some_target : (b : Base) (v : List ℕ) (targets : List (List ℕ)) (id : ℕ) → held_at_all b v targets ≡ Some id → (target : List ℕ)
    × (is_path_among target targets ≡ true)
some_target b v [] id h = absurd (cc)
some_target b v (target ∷ targets) id h = (
  target,
  or_left (bytes_eq target target) (is_path_among target targets)
      (bytes_equal_themselves target),
)

pub kept_held : (b : Base) (build : Build) (n : ℕ) (unit : Unit) (id : ℕ) → is_base b ≡ true → unit_at build n ≡ Some unit
    → held_at_all b build.view unit.targets ≡ Some id → IsHeld b build n id
kept_held b build n unit id base is holds =
    let first = some_target b build.view unit.targets id holds in
    record {
      unit = unit;
      is_unit = is;
      lives = held_lives b build.view unit.targets id base holds;
      target = first.0;
      is_target = first.1;
      holds = λ path made. held_all b build.view unit.targets id path holds made;
    }
