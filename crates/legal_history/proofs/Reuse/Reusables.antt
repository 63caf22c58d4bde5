-- What a unit may reuse is live, and its record matches.
use Rattle.std.proofs.Common.{◌≡◌, refl, ap, subst, ◌∙◌, ℕ, Bool, true, false, ◌&&◌, Option, Some, None, List, [], ◌∷◌}
use Rattle.std.specs.Prelude.{is_some, nat_lt}
use Rattle.cc_names.specs.References.{held_at}
use Rattle.cc_names.specs.declared.units.Unit.{Unit}
use Rattle.cc_names.proofs.Common.{and_first, and_second}
use Rattle.base_model.specs.Rows.{Base, size, first_rows, only_where}
use Rattle.legal_history.specs.Builds.Active.{Build}
use Rattle.base_model.specs.Changes.{objects_held, live_row}
use Rattle.base_model.specs.Fits.{is_base}
use Rattle.legal_history.specs.Builds.Reuse.{matches, if_matches, newest_match, by_options, reusable}
use Rattle.base_model.specs.Objects.{held_at_each, held_at_others, held_at_all}
use Rattle.base_model.proofs.Owned.{rows_below}
use Rattle.base_model.proofs.HeldObjects.{held_is_live}

-- an object that is live and whose record matches the unit
pub record LiveMatch (b : Base) (build : Build) (n : ℕ) (unit : Unit) (id : ℕ) : Type 0 where
  pub lives : is_some (live_row b id) ≡ true
  pub matches_unit : matches b build n unit id ≡ true

pub only_one : (t : Bool) (k id : ℕ) → only_where t (Some k) ≡ Some id → (t ≡ true) × (k ≡ id)
only_one true k id h = (refl, cc)
only_one false k id h = absurd (cc)

pub held_lives : (b : Base) (v : List ℕ) (targets : List (List ℕ)) (id : ℕ) → is_base b ≡ true → held_at_all b v targets ≡ Some id
    → is_some (live_row b id) ≡ true
held_lives b v [] id base h = absurd (cc)
held_lives b v (target ∷ targets) id base h = by (held_at (objects_held b) v target) refl h
  where
    by : (o : Option ℕ) → held_at (objects_held b) v target ≡ o → held_at_others b v targets o ≡ Some id
        → is_some (live_row b id) ≡ true
    by None is h = absurd (cc)
    by (Some k) is h = let one = only_one (held_at_each b v targets k) k id h in
        held_is_live b v target id base (is ∙ ap Some one.1)

own_match : (b : Base) (build : Build) (n : ℕ) (unit : Unit) (id : ℕ) → is_base b ≡ true
    → if_matches b build n unit (held_at_all b build.view unit.targets) ≡ Some id → LiveMatch b build n unit id
own_match b build n unit id base h = by (held_at_all b build.view unit.targets) refl h
  where
    by : (o : Option ℕ) → held_at_all b build.view unit.targets ≡ o → if_matches b build n unit o ≡ Some id
        → LiveMatch b build n unit id
    by None is h = absurd (cc)
    by (Some k) is h =
        let one = only_one (matches b build n unit k) k id h in
        record {
          lives = held_lives b build.view unit.targets id base (is ∙ ap Some one.1);
          matches_unit = subst (λ k. matches b build n unit k ≡ true) one.1 one.0;
        }

newest_matches : (b : Base) (build : Build) (n : ℕ) (unit : Unit) (rows : Base) (id : ℕ)
    → newest_match b build n unit rows ≡ Some id → LiveMatch b build n unit id
newest_matches b build n unit [] id h = absurd (cc)
newest_matches b build n unit (row ∷ older) id h = by (is_some (live_row b (size older)) && matches b build n unit (size older))
    refl h (newest_matches b build n unit older id)
  where
    by : (t : Bool) → (is_some (live_row b (size older)) && matches b build n unit (size older)) ≡ t →
        elim t as (λ x. Option ℕ) [ true ↦ Some (size older) | false ↦ newest_match b build n unit older ] ≡ Some id
        → (newest_match b build n unit older ≡ Some id → LiveMatch b build n unit id) → LiveMatch b build n unit id
    by true test h rest =
        let number : size older ≡ id = cc in
        subst (LiveMatch b build n unit) number (record {
          lives = and_first (is_some (live_row b (size older))) (matches b build n unit (size older)) test;
          matches_unit = and_second (is_some (live_row b (size older))) (matches b build n unit (size older)) test;
        })
    by false test h rest = rest h

pub reusable_matches : (b : Base) (build : Build) (n : ℕ) (unit : Unit) (id : ℕ) → is_base b ≡ true
    → reusable b build n unit ≡ Some id → LiveMatch b build n unit id
reusable_matches b build n unit id base h =
    by build.own_only build.rebuild (if_matches b build n unit (held_at_all b build.view unit.targets))
    (newest_match b build n unit b)
    (own_match b build n unit id base) (newest_matches b build n unit b id) h
  where
    by : (own_only rebuild : Bool) (own newest : Option ℕ) → (own ≡ Some id → LiveMatch b build n unit id)
        → (newest ≡ Some id → LiveMatch b build n unit id) →
        by_options own_only rebuild own newest ≡ Some id → LiveMatch b build n unit id
    by true true own newest of_own of_newest h = absurd (cc)
    by false true own newest of_own of_newest h = absurd (cc)
    by true false own newest of_own of_newest h = of_own h
    by false false None newest of_own of_newest h = of_newest h
    by false false (Some k) newest of_own of_newest h = of_own h

-- the first rows of a base are a base
pub first_are_base : (b : Base) (t : ℕ) → is_base b ≡ true → is_base (first_rows t b) ≡ true
first_are_base [] t h = refl
first_are_base (row ∷ older) t h = by (nat_lt (size older) t) (first_are_base older t (rows_below row older h))
  where
    by : (x : Bool) → is_base (first_rows t older) ≡ true → is_base (elim x as (λ x. Base) [
      | true ↦ row ∷ older
      | false ↦
          first_rows t older
    ]) ≡ true
    by true rest = h
    by false rest = rest
