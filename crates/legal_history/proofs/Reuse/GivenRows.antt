-- An object that a build was given stays live and held when a row is added that leaves the paths of its unit.
use Rattle.std.proofs.Common.{◌≡◌, refl, ap, ap₂, sym, subst, ◌∙◌, ℕ, Bool, true, false, cond, ◌&&◌, ◌==◌, Option, Some, None}
use Rattle.std.proofs.Common.{List, [], ◌∷◌}
use Rattle.std.proofs.lemmas.Slice.Eq.{bytes_eq-Decides}
use Rattle.std.specs.Bool.{⊤}
use Rattle.std.specs.Prelude.{is_some, bytes_eq}
use Rattle.std.proofs.lemmas.Bool.{or_left}
use Rattle.cc_names.specs.Formed.{Plain}
use Rattle.cc_names.specs.Last.{Sets, only_if, value_after}
use Rattle.cc_names.specs.References.{held_at}
use Rattle.cc_names.specs.declared.rows.Deed.{Deed}
use Rattle.cc_names.specs.declared.rows.Deed.TheVariants as deeds
use Rattle.cc_names.specs.declared.rows.ReadOf.{ReadOf}
use Rattle.cc_names.specs.declared.rows.Tag.{Tag}
use Rattle.cc_names.specs.declared.units.Unit.{Unit}
use Rattle.cc_names.proofs.Common.{bytes_equal_themselves, same_number}
use Rattle.base_model.specs.Rows.{Base, size}
use Rattle.legal_history.specs.Builds.Active.{Active, Build, Came, Started, Concluded, Given, build_of, building, came_to}
use Rattle.legal_history.specs.Builds.Active.{is_outcome, object_of, unit_at, unit_with_first}
use Rattle.base_model.specs.Changes.{objects_held, live_row, targets_of}
use Rattle.base_model.specs.Closures.{is_path_among}
use Rattle.base_model.specs.Fits.{deed_fits}
use Rattle.legal_history.specs.Builds.Serials.{makes}
use Rattle.legal_history.specs.Stories.Steps.{with_came}
use Rattle.base_model.proofs.Owned.{same_is_same}
use Rattle.legal_history.proofs.Builds.ConsistentStays.{came_now}
use Rattle.legal_history.proofs.Builds.AllBuilds.{builds_there}
use Rattle.base_model.proofs.HeldObjects.{is_held_there, held_lives_on}
use Rattle.base_model.proofs.HeldPaths.{Leaves, held_after_won, path_stays}
use Rattle.legal_history.specs.Laws.Given.{IsHeld, HoldsGiven}
use Rattle.legal_history.proofs.Decisions.DecidedSays.{Idle}

pub given_stays : (row : Plain) (b : Base) (build : Build) (n id : ℕ) → deed_fits b row.deed ≡ true →
    ((unit : Unit) (path : List ℕ) → unit_at build n ≡ Some unit → makes path unit ≡ true → Leaves b build.view path row.deed)
    → IsHeld b build n id → IsHeld (row ∷ b) build n id
given_stays row b build n id fit leaves h = record {
  unit = h.unit;
  is_unit = h.is_unit;
  lives = held_lives_on b row.deed id fit (is_held_there b build.view h.target id (h.holds h.target h.is_target)) h.lives;
  target = h.target;
  is_target = h.is_target;
  holds = λ path made. path_stays b build.view path row.deed (leaves h.unit path h.is_unit made) ∙ h.holds path made;
}

-- a deed that no build makes
abbrev pub IsOfCommand : Deed → Type 0
IsOfCommand (deeds.Publish v targets script entries outputs) = ⊥
IsOfCommand (deeds.Wink v id) = ⊥
IsOfCommand deed = ⊤

-- a view in which a build is active is another than one in which nothing builds
other_view : (active : Active) (lane : ℕ) (build : Build) (w : List ℕ) → build_of active lane ≡ Some build
    → building active w ≡ None → bytes_eq build.view w ≡ false
other_view active lane build w is idle = by (bytes_eq build.view w) refl
  where
    by : (t : Bool) → bytes_eq build.view w ≡ t → bytes_eq build.view w ≡ false
    by false e = e
    by true e = let same : build.view ≡ w = (bytes_eq-Decides build.view w).0 e in
        absurd (builds_there active lane build is (ap (building active) same ∙ idle))

pub idle_leaves : (b : Base) (active : Active) (lane : ℕ) (build : Build) (path : List ℕ) (deed : Deed)
    → build_of active lane ≡ Some build → IsOfCommand deed → Idle active deed → Leaves b build.view path deed
idle_leaves b active lane build path (deeds.Rmview w) is plain idle = other_view active lane build w is idle
idle_leaves b active lane build path (deeds.Drop w q) is plain idle = other_view active lane build w is idle
idle_leaves b active lane build path (deeds.Publish v targets script entries outputs) is plain idle = absurd plain
idle_leaves b active lane build path (deeds.Wink v id) is plain idle = absurd plain
idle_leaves b active lane build path deed is plain idle = tt

pub given_by_command : (row : Plain) (b : Base) (active : Active) (lane : ℕ) (build : Build) → deed_fits b row.deed ≡ true
    → IsOfCommand row.deed → Idle active row.deed → build_of active lane ≡ Some build →
    HoldsGiven b build → HoldsGiven (row ∷ b) build
given_by_command row b active lane build fit plain idle is h = record {
  given = λ n id own. given_stays row b build n id fit (λ unit path at made. idle_leaves b active lane build path row.deed is
      plain idle) (h.given n id own);
}

held_after_came : (b : Base) (build : Build) (n m id : ℕ) (came : Came) → IsHeld b build m id
    → IsHeld b (with_came build (Some n) came) m id
held_after_came b build n m id came h = record {
  unit = h.unit;
  is_unit = h.is_unit;
  lives = h.lives;
  target = h.target;
  is_target = h.is_target;
  holds = h.holds;
}

-- a unit comes to something: where that is an object, it is held
pub came_given : (b : Base) (build : Build) (n : ℕ) (came : Came) → ((id : ℕ) → object_of (Some came) ≡ Some id
    → IsHeld b build n id) → HoldsGiven b build → HoldsGiven b (with_came build (Some n) came)
came_given b build n came own h = record { given = λ m id is. by m id (m == n) refl is }
  where
    by : (m id : ℕ) (t : Bool) → (m == n) ≡ t → object_of (came_to (with_came build (Some n) came) m) ≡ Some id
        → IsHeld b (with_came build (Some n) came) m id
    by m id true e is =
        let object : object_of (Some came) ≡ Some id = sym (ap object_of (came_now build n m came true e)) ∙ is in
        held_after_came b build n m id came (subst (λ k. IsHeld b build k id) (sym (same_number m n e)) (own id object))
    by m id false e is =
        let object : object_of (came_to build m) ≡ Some id = sym (ap object_of (came_now build n m came false e)) ∙ is in
        held_after_came b build n m id came (h.given m id object)

pub came_without : (b : Base) (build : Build) (o : Option ℕ) (came : Came) → object_of (Some came) ≡ None → HoldsGiven b build
    → HoldsGiven b (with_came build o came)
came_without b build None came none h = h
came_without b build (Some n) came none h = came_given b build n came (λ id is. absurd (let clash : None ≡ Some id = sym none
    ∙ is in cc)) h

-- a unit with an object has its outcome
pub object_is_outcome : (o : Option Came) (id : ℕ) → object_of o ≡ Some id → is_outcome o ≡ true
object_is_outcome None id h = absurd (cc)
object_is_outcome (Some (Given k)) id h = refl
object_is_outcome (Some (Concluded end)) id h = refl
object_is_outcome (Some Started) id h = absurd (cc)

-- a target of a unit that is found by its targets
pub target_there : (build : Build) (targets : List (List ℕ)) (n : ℕ) → unit_with_first build targets ≡ Some n → (target : List ℕ)
    × (is_path_among target targets ≡ true)
target_there build [] n h = absurd (cc)
target_there build (target ∷ targets) n h = (
  target,
  or_left (bytes_eq target target) (is_path_among target targets)
      (bytes_equal_themselves target),
)

-- A unit of a build over a base.
module _ (b : Base) (build : Build) (n : ℕ) (unit : Unit) where
  -- the object that a unit's publish makes is held at each target of the unit
  pub publish_held : (tag : Tag) (moment : ℕ) (view : List ℕ) (targets : List (List ℕ)) (script : List ℕ) (entries : List ReadOf)
      (outputs : List (List ℕ)) →
      build.view ≡ view → unit.targets ≡ targets → unit_at build n ≡ Some unit → unit_with_first build targets ≡ Some n →
      IsHeld (record { tag = tag; moment = moment; deed = deeds.Publish view targets script entries outputs } ∷ b) build n (size b)
  publish_held tag moment view targets script entries outputs same_view same_targets is place =
      let first = target_there build targets n place in
      record {
        unit = unit;
        is_unit = is;
        lives = ap (λ t. is_some (value_after (only_if t (Sets (size b))) (live_row b (size b)))) (same_is_same (size b));
        target = first.0;
        is_target = ap (is_path_among first.0) same_targets ∙ first.1;
        holds = λ path made.
            held_after_won build.view path view (size b) targets (objects_held b)
            ∙ ap₂ (λ s t. cond (s && t) (Some (size b)) (held_at (objects_held b) build.view path))
            ((bytes_eq-Decides build.view view).1 same_view) (ap (is_path_among path) (sym same_targets) ∙ made);
      }

  -- the object that a unit winks in is held at each target of the unit
  pub wink_held : (tag : Tag) (moment : ℕ) (view : List ℕ) (id : ℕ)
      → build.view ≡ view → unit.targets ≡ targets_of b id → is_some (live_row b id) ≡ true → unit_at build n ≡ Some unit →
      unit_with_first build (targets_of b id) ≡ Some n → IsHeld (record { tag = tag; moment = moment; deed = deeds.Wink view id }
      ∷ b) build n id
  wink_held tag moment view id same_view same_targets lives is place =
      let first = target_there build (targets_of b id) n place in
      record {
        unit = unit;
        is_unit = is;
        lives = lives;
        target = first.0;
        is_target = ap (is_path_among first.0) same_targets ∙ first.1;
        holds = λ path made.
            held_after_won build.view path view id (targets_of b id) (objects_held b)
            ∙ ap₂ (λ s t. cond (s && t) (Some id) (held_at (objects_held b) build.view path))
            ((bytes_eq-Decides build.view view).1 same_view) (ap (is_path_among path) (sym same_targets) ∙ made);
      }
