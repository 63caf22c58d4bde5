-- A build that is as from nothing so far stays so where a unit keeps the object that it may reuse, or winks it in.
use Rattle.std.proofs.Common.{◌≡◌, refl, ap, sym, subst, ◌∙◌, inl, inr, ℕ, Bool, true, false, ◌==◌, Some, None, List, ◌∷◌}
use Rattle.std.specs.Prelude.{is_some}
use Rattle.cc_names.specs.Formed.{Plain}
use Rattle.cc_names.specs.declared.rows.Deed.{Deed}
use Rattle.cc_names.specs.declared.rows.Deed.TheVariants as deeds
use Rattle.cc_names.specs.declared.rows.Tag.{Tag}
use Rattle.cc_names.specs.declared.steps.UnitEnd.TheVariants.{Kept}
use Rattle.cc_names.specs.declared.units.Unit.{Unit}
use Rattle.cc_names.proofs.Common.{same_inside}
use Rattle.base_model.specs.Rows.{Base, first_rows}
use Rattle.legal_history.specs.Builds.Active.{Build, Came, Started, Concluded, Given, came_to, is_outcome, object_of, unit_at}
use Rattle.base_model.specs.Changes.{live_row}
use Rattle.base_model.specs.Closures.{is_publish_deed}
use Rattle.base_model.specs.Fits.{is_base}
use Rattle.legal_history.specs.Builds.Freshness.{Agrees, HasOutputs, AgreesSoFar, early_from_nothing}
use Rattle.legal_history.specs.Builds.Consistency.{IsReady}
use Rattle.legal_history.specs.Builds.Reuse.{reusable}
use Rattle.legal_history.specs.Builds.Serials.{Made}
use Rattle.legal_history.specs.Stories.States.{State}
use Rattle.legal_history.specs.Stories.Steps.{with_came}
use Rattle.legal_history.specs.Builds.Values.{IsSound}
use Rattle.legal_history.proofs.Builds.FreshSeen.{early_same}
use Rattle.legal_history.proofs.Builds.AgreeStays.{came_so, row_added}
use Rattle.legal_history.proofs.Builds.ConsistentStays.{came_now, keeps_with}
use Rattle.legal_history.proofs.Builds.ReadyUnits.{ready_by}
use Rattle.legal_history.specs.Laws.FromNothing.{IsAsFromNothing, MayTake, MayRun, IsStarted, IsReadyToStart}
use Rattle.legal_history.specs.Laws.Objects.{GivesLive}
use Rattle.legal_history.proofs.Reuse.FromNothing.{run_is_from_nothing}
use Rattle.legal_history.proofs.Reuse.Matched.{match_is_run}
use Rattle.legal_history.proofs.Reuse.Reusables.{reusable_matches}
use Rattle.legal_history.proofs.Reuse.SoundRows.{sound_row}
use Rattle.legal_history.proofs.Reuse.TrueObjects.{live_is_true}

-- a unit that may take an object along a story may run
pub may_take_may_run : (s : State) (tag : Tag) (n : ℕ) (build : Build) (unit : Unit) → MayTake s tag n build unit
    → MayRun s.base build n unit
may_take_may_run s tag n build unit may = elim may [
  | inl o ↦ IsReadyToStart o.waits.waits o.ready o.runs
  | inr r ↦ IsStarted r.started
]

-- what a unit that may run has: no outcome, prerequisites that are over, and nothing that ends it without a run from nothing
pub record Due (b : Base) (build : Build) (n : ℕ) (unit : Unit) : Type 0 where
  pub waits : is_outcome (came_to build n) ≡ false
  pub ready : IsReady build unit
  pub runs : early_from_nothing (first_rows build.rows b) build n unit ≡ None

pub may_run : (b : Base) (build : Build) (n : ℕ) (unit : Unit) → AgreesSoFar b build → unit_at build n ≡ Some unit
    → MayRun b build n unit → Due b build n unit
may_run b build n unit h is (IsStarted started) = record {
  waits = ap is_outcome started;
  ready = h.consistent.ready n unit is (ap is_some started);
  runs = h.runs n unit is started;
}
may_run b build n unit h is (IsReadyToStart waits ready runs) =
    let over = ready_by build unit ready in
    record { waits = waits; ready = over; runs = sym (early_same b build n unit h is over) ∙ runs }

pub as_from_nothing : (b : Base) (build : Build) (n : ℕ) (unit : Unit) (id : ℕ) → is_base b ≡ true → IsSound b → GivesLive b build
    → AgreesSoFar b build → Due b build n unit → reusable b build n unit ≡ Some id →
    IsAsFromNothing b build n unit id
as_from_nothing b build n unit id base sound gives h d chosen =
    let m = reusable_matches b build n unit id base chosen in
    run_is_from_nothing b build n unit id h d.ready d.runs (match_is_run b build n unit id base h.consistent.base sound gives
    (live_is_true b id sound m.lives) m.matches_unit)

-- a unit that may run comes to the object that it may reuse, in a way that agrees where the object has the outputs
taken_agrees : (b : Base) (build : Build) (n : ℕ) (unit : Unit) (id : ℕ) (came : Came)
    → ((outputs : List (List ℕ)) → HasOutputs b unit id outputs → Agrees b unit came (Made outputs))
    → object_of (Some came) ≡ Some id → (came ≡ Started → ⊥) →
    is_base b ≡ true → IsSound b → GivesLive b build → AgreesSoFar b build → unit_at build n ≡ Some unit → MayRun b build n unit
    → reusable b build n unit ≡ Some id → AgreesSoFar b (with_came build (Some n) came)
taken_agrees b build n unit id came agree own over base sound gives h is may chosen =
    let d = may_run b build n unit h is may in
    let r = as_from_nothing b build n unit id base sound gives h d chosen in
    came_so b build n unit came h (record {
      keeps = keeps_with b build n id unit came is d.waits d.ready own r.has.is_object;
      runs = λ started. absurd (over started);
      agrees = λ outcome. subst (Agrees b unit came) (sym r.made) (agree r.outputs r.has);
    })

pub kept_agrees : (b : Base) (build : Build) (n : ℕ) (unit : Unit) (id : ℕ) → is_base b ≡ true → IsSound b → GivesLive b build
    → AgreesSoFar b build → unit_at build n ≡ Some unit → MayRun b build n unit →
    reusable b build n unit ≡ Some id → AgreesSoFar b (with_came build (Some n) (Concluded (Kept id)))
kept_agrees b build n unit id = taken_agrees b build n unit id (Concluded (Kept id)) (λ outputs has. has) refl (λ e. cc)

pub winked_agrees : (row : Plain) (b : Base) (build : Build) (n : ℕ) (unit : Unit) (id : ℕ) → is_base b ≡ true → IsSound b
    → GivesLive b build → AgreesSoFar b build → unit_at build n ≡ Some unit → MayRun b build n unit →
    reusable b build n unit ≡ Some id → row.deed ≡ deeds.Wink build.view id
    → AgreesSoFar (row ∷ b) (with_came build (Some n) (Given id))
winked_agrees row b build n unit id base sound gives h is may chosen wink =
    row_added row b (with_came build (Some n) (Given id)) (taken_agrees b build n unit id (Given id) (λ outputs has. has) refl
    (λ e. cc) base sound gives h is may chosen)

-- a unit comes to something: where that is an object that lives, the objects given live still
came_lives : (b : Base) (build : Build) (n id : ℕ) (came : Came) → object_of (Some came) ≡ Some id
    → is_some (live_row b id) ≡ true → GivesLive b build → GivesLive b (with_came build (Some n) came)
came_lives b build n id came own lives gives = record { lives = λ m other is. by m other (m == n) refl is }
  where
    by : (m other : ℕ) (t : Bool) → (m == n) ≡ t → object_of (came_to (with_came build (Some n) came) m) ≡ Some other
        → is_some (live_row b other) ≡ true
    by m other true e is =
        let same : id ≡ other = same_inside (sym own ∙ sym (ap object_of (came_now build n m came true e)) ∙ is) in
        subst (λ k. is_some (live_row b k) ≡ true) same lives
    by m other false e is = gives.lives m other (sym (ap object_of (came_now build n m came false e)) ∙ is)

pub kept_lives : (b : Base) (build : Build) (n : ℕ) (unit : Unit) (id : ℕ) → is_base b ≡ true → GivesLive b build
    → reusable b build n unit ≡ Some id → GivesLive b (with_came build (Some n) (Concluded (Kept id)))
kept_lives b build n unit id base gives chosen = came_lives b build n id (Concluded (Kept id)) refl
    (reusable_matches b build n unit id base chosen).lives gives

pub winked_lives : (row : Plain) (b : Base) (build : Build) (n : ℕ) (unit : Unit) (id : ℕ) → is_base b ≡ true → GivesLive b build
    → reusable b build n unit ≡ Some id → row.deed ≡ deeds.Wink build.view id →
    GivesLive (row ∷ b) (with_came build (Some n) (Given id))
winked_lives row b build n unit id base gives chosen wink =
    let now : GivesLive b (with_came build (Some n) (Given id)) = came_lives b build n id (Given id) refl
    (reusable_matches b build n unit id base chosen).lives gives in
    subst (λ (deed : Deed). GivesLive (record { tag = row.tag; moment = row.moment; deed = deed } ∷ b)
    (with_came build (Some n) (Given id))) (sym wink) (record { lives = now.lives })

pub winked_sound : (row : Plain) (b : Base) (view : List ℕ) (id : ℕ) → IsSound b → row.deed ≡ deeds.Wink view id
    → IsSound (row ∷ b)
winked_sound row b view id sound wink = sound_row row b sound (λ publish. absurd (let none : is_publish_deed (Some row.deed)
    ≡ false = ap (λ deed. is_publish_deed (Some deed)) wink in cc))
