-- What a build's view holds at a target of a unit stays until the unit has its outcome.
use Rattle.std.proofs.Common.{◌≡◌, refl, ap, sym, ◌∙◌, ℕ, true, false, ◌&&◌, Option, Some, Ok, List, [], ◌∷◌}
use Rattle.std.specs.Prelude.{bytes_eq}
use Rattle.cc_names.specs.References.{held_at}
use Rattle.cc_names.specs.declared.rows.Deed.{Deed}
use Rattle.cc_names.specs.declared.rows.Deed.TheVariants as deeds
use Rattle.cc_names.specs.declared.rows.Tag.{Tag}
use Rattle.cc_names.specs.declared.steps.StoryStep.{StoryStep}
use Rattle.cc_names.specs.declared.steps.StoryStep.TheVariants as story_steps
use Rattle.cc_names.specs.declared.units.Unit.{Unit}
use Rattle.cc_names.proofs.Common.{same_inside}
use Rattle.base_model.specs.Rows.{size}
use Rattle.legal_history.specs.Builds.Active.{Active, Build, Came, Given, build_of, came_to, is_outcome, unit_at}
use Rattle.legal_history.specs.Builds.Active.{unit_with_first}
use Rattle.base_model.specs.Changes.{objects_held, targets_of}
use Rattle.base_model.specs.Closures.{is_path_among}
use Rattle.legal_history.specs.Commands.Decisions.{Makes}
use Rattle.legal_history.specs.Builds.Serials.{makes}
use Rattle.legal_history.specs.Stories.States.{State, scene, decision_for}
use Rattle.legal_history.specs.Stories.Steps.{after, active_after, with_outcome, noted_in, with_came, state_of}
use Rattle.legal_history.specs.Stories.Committing.{MakesRow}
use Rattle.legal_history.specs.Stories.Lawful.{Lawful, Legal}
use Rattle.base_model.proofs.Tables.{find_put_same}
use Rattle.legal_history.proofs.Stories.DecidedSteps.{decided_of}
use Rattle.legal_history.proofs.Stories.ConsistentStories.{IsConsistentState, story_is_consistent}
use Rattle.base_model.proofs.HeldPaths.{Leaves, path_stays}
use Rattle.legal_history.proofs.Decisions.DecidedIdle.{decided_idle}
use Rattle.legal_history.proofs.Reuse.GivenRows.{IsOfCommand, idle_leaves}
use Rattle.legal_history.proofs.Reuse.GivenCommits.{AllHeld, IsForUnit, leaves_others, publish_for, wink_for}
use Rattle.legal_history.proofs.Reuse.SoundBases.{story_all_held}

-- a unit of a lane's build without an outcome after a step, at one of its targets
pub record Unfinished (s : State) (active : Active) (lane : ℕ) (old new : Build) (n : ℕ) (unit : Unit) (path : List ℕ) : Type 0
  where
    pub was : build_of s.active lane ≡ Some old
    pub is : build_of active lane ≡ Some new
    pub is_unit : unit_at old n ≡ Some unit
    pub waits : is_outcome (came_to new n) ≡ false
    pub made : makes path unit ≡ true

-- the lane's build after one of its units came to something
noted_is : (active : Active) (lane : ℕ) (build : Build) (unit : Build → Option ℕ) (n : ℕ) (came : Came)
    → build_of active lane ≡ Some build → unit build ≡ Some n → build_of (with_outcome active lane unit came) lane
    ≡ Some (with_came build (Some n) came)
noted_is active lane build unit n came is place =
    ap (λ o. build_of (noted_in active lane o unit came) lane) is ∙ find_put_same lane (with_came build (unit build) came) active
    ∙ ap (λ o. Some (with_came build o came)) place

commanded_leaves : (s : State) (tag : Tag) (deed : Deed) (lane : ℕ) (old : Build) (path : List ℕ) → IsOfCommand deed
    → decision_for s tag ≡ Some (Ok (Makes deed)) → build_of s.active lane ≡ Some old → Leaves s.base old.view path deed
commanded_leaves s tag deed lane old path plain e is =
    let d = decided_of s tag (Makes deed) e in
    idle_leaves s.base s.active lane old path deed is plain (decided_idle (scene s) d.command deed d.is)

-- A unit of the build of a lane at one of its targets, and this build after a step.
module _ (s : State) (lane : ℕ) (old new : Build) (n : ℕ) (unit : Unit) (path : List ℕ) where
  given_leaves : (row_lane : ℕ) (view : List ℕ) (targets : List (List ℕ)) (object : ℕ) → IsForUnit s row_lane view targets
      → IsConsistentState s → AllHeld s →
      Unfinished s (with_outcome s.active row_lane (λ build. unit_with_first build targets) (Given object)) lane old new n unit
      path
      → (bytes_eq old.view view && is_path_among path targets) ≡ false
  given_leaves row_lane view targets object row_for sound h u =
      leaves_others s row_lane view targets row_for lane old n unit path sound h u.was u.is_unit u.made finished
    where
      finished : (lane ≡ row_lane) × (row_for.build ≡ old) × (row_for.n ≡ n) → ⊥
      finished same =
          let now = noted_is s.active row_lane row_for.build (λ build. unit_with_first build targets) row_for.n (Given object)
          row_for.there row_for.place in
          let is_new : build_of (with_outcome s.active row_lane (λ build. unit_with_first build targets) (Given object)) row_lane
          ≡ Some new = ap (build_of _) (sym same.0) ∙ u.is in
          let is_after : with_came row_for.build (Some row_for.n) (Given object) ≡ new = same_inside (sym now ∙ is_new) in
          let came : came_to new row_for.n ≡ Some (Given object) = ap (λ (b : Build). came_to b row_for.n) (sym is_after)
          ∙ find_put_same row_for.n (Given object) row_for.build.comes in
          let over : is_outcome (came_to new n) ≡ true = ap (λ k. is_outcome (came_to new k)) (sym same.2)
          ∙ ap is_outcome came in
          let clash : true ≡ false = sym over ∙ u.waits in
          cc

  committed_leaves : (tag : Tag) (moment : ℕ) (deed : Deed) → IsConsistentState s → AllHeld s
      → MakesRow s (record { tag = tag; moment = moment; deed = deed }) deed →
      Unfinished s (active_after s.base s.active tag.lane deed) lane old new n unit path → Leaves s.base old.view path deed
  committed_leaves tag moment (deeds.Publish view targets script entries outputs) sound h e u =
      given_leaves tag.lane view targets (size s.base)
      (publish_for s (record { tag = tag; moment = moment; deed = deeds.Publish view targets script entries outputs }) view
      targets script entries outputs refl e) sound h u
  committed_leaves tag moment (deeds.Wink view id) sound h e u =
      given_leaves tag.lane view (targets_of s.base id) id
      (wink_for s (record { tag = tag; moment = moment; deed = deeds.Wink view id }) view id sound.base e) sound h u
  committed_leaves tag moment deed sound h e u = commanded_leaves s tag deed lane old path tt e u.was

  pub place_step : (x : StoryStep) → IsConsistentState s → AllHeld s → Lawful s x
      → Unfinished s (after s x).active lane old new n unit path →
      held_at (objects_held (after s x).base) old.view path ≡ held_at (objects_held s.base) old.view path
  place_step (story_steps.Opened rows counts tells) sound h e u = absurd (let first = e.first in let opened = sound.opened in cc)
  place_step (story_steps.Commit row tick) sound h e u =
      path_stays s.base old.view path row.deed (committed_leaves row.tag row.moment row.deed sound h e.may.made u)
  place_step (story_steps.Refused tag refusal) sound h e u = refl
  place_step x sound h e u = refl

pub place_stays : (story : List StoryStep) (x : StoryStep) (lane : ℕ) (old new : Build) (n : ℕ) (unit : Unit) (path : List ℕ)
    → Legal story → Lawful (state_of story) x → build_of (state_of story).active lane ≡ Some old →
    build_of (after (state_of story) x).active lane ≡ Some new → unit_at old n ≡ Some unit → is_outcome (came_to new n) ≡ false
    → makes path unit ≡ true →
    held_at (objects_held (after (state_of story) x).base) old.view path
    ≡ held_at (objects_held (state_of story).base) old.view path
place_stays [] x lane old new n unit path legal e was is is_unit waits made = absurd (cc)
place_stays (first ∷ story) x lane old new n unit path legal e was is is_unit waits made =
    place_step (state_of (first ∷ story)) lane old new n unit path x (story_is_consistent first story legal)
    (story_all_held first story legal) e
    (record { was = was; is = is; is_unit = is_unit; waits = waits; made = made })
