-- A lawful step leaves each active build as it is, lets it go on, or ends it.
use Rattle.std.proofs.Common.{◌≡◌, refl, ap, subst, ◌∙◌, inl, inr, ℕ, Bool, true, false, cond, not, ◌==◌, Option, Some, None}
use Rattle.std.specs.Prelude.{Result, is_none, is_some, option_map, option_and_then, ◌&&◌}
use Rattle.std.specs.Ordering.{nat_cmp}
use Rattle.std.specs.FinMap.Entries.{put}
use Rattle.cc_names.specs.Commands.{lane_at}
use Rattle.cc_names.specs.Formed.{Plain}
use Rattle.cc_names.specs.declared.rows.Deed.{Deed}
use Rattle.cc_names.specs.declared.rows.Deed.TheVariants as deeds
use Rattle.cc_names.specs.declared.rows.Tag.{Tag}
use Rattle.cc_names.specs.declared.steps.StoryStep.{StoryStep}
use Rattle.cc_names.specs.declared.steps.StoryStep.TheVariants as story_steps
use Rattle.cc_names.specs.declared.steps.UnitEnd.{UnitEnd}
use Rattle.cc_names.specs.declared.steps.UnitEnd.TheVariants as ends
use Rattle.cc_names.specs.declared.refusals.UnitFault.TheVariants as unit_faults
use Rattle.cc_names.specs.declared.units.Unit.{Unit}
use Rattle.base_model.specs.Rows.{only_where}
use Rattle.legal_history.specs.Builds.Active.{Active, Build, Came, build_of, came_to, is_outcome, unit_with_first}
use Rattle.base_model.specs.Changes.{targets_of}
use Rattle.legal_history.specs.Stories.Growth.{Continues, StaysTheBuild, Over, On}
use Rattle.cc_names.specs.declared.refusals.Refusal.{Refusal}
use Rattle.cc_names.proofs.Common.{same_number}
use Rattle.legal_history.specs.Commands.Decisions.{Decision}
use Rattle.legal_history.specs.Commands.Lines.{decision}
use Rattle.legal_history.specs.Stories.States.{State, scene, decision_for, command_behind, done_of, is_next, build_by, build_if}
use Rattle.legal_history.specs.Stories.States.{same_tag}
use Rattle.legal_history.specs.Stories.Steps.{after, with_outcome, with_came, build_begun_by, with_build}
use Rattle.legal_history.specs.Stories.Steps.{without_build, faulted_in, active_after}
use Rattle.legal_history.specs.Stories.Committing.{MakesRow}
use Rattle.legal_history.specs.Stories.Lawful.{Lawful}
use Rattle.legal_history.specs.Builds.UnitTurns.{ComesTo, Waits}
use Rattle.base_model.proofs.Tables.{find_after_put, find_put_same, find_put_other, find_without}

pub continues_itself : (b : Build) → Continues b b
continues_itself b = record {
  tag = refl;
  view = refl;
  rows = refl;
  own_only = refl;
  rebuild = refl;
  units = refl;
  outcomes = λ n h. refl;
  begun = λ n h. h;
}

-- a unit with an outcome is not the one that waits
apart_from : (b : Build) (n m : ℕ) → is_outcome (came_to b n) ≡ false → is_outcome (came_to b m) ≡ true → (m == n) ≡ false
apart_from b n m waits has = elim (m == n) as (λ (x : Bool). (m == n) ≡ x → x ≡ false) [
  | true ↦ λ e. let same : m ≡ n = same_number m n e in absurd (cc)
  | false ↦ λ e. refl
] refl

-- a unit that has come to anything has so still
begun_still : (b : Build) (n m : ℕ) (came : Came) → is_some (came_to b m) ≡ true
    → is_some (came_to (with_came b (Some n) came) m) ≡ true
begun_still b n m came h = ap is_some (find_after_put m n came b.comes) ∙ by (m == n)
  where
    by : (t : Bool) → is_some (cond t (Some came) (came_to b m)) ≡ true
    by true = refl
    by false = h

-- a unit that waited comes to something
pub comes_to : (b : Build) (n : ℕ) (came : Came) → is_outcome (came_to b n) ≡ false → Continues b (with_came b (Some n) came)
comes_to b n came waits = record {
  tag = refl;
  view = refl;
  rows = refl;
  own_only = refl;
  rebuild = refl;
  units = refl;
  outcomes = λ m h. find_put_other m n came b.comes (apart_from b n m waits h);
  begun = λ m h. begun_still b n m came h;
}

-- a build of one lane, after another build was put in for some lane
put_in : (active : Active) (lane other : ℕ) (build new : Build) → build_of active lane ≡ Some build →
    ((lane == other) ≡ true → Continues build new) → StaysTheBuild build (build_of (put nat_cmp other new active) lane)
put_in active lane other build new is on = elim (lane == other) as (λ (x : Bool). (lane == other) ≡ x
    → StaysTheBuild build (build_of (put nat_cmp other new active) lane)) [
      | true ↦ λ e. let same : lane ≡ other = same_number lane other e in On new (rw same (find_put_same other new active)) (on e)
      | false ↦ λ e. On build (find_put_other lane other new active e ∙ is) (continues_itself build)
    ] refl

-- the active build of a command is that of its lane
pub of_lane : (s : State) (tag : Tag) (build : Build) → build_by s tag ≡ Some build → build_of s.active tag.lane ≡ Some build
of_lane s tag build e = by (build_of s.active tag.lane) e
  where
    by : (o : Option Build) → option_and_then (build_if tag) o ≡ Some build → o ≡ Some build
    by None e = absurd (cc)
    by (Some b) e = elim (same_tag b.tag tag) as (λ (x : Bool). only_where x (Some b) ≡ Some build → Some b ≡ Some build) [
      | true ↦ λ e. e
      | false ↦ λ e. absurd (cc)
    ] e

-- a build of one lane, after a unit of some lane's build came to something
noted_goes : (active : Active) (lane other : ℕ) (build b : Build) (unit : Build → Option ℕ) (n : ℕ) (came : Came) →
    build_of active lane ≡ Some build → build_of active other ≡ Some b → unit b ≡ Some n → is_outcome (came_to b n) ≡ false →
    StaysTheBuild build (build_of (with_outcome active other unit came) lane)
noted_goes active lane other build b unit n came is of_other number waits =
    rw of_other (put_in active lane other build (with_came b (unit b) came) is (λ e. goes_on (same_number lane other e)))
  where
    goes_on : lane ≡ other → Continues build (with_came b (unit b) came)
    goes_on e = rw number (subst (λ x. Continues x (with_came b (Some n) came)) (same_build e) (comes_to b n came waits))
      where
        same_build : lane ≡ other → b ≡ build
        same_build e = let one : Some b ≡ Some build = cc in cc

-- the lane of a command that is decided builds nothing yet
lane_is_idle : (s : State) (tag : Tag) → is_next s tag ≡ true → build_of s.active tag.lane ≡ None
lane_is_idle s tag e = by (same_tag tag (record { phase = s.number; lane = tag.lane; command = _ })) (build_of s.active tag.lane)
    e
  where
    by : (test : Bool) (o : Option Build) → (test && is_none o) ≡ true → o ≡ None
    by test None e = refl
    by true (Some b) e = absurd (cc)
    by false (Some b) e = absurd (cc)

where_holds : {A B : Type 0} (test : Bool) (f : A → B) (o : Option A) {b : B} → option_map f (only_where test o) ≡ Some b
    → test ≡ true
where_holds true f o e = refl
where_holds false f o e = absurd (cc)

-- a command on which something is decided is its lane's next, and its lane builds nothing
pub decided_is_next : (s : State) (tag : Tag) {d : Result Decision Refusal} → decision_for s tag ≡ Some d → is_next s tag ≡ true
decided_is_next s tag e = where_holds (is_next s tag) (decision (scene s))
    (option_and_then (command_behind (done_of s.done tag.lane)) (lane_at s.phase tag.lane)) e

pub decided_is_idle : (s : State) (tag : Tag) {d : Result Decision Refusal} → decision_for s tag ≡ Some d
    → build_of s.active tag.lane ≡ None
decided_is_idle s tag e = lane_is_idle s tag (decided_is_next s tag e)

-- a build of one lane, after another lane that was idle began one
begun_goes : (active : Active) (lane other : ℕ) (build : Build) (new : Option Build) → build_of active lane ≡ Some build
    → build_of active other ≡ None →
    StaysTheBuild build (build_of (with_build active other new) lane)
begun_goes active lane other build None is idle = On build is (continues_itself build)
begun_goes active lane other build (Some new) is idle = put_in active lane other build new is
    (λ e. absurd (clash (same_number lane other e)))
  where
    clash : lane ≡ other → ⊥
    clash e = let one : build_of active lane ≡ build_of active other = ap (build_of active) e in cc

-- a build of one lane, after one ended
ended_goes : (active : Active) (lane other : ℕ) (build : Build) → build_of active lane ≡ Some build
    → StaysTheBuild build (build_of (without_build active other) lane)
ended_goes active lane other build is = elim (lane == other) as (λ (x : Bool). (lane == other) ≡ x
    → StaysTheBuild build (build_of (without_build active other) lane)) [
      | true ↦ λ e. Over (find_without lane other active ∙ ap (λ b. cond (not b) (build_of active lane) None) e)
      | false ↦ λ e. On build (find_without lane other active ∙ ap (λ b. cond (not b) (build_of active lane) None) e
          ∙ is) (continues_itself build)
    ] refl

-- a build of one lane, after the disk failed under some lane
faulted_goes : (active : Active) (lane other : ℕ) (build : Build) (b : Option Build) → build_of active lane ≡ Some build →
    ((x : Build) → b ≡ Some x → build_of active other ≡ Some x) → StaysTheBuild build (build_of (faulted_in active other b) lane)
faulted_goes active lane other build None is of_other = On build is (continues_itself build)
faulted_goes active lane other build (Some b) is of_other = put_in active lane other build (record b { faulted = true }) is
    goes_on
  where
    goes_on : (lane == other) ≡ true → Continues build (record b { faulted = true })
    goes_on e = subst (λ x. Continues x (record b { faulted = true })) (same_build (same_number lane other e)) (record {
      tag = refl;
      view = refl;
      rows = refl;
      own_only = refl;
      rebuild = refl;
      units = refl;
      outcomes = λ n h. refl;
      begun = λ n h. h;
    })
      where
        same_build : lane ≡ other → b ≡ build
        same_build e = let o = of_other b refl in let one : Some b ≡ Some build = cc in cc

-- a build of one lane, after a unit that waits of some lane's build came to something
waited_goes : (s : State) (tag : Tag) (n : ℕ) (b : Build) (u : Unit) (lane : ℕ) (build : Build) (unit : Build
    → Option ℕ) (came : Came) →
    build_of s.active lane ≡ Some build → Waits s tag n b u → unit b ≡ Some n
    → StaysTheBuild build (build_of (with_outcome s.active tag.lane unit came) lane)
waited_goes s tag n b u lane build unit came is h number =
    noted_goes s.active lane tag.lane build b unit n came is (of_lane s tag b h.active) number h.waits

settled_goes : (s : State) (tag : Tag) (n : ℕ) (outcome : UnitEnd) (lane : ℕ) (build : Build) (came : Came)
    → build_of s.active lane ≡ Some build →
    ComesTo s tag n outcome → StaysTheBuild build (build_of (with_outcome s.active tag.lane (λ b. Some n) came) lane)
settled_goes s tag n (ends.Kept id) lane build came is h = waited_goes s tag n h.build h.unit lane build (λ b. Some n) came is
    h.open_unit.waits refl
settled_goes s tag n (ends.Failed (unit_faults.Script fault)) lane build came is h =
    waited_goes s tag n h.build h.unit lane build (λ b. Some n) came is h.running.waits refl
settled_goes s tag n outcome lane build came is h = waited_goes s tag n h.build h.unit lane build (λ b. Some n) came is h.waits
    refl

committed_goes : (s : State) (row : Plain) (deed : Deed) (lane : ℕ) (build : Build) → build_of s.active lane ≡ Some build →
    MakesRow s row deed → StaysTheBuild build (build_of (active_after s.base s.active row.tag.lane deed) lane)
committed_goes s row (deeds.Publish view targets script entries outputs) lane build is h =
    waited_goes s row.tag h.n h.build h.unit lane build (λ b. unit_with_first b targets) _ is h.running.waits h.place
committed_goes s row (deeds.Wink view id) lane build is h = elim h.may [
  | inl o ↦ waited_goes s row.tag h.n h.build h.unit lane build (λ b. unit_with_first b (targets_of s.base id)) _ is o.waits
      h.place
  | inr r ↦ waited_goes s row.tag h.n h.build h.unit lane build (λ b. unit_with_first b (targets_of s.base id)) _ is r.waits
      h.place
]
committed_goes s row deed lane build is h = On build is (continues_itself build)

-- each lawful step leaves an active build going on, or ends it
pub step_goes : (s : State) (x : StoryStep) (lane : ℕ) (build : Build) → build_of s.active lane ≡ Some build → Lawful s x →
    StaysTheBuild build (build_of (after s x).active lane)
step_goes s (story_steps.Commit row tick) lane build is h = committed_goes s row row.deed lane build is h.may.made
step_goes s (story_steps.Begin tag rows units) lane build is h = begun_goes s.active lane tag.lane build (build_begun_by s tag) is
    (decided_is_idle s tag h.chosen)
step_goes s (story_steps.Start tag n) lane build is h =
    waited_goes s tag n h.build h.unit lane build (λ b. Some n) _ is h.open_unit.waits refl
step_goes s (story_steps.Concluded tag n outcome) lane build is h = settled_goes s tag n outcome lane build _ is h
step_goes s (story_steps.End tag) lane build is h = ended_goes s.active lane tag.lane build is
step_goes s (story_steps.Fault tag left before faults tick) lane build is h =
    faulted_goes s.active lane tag.lane build (build_by s tag) is (λ x e. of_lane s tag x e)
step_goes s x lane build is h = On build is (continues_itself build)
