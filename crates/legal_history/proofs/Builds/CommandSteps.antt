-- Along a legal story each active build is the one of its lane's command.
use Rattle.std.proofs.Common.{◌≡◌, refl, ap, sym, subst, inl, inr, ℕ, Option, Some, None, List, [], ◌∷◌}
use Rattle.cc_names.specs.Formed.{Plain}
use Rattle.cc_names.specs.declared.rows.Deed.{Deed}
use Rattle.cc_names.specs.declared.rows.Deed.TheVariants as deeds
use Rattle.cc_names.specs.declared.rows.Tag.{Tag}
use Rattle.cc_names.specs.declared.steps.StoryStep.{StoryStep}
use Rattle.cc_names.specs.declared.steps.StoryStep.TheVariants as story_steps
use Rattle.base_model.specs.Rows.{size}
use Rattle.legal_history.specs.Builds.Active.{Active, Build, Came, Given, Concluded, build_of, unit_with_first}
use Rattle.base_model.specs.Changes.{targets_of}
use Rattle.legal_history.specs.Stories.States.{State, End, Committed, Faulted, build_by, done_of, start, with_done}
use Rattle.legal_history.specs.Stories.Steps.{after, active_after, build_begun_by, came_by_starting, done_after}
use Rattle.legal_history.specs.Stories.Steps.{done_by_fault, faulted_in, with_outcome, state_from, state_of, with_build}
use Rattle.legal_history.specs.Stories.Steps.{without_build}
use Rattle.legal_history.specs.Stories.Committing.{MakesRow}
use Rattle.legal_history.specs.Stories.Lawful.{Lawful, Legal, LegalFrom}
use Rattle.legal_history.proofs.Stories.Goes.{decided_is_idle, of_lane}
use Rattle.base_model.proofs.Stay.{first_rows_stay}
use Rattle.legal_history.specs.Stories.Commanded.{IsOfCommand}
use Rattle.legal_history.proofs.Builds.AllBuilds.{Each, each_as, each_begun, each_faulted, each_noted, each_without}
use Rattle.legal_history.proofs.Builds.CommandStays.{apart_from_idle, begun_commanded, came_commanded, command_stays}
use Rattle.legal_history.proofs.Builds.CommandStays.{faulted_commanded, none_left, other_done}
use Rattle.legal_history.proofs.Stories.ConsistentStories.{IsConsistentState, none_active, consistent_first, consistent_step}
use Rattle.legal_history.proofs.Stories.Along.{along}

-- each active build is the one of its lane's command
abbrev pub AllCommanded : State → Type 0
AllCommanded s = Each (IsOfCommand s) s.active

-- an idle lane finishes a command
idle_done : (s : State) (lane : ℕ) → build_of s.active lane ≡ None → AllCommanded s
    → Each (IsOfCommand (record s { done = with_done s.done lane })) s.active
idle_done s lane idle h = each_as (IsOfCommand s) (IsOfCommand (record s { done = with_done s.done lane })) s.active h
    (λ other build is own.
    command_stays s (record s { done = with_done s.done lane }) other build
    (record {
      number = refl;
      phase = refl;
      done = sym (other_done s.done other lane (apart_from_idle s other lane build is idle));
      base = refl;
    }) own)

-- a step that notes what a unit came to
noted_commanded : (s : State) (lane : ℕ) (number : Build → Option ℕ) (came : Came) → AllCommanded s
    → Each (IsOfCommand s) (with_outcome s.active lane number came)
noted_commanded s lane number came h = each_noted (IsOfCommand s) s.active lane number came h
    (λ build is. came_commanded s lane build (number build) came (h.holds lane build is))

-- the same where only the active builds and the ends differ
active_commanded : (s : State) (active : Active) (ends : List End) → Each (IsOfCommand s) active
    → Each (IsOfCommand (record s { active = active; ends = ends })) active
active_commanded s active ends h = each_as (IsOfCommand s) (IsOfCommand (record s { active = active; ends = ends })) active h
    (λ lane build is own.
    command_stays s (record s { active = active; ends = ends }) lane build
    (record { number = refl; phase = refl; done = refl; base = refl }) own)

-- a row is committed
row_commanded : (s : State) (row : Plain) (done : List (ℕ × ℕ)) (active : Active) (ends : List End) → IsConsistentState s
    → AllCommanded s →
    ((lane : ℕ) (build : Build) → build_of s.active lane ≡ Some build → done_of s.done lane ≡ done_of done lane) →
    Each (IsOfCommand (record s { base = row ∷ s.base; done = done; active = active; ends = ends })) s.active
row_commanded s row done active ends sound h same = each_as (IsOfCommand s)
    (IsOfCommand (record s { base = row ∷ s.base; done = done; active = active; ends = ends })) s.active h (λ lane build is own.
    command_stays s (record s { base = row ∷ s.base; done = done; active = active; ends = ends }) lane build
    (record {
      number = refl;
      phase = refl;
      done = same lane build is;
      base = sym
          (first_rows_stay row s.base build.rows (sound.fine.holds lane build is).consistent.rows);
    }) own)

-- a row by which a unit is given an object
given_commanded : (s : State) (row : Plain) (number : Build → Option ℕ) (id : ℕ) (ends : List End) → IsConsistentState s
    → AllCommanded s →
    AllCommanded (record s { base = row ∷ s.base; active = with_outcome s.active row.tag.lane number (Given id); ends = ends })
given_commanded s row number id ends sound h =
    let t : State = record s { base = row ∷ s.base; active = with_outcome s.active row.tag.lane number (Given id); ends = ends }
    in
    let all = row_commanded s row s.done (with_outcome s.active row.tag.lane number (Given id)) ends sound h
    (λ lane build is. refl) in
    each_noted (IsOfCommand t) s.active row.tag.lane number (Given id) all
    (λ build is. came_commanded t row.tag.lane build (number build) (Given id) (all.holds row.tag.lane build is))

committed_commanded : (s : State) (tag : Tag) (moment : ℕ) (deed : Deed) (ends : List End) → IsConsistentState s → AllCommanded s
    → MakesRow s (record { tag = tag; moment = moment; deed = deed }) deed →
    AllCommanded (record s {
      base = record { tag = tag; moment = moment; deed = deed } ∷ s.base;
      done = done_after s.done tag.lane deed;
      active = active_after s.base s.active tag.lane deed;
      ends = ends;
    })
committed_commanded s tag moment (deeds.Publish view targets script entries outputs) ends sound h e =
    given_commanded s (record { tag = tag; moment = moment; deed = deeds.Publish view targets script entries outputs })
    (λ build. unit_with_first build targets) (size s.base) ends sound h
committed_commanded s tag moment (deeds.Wink view id) ends sound h e =
    given_commanded s (record { tag = tag; moment = moment; deed = deeds.Wink view id })
    (λ build. unit_with_first build (targets_of s.base id)) id ends sound h
committed_commanded s tag moment deed ends sound h e =
    row_commanded s (record { tag = tag; moment = moment; deed = deed }) (with_done s.done tag.lane) s.active ends sound h
    (λ lane build is.
    sym (other_done s.done lane tag.lane (apart_from_idle s lane tag.lane build is (decided_is_idle s tag e))))

-- a command that is not building, under which the disk fails, has an idle lane
fault_idle : (s : State) (row : Plain) (deed : Deed) → MakesRow s row deed → build_by s row.tag ≡ None
    → build_of s.active row.tag.lane ≡ None
fault_idle s row (deeds.Publish view targets script entries outputs) e none = absurd (let some = e.running.waits.active in cc)
fault_idle s row (deeds.Wink view id) e none = absurd (elim e.may [
  | inl o ↦ let some = o.waits.active in
      cc
  | inr r ↦ let some = r.waits.active in cc
])
fault_idle s row deed e none = decided_is_idle s row.tag e

faulted_all : (s : State) (tag : Tag) (ends : List End) (o : Option Build) → AllCommanded s → build_by s tag ≡ o
    → (build_by s tag ≡ None → build_of s.active tag.lane ≡ None) →
    AllCommanded (record s { done = done_by_fault s.done tag.lane o; active = faulted_in s.active tag.lane o; ends = ends })
faulted_all s tag ends None h is idle =
    let t : State = record s { done = with_done s.done tag.lane } in
    active_commanded t s.active ends (idle_done s tag.lane (idle is) h)
faulted_all s tag ends (Some build) h is idle =
    active_commanded s (faulted_in s.active tag.lane (Some build)) ends
    (each_faulted (IsOfCommand s) s.active tag.lane (Some build) h (λ other same.
    let one : build ≡ other = cc in
    faulted_commanded s tag.lane other (subst (IsOfCommand s tag.lane) one (h.holds tag.lane build (of_lane s tag build is)))))

pub step_commanded : (s : State) (x : StoryStep) → IsConsistentState s → AllCommanded s → Lawful s x → AllCommanded (after s x)
step_commanded s (story_steps.Opened rows counts tells) sound h e = absurd (let first = e.first in let opened = sound.opened in
    cc)
step_commanded s (story_steps.PhaseBegun phase moment) sound h e = record {
  holds = λ lane build is. absurd (let own = (h.holds lane build is).command in let none = none_left s lane e.finished in
      cc);
}
step_commanded s (story_steps.Commit row tick) sound h e = committed_commanded s row.tag row.moment row.deed
    (Committed row tick ∷ s.ends) sound h e.may.made
step_commanded s (story_steps.Refused tag refusal) sound h e = idle_done s tag.lane (decided_is_idle s tag e) h
step_commanded s (story_steps.Answer tag text) sound h e = idle_done s tag.lane (decided_is_idle s tag e) h
step_commanded s (story_steps.Begin tag rows count) sound h e =
    active_commanded s (with_build s.active tag.lane (build_begun_by s tag)) s.ends
    (each_begun (IsOfCommand s) s.active tag.lane (build_begun_by s tag) h (begun_commanded s tag e.units e.chosen))
step_commanded s (story_steps.Start tag n) sound h e =
    active_commanded s (with_outcome s.active tag.lane (λ build. Some n) (came_by_starting (build_of s.active tag.lane) n)) s.ends
    (noted_commanded s tag.lane (λ build. Some n) (came_by_starting (build_of s.active tag.lane) n) h)
step_commanded s (story_steps.Concluded tag n end) sound h e =
    active_commanded s (with_outcome s.active tag.lane (λ build. Some n) (Concluded end)) s.ends
    (noted_commanded s tag.lane (λ build. Some n) (Concluded end) h)
step_commanded s (story_steps.End tag) sound h e =
    let t : State = record s { done = with_done s.done tag.lane; active = without_build s.active tag.lane } in
    each_without (IsOfCommand s) (IsOfCommand t) s.active tag.lane h (λ other build apart own.
    command_stays s t other build (record {
      number = refl;
      phase = refl;
      done = sym (other_done s.done other tag.lane apart);
      base = refl;
    }) own)
step_commanded s (story_steps.Fault tag left before faults tick) sound h e =
    faulted_all s tag (Faulted left faults tick ∷ s.ends) (build_by s tag) h refl
    (subst (λ t. build_by s t ≡ None → build_of s.active t.lane ≡ None) e.wanted.of_tag
    (fault_idle s e.wanted.row e.wanted.row.deed e.wanted.may.made))

commanded_from : (s : State) (story : List StoryStep) → IsConsistentState s → AllCommanded s → LegalFrom s story
    → AllCommanded (state_from s story)
commanded_from s story sound h e = (along (λ t. IsConsistentState t × AllCommanded t)
    (λ t x legal so. (consistent_step t x so.0 legal, step_commanded t x so.0 so.1 legal)) s story e (sound, h)).1

-- before a base is opened nothing builds
pub none_begun : (x : StoryStep) → Lawful start x → AllCommanded (after start x)
none_begun x e = record {
  holds = λ lane build is. absurd (let none : build_of (after start x).active lane
      ≡ None = ap (λ active. build_of active lane) (none_active x e) in cc);
}

pub build_commanded : (story : List StoryStep) (lane : ℕ) (build : Build) → Legal story
    → build_of (state_of story).active lane ≡ Some build → IsOfCommand (state_of story) lane build
build_commanded [] lane build h is = absurd (cc)
build_commanded (x ∷ story) lane build h is = (commanded_from (after start x) story (consistent_first x h.0) (none_begun x h.0)
    h.1).holds lane build is
