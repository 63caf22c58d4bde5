-- A lawful step leaves room for a row of each unit that waits.
use Rattle.std.proofs.Common.{◌≡◌, refl, ap, sym, subst, ◌∙◌, inl, inr, ℕ, ◌+◌, ◌≤◌, true, not, ◌==◌, T, Option, Some, None, Ok}
use Rattle.std.proofs.Common.{List, [], ◌∷◌, length, arith, nat_lt}
use Rattle.std.proofs.lemmas.Bool.{lt-ltb}
use Rattle.std.proofs.lemmas.Cmp.{nat_cmp_total}
use Rattle.std.specs.Prelude.{is_some}
use Rattle.std.specs.Ordering.{nat_cmp}
use Rattle.std.specs.FinMap.Entries.{put, is_sorted, is_sorted-put, is_sorted-where_key}
use Rattle.cc_names.specs.Formed.{Plain}
use Rattle.cc_names.specs.declared.refusals.UnitFault.TheVariants as unit_faults
use Rattle.cc_names.specs.declared.rows.Deed.{Deed}
use Rattle.cc_names.specs.declared.rows.Deed.TheVariants as deeds
use Rattle.cc_names.specs.declared.rows.Tag.{Tag}
use Rattle.cc_names.specs.declared.steps.StoryStep.{StoryStep}
use Rattle.cc_names.specs.declared.steps.StoryStep.TheVariants as story_steps
use Rattle.cc_names.specs.declared.steps.UnitEnd.{UnitEnd}
use Rattle.cc_names.specs.declared.steps.UnitEnd.TheVariants as ends
use Rattle.cc_names.specs.declared.units.Unit.{Unit}
use Rattle.base_model.specs.Rows.{Base, size}
use Rattle.legal_history.specs.Builds.Active.{Active, Build, Came, Given, Concluded, build_of, is_outcome, unit_with_first}
use Rattle.base_model.specs.Changes.{targets_of}
use Rattle.legal_history.specs.Commands.Decisions.{Makes, Begins}
use Rattle.base_model.specs.Fits.{row_limit}
use Rattle.legal_history.specs.Stories.States.{State, decision_for, build_by}
use Rattle.legal_history.specs.Stories.Steps.{after, with_outcome, noted_in, with_came, came_by_starting}
use Rattle.legal_history.specs.Stories.Steps.{active_after, build_begun_by, build_asked, with_build, without_build, faulted_in}
use Rattle.legal_history.specs.Stories.Committing.{MakesRow}
use Rattle.legal_history.specs.Stories.Lawful.{Lawful}
use Rattle.legal_history.specs.Builds.UnitTurns.{ComesTo, Waits}
use Rattle.legal_history.proofs.Stories.Goes.{of_lane, decided_is_idle}
use Rattle.legal_history.proofs.Stories.DecidedSteps.{decided_of, says_of, begun_is}
use Rattle.legal_history.proofs.Builds.Room.{waiting, all_waiting, all_reserved, no_more_wait, fewer_wait, few_wait, put_waiting}
use Rattle.legal_history.proofs.Builds.Room.{put_new_waiting, without_waiting}

-- there is room for a row of each unit that waits
pub record HasRoom (b : Base) (active : Active) : Type 0 where
  pub sorted : T (is_sorted nat_cmp active)
  pub room : size b + all_waiting active ≤ row_limit

-- a unit of the lane's build that waits comes to something
noted_waiting : (s : State) (tag : Tag) (n : ℕ) (build : Build) (unit : Unit) (number : Build → Option ℕ) (came : Came)
    → T (is_sorted nat_cmp s.active) → Waits s tag n build unit → number build ≡ Some n →
    all_waiting (with_outcome s.active tag.lane number came) + waiting build
    ≡ all_waiting s.active + waiting (with_came build (Some n) came)
noted_waiting s tag n build unit number came sorted waits place =
    let there = of_lane s tag build waits.active in
    ap (λ o. all_waiting (noted_in s.active tag.lane o number came) + waiting build) there
    ∙ ap (λ k. all_waiting (put nat_cmp tag.lane (with_came build k came) s.active) + waiting build) place
    ∙ put_waiting s.active tag.lane build (with_came build (Some n) came) sorted there

noted_sorted : (active : Active) (lane : ℕ) (number : Build → Option ℕ) (came : Came) → T (is_sorted nat_cmp active)
    → T (is_sorted nat_cmp (with_outcome active lane number came))
noted_sorted active lane number came sorted = by (build_of active lane)
  where
    by : (o : Option Build) → T (is_sorted nat_cmp (noted_in active lane o number came))
    by None = sorted
    by (Some build) = is_sorted-put nat_cmp nat_cmp_total lane (with_came build (number build) came) active sorted

waited_room : (s : State) (tag : Tag) (n : ℕ) (build : Build) (unit : Unit) (number : Build → Option ℕ) (came : Came)
    → HasRoom s.base s.active → Waits s tag n build unit → number build ≡ Some n →
    HasRoom s.base (with_outcome s.active tag.lane number came)
waited_room s tag n build unit number came h waits place = record {
  sorted = noted_sorted s.active tag.lane number came h.sorted;
  room =
      let sum = noted_waiting s tag n build unit number came h.sorted waits place in
      let fewer : waiting (with_came build (Some n) came) ≤ waiting build =
      no_more_wait build.comes n 0 came build.units waits.waits in
      let room = h.room in
      omega arith;
}

-- a unit that waits leaves room for its own row, and takes it with it
row_room : (s : State) (row : Plain) (tag : Tag) (n : ℕ) (build : Build) (unit : Unit) (number : Build → Option ℕ) (came : Came)
    → HasRoom s.base s.active → Waits s tag n build unit → number build ≡ Some n →
    is_outcome (Some came) ≡ true → HasRoom (row ∷ s.base) (with_outcome s.active tag.lane number came)
row_room s row tag n build unit number came h waits place over = record {
  sorted = noted_sorted s.active tag.lane number came h.sorted;
  room =
      let sum = noted_waiting s tag n build unit number came h.sorted waits place in
      let fewer : waiting (with_came build (Some n) came) + 1 ≤ waiting build =
      fewer_wait build.comes n 0 n came unit build.units (omega arith) waits.is_unit waits.waits over in
      let room = h.room in
      omega arith;
}

-- a base with room for one more row has fewer than the limit
pub room_for : (b : Base) (row : Plain) (active : Active) → HasRoom (row ∷ b) active → nat_lt (size b) row_limit ≡ true
room_for b row active h = let room = h.room in lt-ltb _ _ (omega arith)

begun_room : (s : State) (tag : Tag) (us : List Unit) → HasRoom s.base s.active → decision_for s tag ≡ Some (Ok (Begins us))
    → HasRoom s.base (with_build s.active tag.lane (build_begun_by s tag))
begun_room s tag us h e =
    let says = says_of s tag (Begins us) (decided_of s tag (Begins us) e) in
    let new : Build = build_asked tag (size s.base) us says.asked in
    subst (λ o. HasRoom s.base (with_build s.active tag.lane o)) (sym (begun_is s tag us e)) (record {
      sorted = is_sorted-put nat_cmp nat_cmp_total tag.lane new s.active h.sorted;
      room =
          let sum = put_new_waiting s.active tag.lane new (decided_is_idle s tag e) in
          let own : waiting new ≤ length us = few_wait [] 0 us in
          let all = all_reserved s.active in
          let room = says.room in
          omega arith;
    })

faulted_room : (s : State) (tag : Tag) → HasRoom s.base s.active → HasRoom s.base (faulted_in s.active tag.lane (build_by s tag))
faulted_room s tag h = by (build_by s tag) refl
  where
    by : (o : Option Build) → build_by s tag ≡ o → HasRoom s.base (faulted_in s.active tag.lane o)
    by None is = h
    by (Some build) is = record {
      sorted = is_sorted-put nat_cmp nat_cmp_total tag.lane (record build { faulted = true }) s.active h.sorted;
      room = let sum = put_waiting s.active tag.lane build (record build { faulted = true }) h.sorted (of_lane s tag build is) in
          let room = h.room in omega arith;
    }

ended_room : (b : Base) (active : Active) (lane : ℕ) → HasRoom b active → HasRoom b (without_build active lane)
ended_room b active lane h = record {
  sorted = is_sorted-where_key nat_cmp (λ key. not (key == lane)) active h.sorted;
  room = let fewer = without_waiting active (λ key. not (key == lane)) in let room = h.room in omega arith;
}

settled_room : (s : State) (tag : Tag) (n : ℕ) (end : UnitEnd) → HasRoom s.base s.active → ComesTo s tag n end
    → HasRoom s.base (with_outcome s.active tag.lane (λ b. Some n) (Concluded end))
settled_room s tag n (ends.Kept id) h e = waited_room s tag n e.build e.unit (λ b. Some n) (Concluded (ends.Kept id)) h
    e.open_unit.waits refl
settled_room s tag n (ends.Failed (unit_faults.Script fault)) h e =
    waited_room s tag n e.build e.unit (λ b. Some n) (Concluded (ends.Failed (unit_faults.Script fault))) h e.running.waits refl
settled_room s tag n end h e = waited_room s tag n e.build e.unit (λ b. Some n) (Concluded end) h e.waits refl

committed_room : (s : State) (tag : Tag) (moment : ℕ) (deed : Deed) → HasRoom s.base s.active
    → MakesRow s (record { tag = tag; moment = moment; deed = deed }) deed →
    HasRoom (record { tag = tag; moment = moment; deed = deed } ∷ s.base) (active_after s.base s.active tag.lane deed)
committed_room s tag moment (deeds.Publish view targets script entries outputs) h e =
    row_room s (record { tag = tag; moment = moment; deed = deeds.Publish view targets script entries outputs }) tag e.n e.build
    e.unit (λ build. unit_with_first build targets) (Given (size s.base))
    h e.running.waits e.place refl
committed_room s tag moment (deeds.Wink view id) h e =
    row_room s (record { tag = tag; moment = moment; deed = deeds.Wink view id }) tag e.n e.build e.unit
    (λ build. unit_with_first build (targets_of s.base id)) (Given id)
    h (elim e.may [ inl o ↦ o.waits | inr r ↦ r.waits ]) e.place refl
committed_room s tag moment deed h e =
    let says = says_of s tag (Makes deed) (decided_of s tag (Makes deed) e) in
    record { sorted = h.sorted; room = let all = all_reserved s.active in let room = says.room in omega arith }

-- Each lawful step leaves room.
pub step_room : (s : State) (x : StoryStep) → is_some s.opened ≡ true → HasRoom s.base s.active → Lawful s x
    → HasRoom (after s x).base (after s x).active
step_room s (story_steps.Opened rows counts tells) o h e = absurd (let first = e.first in cc)
step_room s (story_steps.PhaseBegun phase moment) o h e = h
step_room s (story_steps.Commit row tick) o h e = committed_room s row.tag row.moment row.deed h e.may.made
step_room s (story_steps.Begin tag rows count) o h e = begun_room s tag e.units h e.chosen
step_room s (story_steps.Start tag n) o h e = waited_room s tag n e.build e.unit (λ b. Some n)
    (came_by_starting (build_of s.active tag.lane) n) h e.open_unit.waits refl
step_room s (story_steps.Concluded tag n end) o h e = settled_room s tag n end h e
step_room s (story_steps.End tag) o h e = ended_room s.base s.active tag.lane h
step_room s (story_steps.Fault tag left before faults tick) o h e = faulted_room s tag h
step_room s x o h e = h
