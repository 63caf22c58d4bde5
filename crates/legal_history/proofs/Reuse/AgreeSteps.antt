-- A lawful step leaves every active build agreeing with the build from nothing, where the base is sound.
use Rattle.std.proofs.Common.{◌≡◌, refl, ap, sym, subst, ◌∙◌, inl, ℕ, true, Some, None, Ok, List, ◌∷◌}
use Rattle.cc_names.specs.Formed.{Plain}
use Rattle.cc_names.specs.declared.refusals.UnitFault.TheVariants as unit_faults
use Rattle.cc_names.specs.declared.rows.Deed.{Deed}
use Rattle.cc_names.specs.declared.rows.Deed.TheVariants as deeds
use Rattle.cc_names.specs.declared.rows.Tag.{Tag}
use Rattle.cc_names.specs.declared.steps.StoryStep.{StoryStep}
use Rattle.cc_names.specs.declared.steps.StoryStep.TheVariants as story_steps
use Rattle.cc_names.specs.declared.steps.UnitEnd.{UnitEnd}
use Rattle.cc_names.specs.declared.steps.UnitEnd.TheVariants as ends
use Rattle.cc_names.specs.declared.units.Unit.{Unit}
use Rattle.cc_names.proofs.Common.{same_inside}
use Rattle.base_model.specs.Rows.{size}
use Rattle.legal_history.specs.Builds.Active.{Build, Concluded, Given, build_of, object_of, unit_with_first}
use Rattle.base_model.specs.Changes.{targets_of}
use Rattle.legal_history.specs.Stories.Committing.{MakesRow}
use Rattle.legal_history.specs.Commands.Decisions.{Begins}
use Rattle.base_model.specs.Fits.{is_base}
use Rattle.legal_history.specs.Builds.Freshness.{AgreesSoFar}
use Rattle.legal_history.specs.Builds.Values as values
use Rattle.legal_history.specs.Stories.States.{State, decision_for, build_by}
use Rattle.legal_history.specs.Stories.Steps.{after, active_after, build_begun_by, build_asked, came_by_starting}
use Rattle.legal_history.specs.Stories.Steps.{with_outcome}
use Rattle.legal_history.specs.Stories.Lawful.{Lawful}
use Rattle.legal_history.specs.Builds.Turns.{came_by_start, unreadable}
use Rattle.legal_history.specs.Builds.UnitTurns.{EndsEarly, ComesTo, Starts}
use Rattle.legal_history.proofs.Builds.AgreeStays.{begins_so, came_so, faulted_agrees, row_added}
use Rattle.legal_history.proofs.Builds.AllBuilds.{Each, each_as, each_begun, each_faulted, each_without}
use Rattle.legal_history.proofs.Builds.BuildSteps.{begun_begins}
use Rattle.legal_history.proofs.Builds.FineBuilds.{each_waited, takes_for}
use Rattle.legal_history.proofs.Builds.FreshSeen.{early_same}
use Rattle.legal_history.proofs.Builds.Published.{is_publish}
use Rattle.legal_history.proofs.Builds.ReadyUnits.{ready_by}
use Rattle.legal_history.proofs.Builds.UnitsCome.{start_came, start_may, early_may, fails_may, given_may}
use Rattle.legal_history.proofs.Stories.DecidedSteps.{decided_of, says_of, begun_is}
use Rattle.legal_history.proofs.Stories.Goes.{of_lane}
use Rattle.legal_history.proofs.Stories.ConsistentStories.{IsConsistentState}
use Rattle.legal_history.proofs.Reuse.GivenCommits.{AllHeld}
use Rattle.legal_history.proofs.Reuse.SoundBases.{gives_live}
use Rattle.legal_history.proofs.Reuse.TakenObjects.{kept_agrees, may_take_may_run, winked_agrees}

-- each active build agrees
abbrev pub BuildsAgree : State → Type 0
BuildsAgree s = Each (λ lane. AgreesSoFar s.base) s.active

early_agrees : (s : State) (tag : Tag) (n : ℕ) (end : UnitEnd) → BuildsAgree s → EndsEarly s tag n end
    → object_of (Some (Concluded end)) ≡ None → Each (λ lane. AgreesSoFar s.base)
    (with_outcome s.active tag.lane (λ b. Some n) (Concluded end))
early_agrees s tag n end h e plain =
    let there = of_lane s tag e.build e.waits.active in
    let agrees = h.holds tag.lane e.build there in
    each_waited (AgreesSoFar s.base) s tag n e.build (λ b. Some n) (Concluded end) h there refl
    (came_so s.base e.build n e.unit (Concluded end) agrees (early_may s.base e.build n e.unit end agrees e.waits.is_unit
    e.waits.waits (ready_by e.build e.unit e.ready) e.ends plain))

settled_agrees : (s : State) (tag : Tag) (n : ℕ) (end : UnitEnd) → values.IsSound s.base → is_base s.base ≡ true → AllHeld s
    → BuildsAgree s → ComesTo s tag n end → Each (λ lane. AgreesSoFar s.base)
    (with_outcome s.active tag.lane (λ b. Some n) (Concluded end))
settled_agrees s tag n (ends.Kept id) whole base held h e =
    let there = of_lane s tag e.build e.open_unit.waits.active in
    each_waited (AgreesSoFar s.base) s tag n e.build (λ b. Some n) (Concluded (ends.Kept id)) h there refl
    (kept_agrees s.base e.build n e.unit id base whole (gives_live s.base e.build (held.given.holds tag.lane e.build there))
    (h.holds tag.lane e.build there) e.open_unit.waits.is_unit
    (may_take_may_run s tag n e.build e.unit (inl e.open_unit)) e.chosen)
settled_agrees s tag n (ends.Failed (unit_faults.Script fault)) whole base held h e =
    let there = of_lane s tag e.build e.running.waits.active in
    let agrees = h.holds tag.lane e.build there in
    each_waited (AgreesSoFar s.base) s tag n e.build (λ b. Some n) (Concluded (ends.Failed (unit_faults.Script fault))) h there
    refl
    (came_so s.base e.build n e.unit (Concluded (ends.Failed (unit_faults.Script fault))) agrees
    (fails_may s.base e.build n e.unit fault agrees e.running.waits.is_unit e.running.waits.waits e.running.started e.fails))
settled_agrees s tag n (ends.Failed fault) whole base held h e = early_agrees s tag n (ends.Failed fault) h e refl
settled_agrees s tag n (ends.Blocked path) whole base held h e = early_agrees s tag n (ends.Blocked path) h e refl
settled_agrees s tag n ends.Bare whole base held h e = early_agrees s tag n ends.Bare h e refl

started_agrees : (s : State) (tag : Tag) (n : ℕ) → BuildsAgree s → Starts s tag n
    → Each (λ lane. AgreesSoFar s.base) (with_outcome s.active tag.lane (λ b. Some n)
    (came_by_starting (build_of s.active tag.lane) n))
started_agrees s tag n h e =
    let waits = e.open_unit.waits in
    let there = of_lane s tag e.build waits.active in
    let agrees = h.holds tag.lane e.build there in
    let ready = ready_by e.build e.unit e.open_unit.ready in
    subst (λ came. Each (λ lane. AgreesSoFar s.base) (with_outcome s.active tag.lane (λ b. Some n) came))
    (sym (start_came s tag n e.build e.unit there waits.is_unit))
    (each_waited (AgreesSoFar s.base) s tag n e.build (λ b. Some n) (came_by_start (unreadable e.unit)) h there refl
    (came_so s.base e.build n e.unit (came_by_start (unreadable e.unit)) agrees
    (start_may s.base e.build n e.unit agrees waits.is_unit waits.waits ready
    (sym (early_same s.base e.build n e.unit agrees waits.is_unit ready) ∙ e.open_unit.runs))))

begun_agrees : (s : State) (tag : Tag) (us : List Unit) → is_base s.base ≡ true → decision_for s tag ≡ Some (Ok (Begins us))
    → (build : Build) → build_begun_by s tag ≡ Some build → AgreesSoFar s.base build
begun_agrees s tag us base h build is =
    let says = says_of s tag (Begins us) (decided_of s tag (Begins us) h) in
    let made : Some (build_asked tag (size s.base) us says.asked) ≡ Some build = sym (begun_is s tag us h) ∙ is in
    subst (AgreesSoFar s.base) (same_inside made) (begins_so s.base (build_asked tag (size s.base) us says.asked)
    (begun_begins s tag us base h))

-- a row of whatever deed
agrees_on : (s : State) (row : Plain) → BuildsAgree s → Each (λ lane. AgreesSoFar (row ∷ s.base)) s.active
agrees_on s row h = each_as (λ lane. AgreesSoFar s.base) (λ lane. AgreesSoFar (row ∷ s.base)) s.active h
    (λ lane build is agrees. row_added row s.base build agrees)

committed_agrees : (s : State) (tag : Tag) (moment : ℕ) (deed : Deed) → values.IsSound s.base → is_base s.base ≡ true → AllHeld s
    → BuildsAgree s → MakesRow s (record { tag = tag; moment = moment; deed = deed }) deed →
    Each (λ lane. AgreesSoFar (record { tag = tag; moment = moment; deed = deed } ∷ s.base))
    (active_after s.base s.active tag.lane deed)
committed_agrees s tag moment (deeds.Publish view targets script entries outputs) whole base held h e =
    let row : Plain = record { tag = tag; moment = moment; deed = deeds.Publish view targets script entries outputs } in
    let there = of_lane s tag e.build e.running.waits.active in
    let agrees = h.holds tag.lane e.build there in
    each_waited (AgreesSoFar (row ∷ s.base)) s tag e.n e.build (λ build. unit_with_first build targets) (Given (size s.base))
    (agrees_on s row h) there e.place
    (came_so (row ∷ s.base) e.build e.n e.unit (Given (size s.base)) (row_added row s.base e.build agrees)
    (given_may row s.base e.build e.n e.unit agrees e.running.waits.is_unit e.running.waits.waits e.running.started
    (is_publish s.base e.build e.n e.unit (deeds.Publish view targets script entries outputs) e.made)))
committed_agrees s tag moment (deeds.Wink view id) whole base held h e =
    let row : Plain = record { tag = tag; moment = moment; deed = deeds.Wink view id } in
    let w = takes_for s tag e.n e.build e.unit e.may in
    each_waited (AgreesSoFar (row ∷ s.base)) s tag e.n e.build (λ build. unit_with_first build (targets_of s.base id)) (Given id)
    (agrees_on s row h) w.there e.place
    (winked_agrees row s.base e.build e.n e.unit id base whole (gives_live s.base e.build
    (held.given.holds tag.lane e.build w.there)) (h.holds tag.lane e.build w.there) w.is_unit
    (may_take_may_run s tag e.n e.build e.unit e.may) e.chosen (ap (λ v. deeds.Wink v id) (sym e.of_view)))
committed_agrees s tag moment deed whole base held h e = agrees_on s (record { tag = tag; moment = moment; deed = deed }) h

-- Each lawful step leaves each active build agreeing.
pub agree_step : (s : State) (x : StoryStep) → IsConsistentState s → values.IsSound s.base → AllHeld s → BuildsAgree s
    → Lawful s x → BuildsAgree (after s x)
agree_step s (story_steps.Opened rows counts tells) sound whole held h e =
    absurd (let first = e.first in let opened = sound.opened in cc)
agree_step s (story_steps.PhaseBegun phase moment) sound whole held h e = h
agree_step s (story_steps.Commit row tick) sound whole held h e = committed_agrees s row.tag row.moment row.deed whole sound.base
    held h e.may.made
agree_step s (story_steps.Begin tag rows count) sound whole held h e = each_begun (λ lane. AgreesSoFar s.base) s.active tag.lane
    (build_begun_by s tag) h (begun_agrees s tag e.units sound.base e.chosen)
agree_step s (story_steps.Start tag n) sound whole held h e = started_agrees s tag n h e
agree_step s (story_steps.Concluded tag n end) sound whole held h e = settled_agrees s tag n end whole sound.base held h e
agree_step s (story_steps.End tag) sound whole held h e = each_without (λ lane. AgreesSoFar s.base) (λ lane. AgreesSoFar s.base)
    s.active tag.lane h (λ lane build apart agrees. agrees)
agree_step s (story_steps.Fault tag left before faults tick) sound whole held h e =
    each_faulted (λ lane. AgreesSoFar s.base) s.active tag.lane (build_by s tag) h
    (λ build is. faulted_agrees s.base build (h.holds tag.lane build (of_lane s tag build is)))
agree_step s x sound whole held h e = h
