-- A lawful step leaves every active build consistent, in a view that exists.
use Rattle.std.proofs.Common.{◌≡◌, refl, ap, sym, subst, ◌∙◌, ℕ, true, Some, None, Ok, List, ◌∷◌}
use Rattle.std.specs.Prelude.{is_some}
use Rattle.cc_names.specs.Formed.{Plain}
use Rattle.cc_names.specs.Last.{value_after}
use Rattle.cc_names.specs.declared.refusals.UnitFault.TheVariants as unit_faults
use Rattle.cc_names.specs.declared.rows.Deed.{Deed}
use Rattle.cc_names.specs.declared.rows.Deed.TheVariants as deeds
use Rattle.cc_names.specs.declared.rows.Tag.{Tag}
use Rattle.cc_names.specs.declared.steps.StoryStep.{StoryStep}
use Rattle.cc_names.specs.declared.steps.StoryStep.TheVariants as story_steps
use Rattle.cc_names.specs.declared.steps.UnitEnd.{UnitEnd}
use Rattle.cc_names.specs.declared.steps.UnitEnd.TheVariants as ends
use Rattle.cc_names.specs.declared.units.Unit.{Unit}
use Rattle.cc_names.proofs.Common.{same_inside}
use Rattle.base_model.specs.Rows.{size}
use Rattle.legal_history.specs.Builds.Active.{Build, Concluded, Given, build_of, object_of, unit_with_first}
use Rattle.base_model.specs.Changes.{targets_of}
use Rattle.legal_history.specs.Commands.Decisions.{Makes, Begins}
use Rattle.base_model.specs.Fits.{is_base}
use Rattle.base_model.specs.Texts.{texts}
use Rattle.legal_history.specs.Stories.States.{State, decision_for, build_by}
use Rattle.legal_history.specs.Stories.Steps.{after, with_outcome, came_by_starting, active_after, build_begun_by}
use Rattle.legal_history.specs.Stories.Steps.{build_asked}
use Rattle.legal_history.specs.Stories.Committing.{MakesRow}
use Rattle.legal_history.specs.Stories.Lawful.{Lawful}
use Rattle.legal_history.specs.Builds.UnitTurns.{ComesTo, EndsEarly, Starts}
use Rattle.legal_history.specs.Builds.Turns.{came_by_start, unreadable}
use Rattle.legal_history.proofs.Stories.Goes.{of_lane}
use Rattle.legal_history.proofs.Builds.ConsistentStays.{IsBegun, begins_consistent, consistent_faulted, is_object_stays}
use Rattle.legal_history.proofs.Builds.ConsistentStays.{keeps_with, keeps_without}
use Rattle.legal_history.proofs.Builds.AllBuilds.{Each, each_without, each_begun, each_faulted}
use Rattle.legal_history.proofs.Builds.OrderedUnits.{units_in_order}
use Rattle.legal_history.proofs.Builds.Published.{is_publish, published_object}
use Rattle.legal_history.proofs.Builds.ReadyUnits.{ready_by}
use Rattle.legal_history.proofs.Stories.DecidedSteps.{decided_of, says_of, begun_is}
use Rattle.legal_history.proofs.Builds.UnitsCome.{start_came, start_without}
use Rattle.legal_history.proofs.Builds.FineBuilds.{IsFine, fine_stays, waited_fine, takes_for}
use Rattle.legal_history.proofs.Reuse.KeptObjects.{chosen_object}

early_fine : (s : State) (tag : Tag) (n : ℕ) (end : UnitEnd) → Each (λ lane. IsFine s.base) s.active → EndsEarly s tag n end
    → object_of (Some (Concluded end)) ≡ None →
    Each (λ lane. IsFine s.base) (with_outcome s.active tag.lane (λ b. Some n) (Concluded end))
early_fine s tag n end h e plain =
    waited_fine s s.base tag n e.build e.unit (λ b. Some n) (Concluded end) h (of_lane s tag e.build e.waits.active) refl
    (keeps_without s.base e.build n e.unit (Concluded end) e.waits.is_unit e.waits.waits (ready_by e.build e.unit e.ready) plain)

settled_fine : (s : State) (tag : Tag) (n : ℕ) (end : UnitEnd) → is_base s.base ≡ true → Each (λ lane. IsFine s.base) s.active
    → ComesTo s tag n end → Each (λ lane. IsFine s.base) (with_outcome s.active tag.lane (λ b. Some n) (Concluded end))
settled_fine s tag n (ends.Kept id) base h e =
    let waits = e.open_unit.waits in
    waited_fine s s.base tag n e.build e.unit (λ b. Some n) (Concluded (ends.Kept id)) h (of_lane s tag e.build waits.active) refl
    (keeps_with s.base e.build n id e.unit (Concluded (ends.Kept id)) waits.is_unit waits.waits
    (ready_by e.build e.unit e.open_unit.ready) refl (chosen_object s.base e.build n e.unit id base e.chosen))
settled_fine s tag n (ends.Failed (unit_faults.Script fault)) base h e =
    let there = of_lane s tag e.build e.running.waits.active in
    let ready = (h.holds tag.lane e.build there).consistent.ready n e.unit e.running.waits.is_unit (ap is_some e.running.started)
    in
    waited_fine s s.base tag n e.build e.unit (λ b. Some n) (Concluded (ends.Failed (unit_faults.Script fault))) h there refl
    (keeps_without s.base e.build n e.unit (Concluded (ends.Failed (unit_faults.Script fault))) e.running.waits.is_unit
    e.running.waits.waits ready refl)
settled_fine s tag n (ends.Failed fault) base h e = early_fine s tag n (ends.Failed fault) h e refl
settled_fine s tag n (ends.Blocked path) base h e = early_fine s tag n (ends.Blocked path) h e refl
settled_fine s tag n ends.Bare base h e = early_fine s tag n ends.Bare h e refl

started_fine : (s : State) (tag : Tag) (n : ℕ) → Each (λ lane. IsFine s.base) s.active → Starts s tag n
    → Each (λ lane. IsFine s.base) (with_outcome s.active tag.lane (λ b. Some n)
    (came_by_starting (build_of s.active tag.lane) n))
started_fine s tag n h e =
    let waits = e.open_unit.waits in
    let there = of_lane s tag e.build waits.active in
    subst (λ came. Each (λ lane. IsFine s.base) (with_outcome s.active tag.lane (λ b. Some n) came))
    (sym (start_came s tag n e.build e.unit there waits.is_unit))
    (waited_fine s s.base tag n e.build e.unit (λ b. Some n) (came_by_start (unreadable e.unit)) h there refl
    (keeps_without s.base e.build n e.unit (came_by_start (unreadable e.unit)) waits.is_unit waits.waits
    (ready_by e.build e.unit e.open_unit.ready) (start_without (unreadable e.unit))))

-- the build that a command begins, before any of its units came to anything
pub begun_begins : (s : State) (tag : Tag) (us : List Unit) → is_base s.base ≡ true
    → (h : decision_for s tag ≡ Some (Ok (Begins us))) → let says = says_of s tag (Begins us) (decided_of s tag (Begins us) h) in
    IsBegun s.base (build_asked tag (size s.base) us says.asked)
begun_begins s tag us base h =
    let says = says_of s tag (Begins us) (decided_of s tag (Begins us) h) in
    record {
      rows = refl;
      base = base;
      in_order = units_in_order (texts s.base says.asked.view) says.asked.file says.asked.macros
          says.asked.goals us says.of_makefile;
      nothing = refl;
    }

begun_fine : (s : State) (tag : Tag) (us : List Unit) → is_base s.base ≡ true → decision_for s tag ≡ Some (Ok (Begins us))
    → (build : Build) → build_begun_by s tag ≡ Some build → IsFine s.base build
begun_fine s tag us base h build is =
    let says = says_of s tag (Begins us) (decided_of s tag (Begins us) h) in
    let made : Some (build_asked tag (size s.base) us says.asked) ≡ Some build = sym (begun_is s tag us h) ∙ is in
    subst (IsFine s.base) (same_inside made) (record {
      consistent = begins_consistent s.base (build_asked tag (size s.base) us says.asked) (begun_begins s tag us base h);
      there = says.there;
    })

committed_fine : (s : State) (tag : Tag) (moment : ℕ) (deed : Deed) → is_base s.base ≡ true
    → Each (λ lane. IsFine s.base) s.active → MakesRow s (record { tag = tag; moment = moment; deed = deed }) deed →
    Each (λ lane. IsFine (record { tag = tag; moment = moment; deed = deed } ∷ s.base))
    (active_after s.base s.active tag.lane deed)
committed_fine s tag moment (deeds.Publish view targets script entries outputs) base h e =
    let row : Plain = record { tag = tag; moment = moment; deed = deeds.Publish view targets script entries outputs } in
    let there = of_lane s tag e.build e.running.waits.active in
    let ready = (h.holds tag.lane e.build there).consistent.ready e.n e.unit e.running.waits.is_unit
    (ap is_some e.running.started) in
    waited_fine s (row ∷ s.base) tag e.n e.build e.unit (λ build. unit_with_first build targets) (Given (size s.base))
    (fine_stays s row tt h) there e.place
    (keeps_with (row ∷ s.base) e.build e.n (size s.base) e.unit (Given (size s.base)) e.running.waits.is_unit
    e.running.waits.waits ready refl
    (published_object row s.base e.build e.n e.unit (is_publish s.base e.build e.n e.unit
    (deeds.Publish view targets script entries outputs) e.made)))
committed_fine s tag moment (deeds.Wink view id) base h e =
    let row : Plain = record { tag = tag; moment = moment; deed = deeds.Wink view id } in
    let w = takes_for s tag e.n e.build e.unit e.may in
    waited_fine s (row ∷ s.base) tag e.n e.build e.unit (λ build. unit_with_first build (targets_of s.base id)) (Given id)
    (fine_stays s row tt h) w.there e.place
    (keeps_with (row ∷ s.base) e.build e.n id e.unit (Given id) w.is_unit w.waits
    (w.ready (h.holds tag.lane e.build w.there).consistent) refl
    (is_object_stays row s.base e.unit id (chosen_object s.base e.build e.n e.unit id base e.chosen)))
committed_fine s tag moment deed base h e =
    fine_stays s (record { tag = tag; moment = moment; deed = deed }) (says_of s tag (Makes deed)
    (decided_of s tag (Makes deed) e)).idle h

-- Each lawful step leaves each active build fine.
pub step_fine : (s : State) (x : StoryStep) → is_base s.base ≡ true → is_some s.opened ≡ true
    → Each (λ lane. IsFine s.base) s.active → Lawful s x → Each (λ lane. IsFine (after s x).base) (after s x).active
step_fine s (story_steps.Opened rows counts tells) base o h e = absurd (let first = e.first in cc)
step_fine s (story_steps.PhaseBegun phase moment) base o h e = h
step_fine s (story_steps.Commit row tick) base o h e = committed_fine s row.tag row.moment row.deed base h e.may.made
step_fine s (story_steps.Begin tag rows count) base o h e = each_begun (λ lane. IsFine s.base) s.active tag.lane
    (build_begun_by s tag) h (begun_fine s tag e.units base e.chosen)
step_fine s (story_steps.Start tag n) base o h e = started_fine s tag n h e
step_fine s (story_steps.Concluded tag n end) base o h e = settled_fine s tag n end base h e
step_fine s (story_steps.End tag) base o h e = each_without (λ lane. IsFine s.base) (λ lane. IsFine s.base) s.active tag.lane h
    (λ lane build apart fine. fine)
step_fine s (story_steps.Fault tag value_after before faults tick) base o h e =
    each_faulted (λ lane. IsFine s.base) s.active tag.lane (build_by s tag) h (λ build is.
    let fine = h.holds tag.lane build (of_lane s tag build is) in
    record { consistent = consistent_faulted s.base build fine.consistent; there = fine.there })
step_fine s x base o h e = h
