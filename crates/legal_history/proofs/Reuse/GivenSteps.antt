-- Each lawful step keeps each object that an active build has given live and held by the build's view.
use Rattle.std.proofs.Common.{◌≡◌, refl, sym, subst, ◌∙◌, ℕ, true, Option, Some, None, Ok, List}
use Rattle.cc_names.specs.declared.rows.Tag.{Tag}
use Rattle.cc_names.specs.declared.steps.StoryStep.{StoryStep}
use Rattle.cc_names.specs.declared.steps.StoryStep.TheVariants as story_steps
use Rattle.cc_names.specs.declared.steps.UnitEnd.{UnitEnd}
use Rattle.cc_names.specs.declared.steps.UnitEnd.TheVariants as ends
use Rattle.cc_names.specs.declared.units.Unit.{Unit}
use Rattle.cc_names.proofs.Common.{same_inside}
use Rattle.base_model.specs.Rows.{size}
use Rattle.legal_history.specs.Builds.Active.{Build, Came, Concluded, build_of, object_of, unit_at}
use Rattle.legal_history.specs.Commands.Decisions.{Begins}
use Rattle.base_model.specs.Fits.{is_base}
use Rattle.legal_history.specs.Stories.States.{State, decision_for, build_by}
use Rattle.legal_history.specs.Stories.Steps.{after, with_outcome, came_by_starting, came_of_unit, build_begun_by}
use Rattle.legal_history.specs.Stories.Steps.{build_asked, with_came}
use Rattle.legal_history.specs.Stories.Lawful.{Lawful}
use Rattle.legal_history.specs.Builds.UnitTurns.{ComesTo, Keeps}
use Rattle.legal_history.specs.Builds.Turns.{unreadable}
use Rattle.legal_history.proofs.Stories.Goes.{of_lane}
use Rattle.base_model.proofs.Owned.{row_fits}
use Rattle.legal_history.proofs.Builds.AllBuilds.{Each, each_noted, each_without, each_begun, each_faulted}
use Rattle.legal_history.proofs.Stories.DecidedSteps.{decided_of, says_of, begun_is}
use Rattle.legal_history.proofs.Builds.UnitsCome.{start_without}
use Rattle.legal_history.proofs.Stories.ConsistentStories.{IsConsistentState, consistent_step}
use Rattle.legal_history.specs.Laws.Given.{IsHeld, HoldsGiven}
use Rattle.legal_history.proofs.Reuse.GivenRows.{came_given, came_without}
use Rattle.legal_history.proofs.Reuse.KeptObjects.{kept_held}
use Rattle.legal_history.proofs.Reuse.ViewsApart.{ViewsApart, apart_noted, apart_without, apart_faulted, apart_begun, begun_idle}
use Rattle.legal_history.proofs.Reuse.GivenCommits.{AllHeld, committed_given, committed_apart}

-- what a start comes to
unit_without : (o : Option Unit) → object_of (Some (came_of_unit o)) ≡ None
unit_without None = start_without None
unit_without (Some unit) = start_without (unreadable unit)

starting_without : (o : Option Build) (n : ℕ) → object_of (Some (came_by_starting o n)) ≡ None
starting_without None n = start_without None
starting_without (Some build) n = unit_without (unit_at build n)

without_object : (s : State) (lane : ℕ) (number : Build → Option ℕ) (came : Came) → object_of (Some came) ≡ None → AllHeld s
    → Each (λ lane. HoldsGiven s.base) (with_outcome s.active lane number came)
without_object s lane number came none h =
    each_noted (λ lane. HoldsGiven s.base) s.active lane number came h.given
    (λ build is. came_without s.base build (number build) came none (h.given.holds lane build is))

-- a unit keeps what the view holds at every target
kept_given : (s : State) (tag : Tag) (n id : ℕ) → is_base s.base ≡ true → AllHeld s → Keeps s tag n id
    → Each (λ lane. HoldsGiven s.base) (with_outcome s.active tag.lane (λ b. Some n) (Concluded (ends.Kept id)))
kept_given s tag n id base h e =
    each_noted (λ lane. HoldsGiven s.base) s.active tag.lane (λ b. Some n) (Concluded (ends.Kept id)) h.given own
  where
    there : build_of s.active tag.lane ≡ Some e.build
    there = of_lane s tag e.build e.open_unit.waits.active

    own : (build : Build) → build_of s.active tag.lane ≡ Some build → HoldsGiven s.base
        (with_came build (Some n) (Concluded (ends.Kept id)))
    own build is =
        let same : e.build ≡ build = same_inside (sym there ∙ is) in
        subst (λ x. HoldsGiven s.base (with_came x (Some n) (Concluded (ends.Kept id)))) same
        (came_given s.base e.build n (Concluded (ends.Kept id))
        (λ other object. let number : id ≡ other = same_inside object in
        subst (IsHeld s.base e.build n) number (kept_held s.base e.build n e.unit id base e.open_unit.waits.is_unit e.holds))
        (h.given.holds tag.lane e.build there))

settled_given : (s : State) (tag : Tag) (n : ℕ) (end : UnitEnd) → is_base s.base ≡ true → AllHeld s → ComesTo s tag n end
    → Each (λ lane. HoldsGiven s.base) (with_outcome s.active tag.lane (λ b. Some n) (Concluded end))
settled_given s tag n (ends.Kept id) base h e = kept_given s tag n id base h e
settled_given s tag n (ends.Failed fault) base h e = without_object s tag.lane (λ b. Some n) (Concluded (ends.Failed fault)) refl
    h
settled_given s tag n (ends.Blocked path) base h e = without_object s tag.lane (λ b. Some n) (Concluded (ends.Blocked path)) refl
    h
settled_given s tag n ends.Bare base h e = without_object s tag.lane (λ b. Some n) (Concluded ends.Bare) refl h

begun_given : (s : State) (tag : Tag) (us : List Unit) → decision_for s tag ≡ Some (Ok (Begins us)) → (build : Build)
    → build_begun_by s tag ≡ Some build → HoldsGiven s.base build
begun_given s tag us h build is =
    let says = says_of s tag (Begins us) (decided_of s tag (Begins us) h) in
    let made : build_asked tag (size s.base) us says.asked ≡ build = same_inside (sym (begun_is s tag us h) ∙ is) in
    subst (HoldsGiven s.base) made (record { given = λ n id own. absurd (cc) })

given_step : (s : State) (x : StoryStep) → IsConsistentState s → AllHeld s → Lawful s x
    → Each (λ lane. HoldsGiven (after s x).base) (after s x).active
given_step s (story_steps.Opened rows counts tells) sound h e = absurd (let first = e.first in let opened = sound.opened in cc)
given_step s (story_steps.Commit row tick) sound h e =
    let fit = row_fits row s.base (consistent_step s (story_steps.Commit row tick) sound e).base in
    committed_given s row.tag row.moment row.deed sound h fit e.may.made
given_step s (story_steps.Begin tag rows count) sound h e = each_begun (λ lane. HoldsGiven s.base) s.active tag.lane
    (build_begun_by s tag) h.given (begun_given s tag e.units e.chosen)
given_step s (story_steps.Start tag n) sound h e = without_object s tag.lane (λ b. Some n)
    (came_by_starting (build_of s.active tag.lane) n) (starting_without (build_of s.active tag.lane) n) h
given_step s (story_steps.Concluded tag n end) sound h e = settled_given s tag n end sound.base h e
given_step s (story_steps.End tag) sound h e = each_without (λ lane. HoldsGiven s.base) (λ lane. HoldsGiven s.base) s.active
    tag.lane h.given (λ lane build apart given. given)
given_step s (story_steps.Fault tag left before faults tick) sound h e = each_faulted (λ lane. HoldsGiven s.base) s.active tag.lane
    (build_by s tag) h.given (λ build is.
    record {
      given = λ n id own.
          let held = (h.given.holds tag.lane build (of_lane s tag build is)).given n id own in
          record {
            unit = held.unit;
            is_unit = held.is_unit;
            lives = held.lives;
            target = held.target;
            is_target = held.is_target;
            holds = held.holds;
          };
    })
given_step s x sound h e = h.given

apart_step : (s : State) (x : StoryStep) → AllHeld s → Lawful s x → ViewsApart (after s x).active
apart_step s (story_steps.Commit row tick) h e = committed_apart s row.tag.lane row.deed h
apart_step s (story_steps.Begin tag rows count) h e = apart_begun s.active tag.lane (build_begun_by s tag)
    (begun_idle s tag e.units e.chosen) h.apart
apart_step s (story_steps.Start tag n) h e = apart_noted s.active tag.lane (λ b. Some n)
    (came_by_starting (build_of s.active tag.lane) n) h.apart
apart_step s (story_steps.Concluded tag n end) h e = apart_noted s.active tag.lane (λ b. Some n) (Concluded end) h.apart
apart_step s (story_steps.End tag) h e = apart_without s.active tag.lane h.apart
apart_step s (story_steps.Fault tag left before faults tick) h e = apart_faulted s.active tag.lane (build_by s tag)
    (λ build is. of_lane s tag build is) h.apart
apart_step s x h e = h.apart

pub held_step : (s : State) (x : StoryStep) → IsConsistentState s → AllHeld s → Lawful s x → AllHeld (after s x)
held_step s x sound h e = record { given = given_step s x sound h e; apart = apart_step s x h e }
