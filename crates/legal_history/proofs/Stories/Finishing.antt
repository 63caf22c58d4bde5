-- A command that builds is finished by its refusal, or by the end of its build.
use Rattle.std.proofs.Common.{◌≡◌, refl, ap, sym, subst, ◌∙◌, inl, inr, ℕ, ◌+◌, Bool, true, false, ◌==◌, Option, Some, None}
use Rattle.std.proofs.Common.{Result, Ok, Err, List, length, arith}
use Rattle.std.specs.Prelude.{option_map}
use Rattle.cc_names.specs.Formed.{Plain}
use Rattle.cc_names.specs.declared.commands.Clearmake.{Clearmake}
use Rattle.cc_names.specs.declared.commands.Command.{Command}
use Rattle.cc_names.specs.declared.commands.Command.TheVariants as commands
use Rattle.cc_names.specs.declared.refusals.Refusal.{Refusal}
use Rattle.cc_names.specs.declared.rows.Deed.{Deed}
use Rattle.cc_names.specs.declared.rows.Deed.TheVariants as deeds
use Rattle.cc_names.specs.declared.rows.Tag.{Tag}
use Rattle.cc_names.specs.declared.steps.StoryStep.{StoryStep}
use Rattle.cc_names.specs.declared.steps.StoryStep.TheVariants as story_steps
use Rattle.cc_names.specs.declared.units.Unit.{Unit}
use Rattle.cc_names.proofs.Common.{same_inside, same_number}
use Rattle.make_grammar.specs.Graphs.{units}
use Rattle.legal_history.specs.Builds.Active.{Build, build_of}
use Rattle.legal_history.specs.Stories.Committing.{FaultsAt, MakesRow}
use Rattle.legal_history.specs.Commands.Decisions.{Answers, Begins, Decision, Makes, Scene, first_refusal, needs_room}
use Rattle.legal_history.specs.Commands.Decisions.{unless_refused}
use Rattle.base_model.specs.Texts.{texts}
use Rattle.legal_history.specs.Commands.Lines.{decision}
use Rattle.legal_history.specs.Commands.ObjectLines.{build_unless, clearmake_tests}
use Rattle.legal_history.specs.Stories.States.{State, build_by, decision_for, done_of, next_command, next_tag, scene, with_done}
use Rattle.legal_history.specs.Stories.Steps.{after, done_after, done_by_fault}
use Rattle.legal_history.specs.Stories.Lawful.{Lawful}
use Rattle.legal_history.specs.Laws.Ends.{IsLeft, IsRefused}
use Rattle.legal_history.proofs.Builds.CommandStays.{next_is, other_done}
use Rattle.legal_history.proofs.Decisions.DecidedIdle.{builds_nothing}
use Rattle.legal_history.proofs.Stories.Goes.{decided_is_idle, of_lane}
use Rattle.legal_history.proofs.Stories.Leaving.{ends_so}

-- a lane that finishes a command has one more
not_more : (n : ℕ) → n ≡ n + 1 → ⊥
not_more n h = omega (arith, h)

none_before : (n : ℕ) → 0 ≡ n + 1 → ⊥
none_before n h = omega (arith, h)

finished_lane : (done : List (ℕ × ℕ)) (lane other : ℕ) → done_of (with_done done other) lane ≡ done_of done lane + 1
    → lane ≡ other
finished_lane done lane other h = by (lane == other) refl
  where
    by : (t : Bool) → (lane == other) ≡ t → lane ≡ other
    by true e = same_number lane other e
    by false e = absurd (not_more (done_of done lane) (sym (other_done done lane other e) ∙ h))

-- a lane has one next command
one_next : (s : State) (tag other : Tag) (command given : Command) → next_command s tag ≡ Some command
    → next_command s other ≡ Some given → tag.lane ≡ other.lane → tag ≡ other
one_next s tag other command given next behind number = (next_is s tag command next).tag_is ∙ ap (next_tag s) number
    ∙ sym (next_is s other given behind).tag_is

record NextOf (s : State) (tag : Tag) (r : Result Decision Refusal) : Type 0 where
  command : Command
  next : next_command s tag ≡ Some command
  is : decision (scene s) command ≡ r

next_of : (s : State) (tag : Tag) (r : Result Decision Refusal) → decision_for s tag ≡ Some r → NextOf s tag r
next_of s tag r h = by (next_command s tag) refl h
  where
    by : (o : Option Command) → next_command s tag ≡ o → option_map (decision (scene s)) o ≡ Some r → NextOf s tag r
    by None next h = absurd (cc)
    by (Some command) next h = record { command = command; next = next; is = same_inside h }

-- what is decided of a command of the lane is decided of its next one
same_decision : (s : State) (tag other : Tag) (command : Command) (r : Result Decision Refusal)
    → next_command s tag ≡ Some command → decision_for s other ≡ Some r → tag.lane ≡ other.lane → decision (scene s) command ≡ r
same_decision s tag other command r next h number =
    let o = next_of s other r h in
    let same : tag ≡ other = one_next s tag other command o.command next o.next number in
    let one : o.command ≡ command = same_inside (sym o.next ∙ ap (next_command s) (sym same) ∙ next) in
    subst (λ c. decision (scene s) c ≡ r) one o.is

-- a command that builds makes no row by itself, and is answered nothing
makes_none : (s : Scene) (asked : Clearmake) (deed : Deed) → decision s (commands.Build asked) ≡ Ok (Makes deed) → ⊥
makes_none s asked deed h = builds_nothing s (first_refusal (clearmake_tests s asked.view))
    (units (texts s.base asked.view) asked.file asked.macros asked.goals) deed h

begins_unless : (o : Option Refusal) (us : List Unit) (text : List ℕ) → unless_refused o (Begins us) ≡ Ok (Answers text) → ⊥
begins_unless (Some refusal) us text h = cc
begins_unless None us text h = cc

answers_nothing : (s : Scene) (o : Option Refusal) (us : Result (List Unit) Refusal) (text : List ℕ)
    → build_unless s o us ≡ Ok (Answers text) → ⊥
answers_nothing s (Some refusal) us text h = cc
answers_nothing s None (Err refusal) text h = cc
answers_nothing s None (Ok us) text h = begins_unless (needs_room s (length us)) us text h

answers_none : (s : Scene) (asked : Clearmake) (text : List ℕ) → decision s (commands.Build asked) ≡ Ok (Answers text) → ⊥
answers_none s asked text h = answers_nothing s (first_refusal (clearmake_tests s asked.view))
    (units (texts s.base asked.view) asked.file asked.macros asked.goals) text h

-- a lane in which nothing builds has no active build
no_build : (s : State) (tag other : Tag) (build : Build) → build_of s.active tag.lane ≡ None → build_by s other ≡ Some build
    → tag.lane ≡ other.lane → ⊥
no_build s tag other build idle active number = let some : build_of s.active tag.lane ≡ Some build = ap (build_of s.active) number
    ∙ of_lane s other build active in cc

-- the lane of a command that is next is idle
idle_next : (s : State) (tag : Tag) (command : Command) → next_command s tag ≡ Some command → build_of s.active tag.lane ≡ None
idle_next s tag command next = decided_is_idle s tag (ap (option_map (decision (scene s))) next)

-- a row is committed for no command that builds, where that has not begun
no_row : (s : State) (tag : Tag) (asked : Clearmake) (row : Plain) (deed : Deed)
    → next_command s tag ≡ Some (commands.Build asked) → MakesRow s row deed → tag.lane ≡ row.tag.lane → ⊥
no_row s tag asked row (deeds.Publish view targets script entries outputs) next e number =
    no_build s tag row.tag e.build (idle_next s tag (commands.Build asked) next) e.running.waits.active number
no_row s tag asked row (deeds.Wink view id) next e number = elim e.may [
  | inl o ↦ no_build s tag row.tag e.build (idle_next s tag (commands.Build asked) next) o.waits.active number
  | inr r ↦ no_build s tag row.tag e.build (idle_next s tag (commands.Build asked) next) r.waits.active number
]
no_row s tag asked row deed next e number = makes_none (scene s) asked row.deed
    (same_decision s tag row.tag (commands.Build asked) (Ok (Makes row.deed)) next e number)

committed_none : (s : State) (tag : Tag) (asked : Clearmake) (row : Plain) (deed : Deed)
    → next_command s tag ≡ Some (commands.Build asked) → MakesRow s row deed →
    done_of (done_after s.done row.tag.lane deed) tag.lane ≡ done_of s.done tag.lane + 1 → ⊥
committed_none s tag asked row (deeds.Publish view targets script entries outputs) next e h = not_more (done_of s.done tag.lane) h
committed_none s tag asked row (deeds.Wink view id) next e h = not_more (done_of s.done tag.lane) h
committed_none s tag asked row deed next e h = no_row s tag asked row deed next e (finished_lane s.done tag.lane row.tag.lane h)

faulted_none : (s : State) (tag other : Tag) (asked : Clearmake) (left : Option Plain) (before faults tick : ℕ) (o : Option Build)
    → next_command s tag ≡ Some (commands.Build asked) → FaultsAt s other left before faults tick →
    done_of (done_by_fault s.done other.lane o) tag.lane ≡ done_of s.done tag.lane + 1 → ⊥
faulted_none s tag other asked left before faults tick (Some build) next e h = not_more (done_of s.done tag.lane) h
faulted_none s tag other asked left before faults tick None next e h =
    let wanted = e.wanted in
    no_row s tag asked wanted.row wanted.row.deed next wanted.may.made (finished_lane s.done tag.lane other.lane h
    ∙ ap (λ (t : Tag). t.lane) (sym wanted.of_tag))

ended_none : (s : State) (tag other : Tag) (command : Command) (build : Build) → next_command s tag ≡ Some command
    → build_by s other ≡ Some build → done_of (with_done s.done other.lane) tag.lane ≡ done_of s.done tag.lane + 1 → ⊥
ended_none s tag other command build next active h = no_build s tag other build (idle_next s tag command next) active
    (finished_lane s.done tag.lane other.lane h)

refused_so : (s : State) (tag other : Tag) (refusal : Refusal) (command : Command) → next_command s tag ≡ Some command
    → decision_for s other ≡ Some (Err refusal) → tag.lane ≡ other.lane
    → IsRefused s (story_steps.Refused other refusal) tag
refused_so s tag other refusal command next e number =
    let o = next_of s other (Err refusal) e in
    let same : tag ≡ other = one_next s tag other command o.command next o.next number in
    record {
      refusal = refusal;
      is = ap (λ t. story_steps.Refused t refusal) (sym same);
      decided_so = ap (decision_for s) same ∙ e;
    }

pub is_refused : (s : State) (x : StoryStep) (tag : Tag) (asked : Clearmake) → next_command s tag ≡ Some (commands.Build asked)
    → Lawful s x → done_of (after s x).done tag.lane ≡ done_of s.done tag.lane + 1 → IsRefused s x tag
is_refused s (story_steps.Opened rows counts tells) tag asked next e h = absurd (not_more (done_of s.done tag.lane) h)
is_refused s (story_steps.PhaseBegun phase moment) tag asked next e h = absurd (none_before (done_of s.done tag.lane) h)
is_refused s (story_steps.Commit row tick) tag asked next e h = absurd (committed_none s tag asked row row.deed next e.may.made h)
is_refused s (story_steps.Refused other refusal) tag asked next e h = refused_so s tag other refusal (commands.Build asked) next e
    (finished_lane s.done tag.lane other.lane h)
is_refused s (story_steps.Answer other text) tag asked next e h =
    absurd (answers_none (scene s) asked text (same_decision s tag other (commands.Build asked) (Ok (Answers text)) next e
    (finished_lane s.done tag.lane other.lane h)))
is_refused s (story_steps.End other) tag asked next e h = absurd (ended_none s tag other (commands.Build asked) e.build next
    e.active h)
is_refused s (story_steps.Fault other left before faults tick) tag asked next e h =
    absurd (faulted_none s tag other asked left before faults tick (build_by s other) next e h)
is_refused s x tag asked next e h = absurd (not_more (done_of s.done tag.lane) h)

-- In a lane with an active build no command is decided.
not_decided : (s : State) (lane : ℕ) (build : Build) (other : Tag) (r : Result Decision Refusal)
    → build_of s.active lane ≡ Some build → decision_for s other ≡ Some r → lane ≡ other.lane → ⊥
not_decided s lane build other r is e number = let idle : build_of s.active lane ≡ None = ap (build_of s.active) number
    ∙ decided_is_idle s other e in cc

committed_ends : (s : State) (lane : ℕ) (build : Build) (row : Plain) (deed : Deed) → build_of s.active lane ≡ Some build
    → MakesRow s row deed → done_of (done_after s.done row.tag.lane deed) lane ≡ done_of s.done lane + 1 → ⊥
committed_ends s lane build row (deeds.Publish view targets script entries outputs) is e h = not_more (done_of s.done lane) h
committed_ends s lane build row (deeds.Wink view id) is e h = not_more (done_of s.done lane) h
committed_ends s lane build row deed is e h = not_decided s lane build row.tag (Ok (Makes row.deed)) is e
    (finished_lane s.done lane row.tag.lane h)

-- the command of a row that a build makes has that build
built_row : (s : State) (lane : ℕ) (build : Build) (row : Plain) (deed : Deed) → build_of s.active lane ≡ Some build
    → MakesRow s row deed → build_by s row.tag ≡ None → lane ≡ row.tag.lane → ⊥
built_row s lane build row (deeds.Publish view targets script entries outputs) is e none number = let some =
    e.running.waits.active in cc
built_row s lane build row (deeds.Wink view id) is e none number = elim e.may [
  | inl o ↦ let some = o.waits.active in cc
  | inr r ↦ let some = r.waits.active in cc
]
built_row s lane build row deed is e none number = not_decided s lane build row.tag (Ok (Makes row.deed)) is e number

faulted_ends : (s : State) (lane : ℕ) (build : Build) (other : Tag) (left : Option Plain) (before faults tick : ℕ)
    (o : Option Build) → build_by s other ≡ o → build_of s.active lane ≡ Some build → FaultsAt s other left before faults tick →
    done_of (done_by_fault s.done other.lane o) lane ≡ done_of s.done lane + 1 → ⊥
faulted_ends s lane build other left before faults tick (Some own) by_tag is e h = not_more (done_of s.done lane) h
faulted_ends s lane build other left before faults tick None by_tag is e h =
    let wanted = e.wanted in
    built_row s lane build wanted.row wanted.row.deed is wanted.may.made (ap (build_by s) wanted.of_tag
    ∙ by_tag) (finished_lane s.done lane other.lane h ∙ ap (λ (t : Tag). t.lane) (sym wanted.of_tag))

pub is_ended : (s : State) (x : StoryStep) (lane : ℕ) (build : Build) → build_of s.active lane ≡ Some build → Lawful s x
    → done_of (after s x).done lane ≡ done_of s.done lane + 1 → IsLeft s x lane build
is_ended s (story_steps.Opened rows counts tells) lane build is e h = absurd (not_more (done_of s.done lane) h)
is_ended s (story_steps.PhaseBegun phase moment) lane build is e h = absurd (none_before (done_of s.done lane) h)
is_ended s (story_steps.Commit row tick) lane build is e h = absurd (committed_ends s lane build row row.deed is e.may.made h)
is_ended s (story_steps.Refused other refusal) lane build is e h = absurd
    (not_decided s lane build other (Err refusal) is e (finished_lane s.done lane other.lane h))
is_ended s (story_steps.Answer other text) lane build is e h = absurd (not_decided s lane build other (Ok (Answers text)) is e
    (finished_lane s.done lane other.lane h))
is_ended s (story_steps.End other) lane build is e h = ends_so s other lane build is e (finished_lane s.done lane other.lane h)
is_ended s (story_steps.Fault other left before faults tick) lane build is e h =
    absurd (faulted_ends s lane build other left before faults tick (build_by s other) refl is e h)
is_ended s x lane build is e h = absurd (not_more (done_of s.done lane) h)
