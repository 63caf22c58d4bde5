-- What each step of a story leaves of the state before it.
use Rattle.std.specs.Prelude.{ℕ, ◌+◌, true, false, not, ◌==◌, Option, Some, None, Result, Ok, List, [], ◌∷◌, reverse}
use Rattle.std.specs.Prelude.{option_and_then}
use Rattle.std.specs.Ordering.{nat_cmp}
use Rattle.std.specs.FinMap.Entries.{put, where_key}
use Rattle.cc_names.specs.declared.commands.Clearmake.{Clearmake}
use Rattle.cc_names.specs.declared.commands.Command.{Command}
use Rattle.cc_names.specs.declared.commands.Command.TheVariants as commands
use Rattle.cc_names.specs.declared.refusals.Refusal.{Refusal}
use Rattle.cc_names.specs.declared.rows.Deed.{Deed}
use Rattle.cc_names.specs.declared.rows.Deed.TheVariants as deeds
use Rattle.cc_names.specs.declared.rows.Tag.{Tag}
use Rattle.cc_names.specs.declared.steps.StoryStep.{StoryStep}
use Rattle.cc_names.specs.declared.steps.StoryStep.TheVariants as story_steps
use Rattle.cc_names.specs.declared.units.Unit.{Unit}
use Rattle.base_model.specs.Rows.{Base, size}
use Rattle.legal_history.specs.Builds.Active.{Active, Build, Came, Concluded, Given, build_of, unit_at, unit_with_first}
use Rattle.base_model.specs.Changes.{targets_of}
use Rattle.legal_history.specs.Commands.Decisions.{Decision, Begins}
use Rattle.legal_history.specs.Stories.States.{State, Committed, Faulted, start, with_done, decision_for, next_command, build_by}
use Rattle.legal_history.specs.Builds.Turns.{came_by_start, unreadable}

-- a build with what one of its units has come to
abbrev pub with_came : Build → Option ℕ → Came → Build
with_came build None came = build
with_came build (Some n) came = record build { comes = put nat_cmp n came build.comes }

-- the active builds where a unit of one lane's build has come to something
abbrev pub noted_in : Active → ℕ → Option Build → (Build → Option ℕ) → Came → Active
noted_in active lane None unit came = active
noted_in active lane (Some build) unit came = put nat_cmp lane (with_came build (unit build) came) active

-- the active builds where a unit of a lane's build has come to something
abbrev pub with_outcome : Active → ℕ → (Build → Option ℕ) → Came → Active
with_outcome active lane unit came = noted_in active lane (build_of active lane) unit came

-- what a unit comes to by its start, where there is such a unit
abbrev pub came_of_unit : Option Unit → Came
came_of_unit None = came_by_start None
came_of_unit (Some unit) = came_by_start (unreadable unit)

-- what unit n of a lane's build comes to by its start
abbrev pub came_by_starting : Option Build → ℕ → Came
came_by_starting None n = came_by_start None
came_by_starting (Some build) n = came_of_unit (unit_at build n)

-- the commands finished after a commit: a row of a build finishes none
abbrev pub done_after : List (ℕ × ℕ) → ℕ → Deed → List (ℕ × ℕ)
done_after done lane (deeds.Publish v targets script entries outputs) = done
done_after done lane (deeds.Wink v id) = done
done_after done lane deed = with_done done lane

-- the active builds after a commit: a publish or a wink gives its object to the unit with its targets
abbrev pub active_after : Base → Active → ℕ → Deed → Active
active_after b active lane (deeds.Publish v targets script entries outputs) =
    with_outcome active lane (λ build. unit_with_first build targets) (Given (size b))
active_after b active lane (deeds.Wink v id) = with_outcome active lane (λ build. unit_with_first build (targets_of b id))
    (Given id)
active_after b active lane deed = active

-- the build of some units that a clearmake command asks for
abbrev pub build_asked : Tag → ℕ → List Unit → Clearmake → Build
build_asked tag rows units asked = record {
  tag = tag;
  view = asked.view;
  rows = rows;
  own_only = asked.own_only;
  rebuild = asked.rebuild;
  units = units;
  comes = [];
  faulted = false;
}

-- the build of some units that a command asks for, where it builds
abbrev pub new_build : Tag → ℕ → List Unit → Command → Option Build
new_build tag rows units (commands.Build asked) = Some (build_asked tag rows units asked)
new_build tag rows units command = None

-- the units with which a decision begins a build
abbrev pub units_begun : Option (Result Decision Refusal) → List Unit
units_begun (Some (Ok (Begins units))) = units
units_begun _ = []

-- the build that a command begins in a state
abbrev pub build_begun_by : State → Tag → Option Build
build_begun_by s tag = option_and_then (new_build tag (size s.base) (units_begun (decision_for s tag))) (next_command s tag)

-- the active builds with one more
abbrev pub with_build : Active → ℕ → Option Build → Active
with_build active lane None = active
with_build active lane (Some build) = put nat_cmp lane build active

-- the active builds without that of a lane
abbrev pub without_build : Active → ℕ → Active
without_build active lane = where_key nat_cmp (λ key. not (key == lane)) active

-- the active builds after a fault: one under which the disk failed knows it
abbrev pub faulted_in : Active → ℕ → Option Build → Active
faulted_in active lane None = active
faulted_in active lane (Some build) = put nat_cmp lane (record build { faulted = true }) active

-- the commands finished after a fault: any but a command that builds
abbrev pub done_by_fault : List (ℕ × ℕ) → ℕ → Option Build → List (ℕ × ℕ)
done_by_fault done lane None = with_done done lane
done_by_fault done lane (Some build) = done

-- The state after a step.
abbrev pub after : State → StoryStep → State
after s (story_steps.Opened rows counts tells) =
    record s { opened = Some (record { base = reverse rows; counts = counts; tells = tells }); base = reverse rows }
after s (story_steps.PhaseBegun phase moment) = record s { number = s.number + 1; phase = phase; moment = moment; done = [] }
after s (story_steps.Commit row tick) = record s {
  base = row ∷ s.base;
  done = done_after s.done row.tag.lane row.deed;
  active = active_after s.base s.active row.tag.lane row.deed;
  ends = Committed row tick ∷ s.ends;
}
after s (story_steps.Refused tag refusal) = record s { done = with_done s.done tag.lane }
after s (story_steps.Answer tag text) = record s { done = with_done s.done tag.lane }
after s (story_steps.Begin tag rows units) = record s { active = with_build s.active tag.lane (build_begun_by s tag) }
after s (story_steps.Start tag n) = record s {
  active = with_outcome s.active tag.lane (λ build. Some n)
      (came_by_starting (build_of s.active tag.lane) n);
}
after s (story_steps.Concluded tag n outcome) = record s {
  active = with_outcome s.active tag.lane (λ build. Some n)
      (Concluded outcome);
}
after s (story_steps.End tag) = record s { done = with_done s.done tag.lane; active = without_build s.active tag.lane }
after s (story_steps.Fault tag left before faults tick) = record s {
  done = done_by_fault s.done tag.lane (build_by s tag);
  active = faulted_in s.active tag.lane (build_by s tag);
  ends = Faulted left faults tick ∷ s.ends;
}

-- the state to which a story leads from a state, oldest step first
abbrev pub state_from : State → List StoryStep → State
state_from s [] = s
state_from s (x ∷ story) = state_from (after s x) story

-- the state to which a story has led
abbrev pub state_of : List StoryStep → State
state_of story = state_from start story
