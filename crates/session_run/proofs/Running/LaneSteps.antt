-- What a command of a lane that builds nothing does to the story.
use Rattle.std.proofs.Common.{◌≡◌, ℕ, Bool, true, false, Option, Some, None, Result, Ok, Err, List, [], ◌∷◌, refl, ap, sym}
use Rattle.std.proofs.Common.{subst, ◌∙◌}
use Rattle.std.specs.Prelude.{option_map, option_and_then}
use Rattle.cc_names.specs.declared.commands.Change.{Change}
use Rattle.cc_names.specs.declared.commands.Command.{Command}
use Rattle.cc_names.specs.declared.commands.Command.TheVariants as commands
use Rattle.cc_names.specs.declared.occasions.Done.{Done}
use Rattle.cc_names.specs.declared.occasions.Done.TheVariants.{Committed, Refused, Answered, Faulted}
use Rattle.cc_names.specs.declared.occasions.Next.TheVariants as nexts
use Rattle.cc_names.specs.declared.refusals.Refusal.{Refusal}
use Rattle.cc_names.specs.declared.rows.Tag.{Tag}
use Rattle.cc_names.specs.declared.rows.Deed.{Deed}
use Rattle.cc_names.specs.declared.steps.StoryStep.{StoryStep}
use Rattle.cc_names.specs.declared.steps.StoryStep.TheVariants as story_steps
use Rattle.base_core.proofs.Acting.PlainRows.{change_finishes}
use Rattle.base_core.proofs.Keeping.Idle.{decided_is_free}
use Rattle.base_core.specs.Calls.Acting.{Acts, IsStepOf}
use Rattle.base_core.proofs.Keeping.LaneCounts.{done_other}
use Rattle.legal_history.specs.Stories.Commanded.{next_command_of}
use Rattle.clearmake.specs.Going.{SamePhase, Finishes, lane_of}
use Rattle.clearmake.specs.Nexts.{next_of_lane, next_by}
use Rattle.base_model.specs.Rows.{only_where}
use Rattle.legal_history.specs.Commands.Decisions.{Scene, Decision, Makes, Answers, Begins, answered}
use Rattle.legal_history.specs.Commands.Lines.{change_decision, decision}
use Rattle.legal_history.specs.Queries.QueryLines.{query_answer}
use Rattle.legal_history.proofs.Decisions.Handed.{IfDecided}
use Rattle.legal_history.specs.Stories.States.{State, start, scene, done_of, with_done, is_next, next_tag, decision_for}
use Rattle.legal_history.specs.Stories.States.{build_if, build_by}
use Rattle.legal_history.specs.Stories.Steps.{after, done_after, done_by_fault, state_of}
use Rattle.legal_history.proofs.Stories.LaterSteps.{own_done}
use Rattle.legal_history.proofs.Stories.Prefixes.{state_goes_on}
use Rattle.session_run.specs.Running.Phases.{Goes}

-- what is decided finishes the command: its row, where it makes one, is none of a build
EndsCommand : Option (Result Decision Refusal) → Type 0
EndsCommand (Some (Ok (Makes deed))) = (done : List (ℕ × ℕ)) (lane : ℕ) → done_after done lane deed ≡ with_done done lane
EndsCommand decision_for = Unit {0}

ends_if : (chosen : Result Decision Refusal) → IfDecided (λ decision. EndsCommand (Some (Ok decision))) chosen
    → EndsCommand (Some chosen)
unfolding EndsCommand
ends_if (Ok decision) so = so decision refl
ends_if (Err refusal) so = tt

-- the row of a change finishes it
change_ends : (sc : Scene) (change : Change) → EndsCommand (Some (change_decision sc change))
unfolding EndsCommand
change_ends sc change = ends_if (change_decision sc change) by
  where
    by : (made : Decision) → change_decision sc change ≡ Ok made → EndsCommand (Some (Ok made))
    by (Makes deed) is = (change_finishes sc change deed is).done
    by (Answers text) is = tt
    by (Begins units) is = tt

-- a query makes no row
query_ends : (answer : Result (List ℕ) Refusal) → EndsCommand (Some (answered answer))
unfolding EndsCommand
query_ends (Ok text) = tt
query_ends (Err refusal) = tt

command_ends : (sc : Scene) (command : Command) (tag : Tag) → next_by (Some command) tag ≡ nexts.Act
    → EndsCommand (Some (decision sc command))
command_ends sc (commands.Change change) tag acts = change_ends sc change
command_ends sc (commands.Query query) tag acts = query_ends (query_answer sc.base query)
command_ends sc (commands.Build asked) tag acts = absurd (cc)

found_ends : (sc : Scene) (is : Bool) (found : Option Command) (tag : Tag) → next_by found tag ≡ nexts.Act
    → EndsCommand (option_map (decision sc) (only_where is found))
unfolding EndsCommand
found_ends sc false found tag acts = tt
found_ends sc true None tag acts = tt
found_ends sc true (Some command) tag acts = command_ends sc command tag acts

decided_ends : (s : State) (lane : ℕ) → next_of_lane s lane ≡ nexts.Act → EndsCommand (decision_for s (next_tag s lane))
decided_ends s lane acts = found_ends (scene s) (is_next s (next_tag s lane)) (next_command_of s lane) (next_tag s lane) acts

-- a step that finishes a command of a lane
record IsLaneStep (s : State) (x : StoryStep) (lane : ℕ) : Type 0 where
  phase : SamePhase s (after s x)
  done : (after s x).done ≡ with_done s.done lane

-- a decision as it stands where a command makes a row
row_ends : (deed : Deed) → EndsCommand (Some (Ok (Makes deed))) → (done : List (ℕ × ℕ)) (lane : ℕ)
    → done_after done lane deed ≡ with_done done lane
unfolding EndsCommand
row_ends deed ends = ends

makes_ends_by : (chosen : Option (Result Decision Refusal)) (deed : Deed) → EndsCommand chosen → chosen ≡ Some (Ok (Makes deed))
    → (done : List (ℕ × ℕ)) (lane : ℕ) → done_after done lane deed ≡ with_done done lane
makes_ends_by chosen deed ends is = row_ends deed (subst EndsCommand is ends)

-- a command of which anything is decided builds nothing
free_by : (s : State) (lane : ℕ) (chosen : Result Decision Refusal) → decision_for s (next_tag s lane) ≡ Some chosen
    → build_by s (next_tag s lane) ≡ None
free_by s lane chosen is = ap (option_and_then (build_if (next_tag s lane))) (decided_is_free s (next_tag s lane) chosen is)

lane_step : (s : State) (lane : ℕ) (done : Done) (x : StoryStep) → EndsCommand (decision_for s (next_tag s lane))
    → IsStepOf s (next_tag s lane) done x → IsLaneStep s x lane
lane_step s lane Committed (story_steps.Commit row tick) ends is =
    let at : row.tag.lane ≡ lane = ap (λ t. t.lane) is.0 in
    record {
      phase = record { phase = refl; number = refl; moment = refl };
      done = ap (λ l. done_after s.done l row.deed) at
          ∙ makes_ends_by (decision_for s (next_tag s lane)) row.deed ends is.2 s.done lane;
    }
lane_step s lane Refused (story_steps.Refused finished refusal) ends is =
    record { phase = record { phase = refl; number = refl; moment = refl }; done = ap (λ t. with_done s.done t.lane) is.0 }
lane_step s lane Answered (story_steps.Answer finished text) ends is =
    record { phase = record { phase = refl; number = refl; moment = refl }; done = ap (λ t. with_done s.done t.lane) is.0 }
lane_step s lane Faulted (story_steps.Fault finished left before faults tick) ends is =
    record {
      phase = record { phase = refl; number = refl; moment = refl };
      done = ap (λ t. done_by_fault s.done t.lane (build_by s t)) is.0
          ∙ ap (done_by_fault s.done lane) (free_by s lane (Ok (Makes is.1)) is.2);
    }
lane_step s lane done x ends is = absurd is

-- the step is of the lane
step_lane : (s : State) (lane : ℕ) (done : Done) (x : StoryStep) → IsStepOf s (next_tag s lane) done x → lane_of x ≡ Some lane
step_lane s lane Committed (story_steps.Commit row tick) is = ap (λ (t : Tag). Some t.lane) is.0
step_lane s lane Refused (story_steps.Refused finished refusal) is = ap (λ (t : Tag). Some t.lane) is.0
step_lane s lane Answered (story_steps.Answer finished text) is = ap (λ (t : Tag). Some t.lane) is.0
step_lane s lane Faulted (story_steps.Fault finished left before faults tick) is =
    ap (λ (t : Tag). Some t.lane) is.0
step_lane s lane done x is = absurd is

-- a lane that acts finishes its command
pub act_finishes : (old new : List StoryStep) (lane : ℕ) (done : Done) → next_of_lane (state_of old) lane ≡ nexts.Act
    → Acts old new lane done → Finishes old new lane
act_finishes old new lane done acts by_act =
    let s = state_of old in
    let x = by_act.step in
    let step = lane_step s lane done x (decided_ends s lane acts) by_act.is in
    let state : state_of new ≡ after s x = ap state_of by_act.grows ∙ state_goes_on start old (x ∷ []) in
    record {
      steps = x ∷ [];
      grows = by_act.grows;
      one = step_lane s lane done x by_act.is;
      phase = subst (SamePhase s) (sym state) step.phase;
      done = ap (λ t. done_of t.done lane) state ∙ ap (λ d. done_of d lane) step.done ∙ own_done s.done lane;
      others = λ other differs. ap (λ t. done_of t.done other) state ∙ ap (λ d. done_of d other) step.done
          ∙ done_other s.done lane other differs;
    }

-- a story that goes on by nothing, and one that goes on twice
pub goes_nowhere : (story : List StoryStep) → Goes story story
goes_nowhere story = record {
  phases = refl;
  moments = refl;
  phase = refl;
  number = refl;
  earlier = refl;
  first = refl;
  opened = refl;
}

pub goes_further : (old now new : List StoryStep) → Goes old now → Goes now new → Goes old new
goes_further old now new one two = record {
  phases = two.phases ∙ one.phases;
  moments = two.moments ∙ one.moments;
  phase = two.phase ∙ one.phase;
  number = two.number ∙ one.number;
  earlier = two.earlier ∙ one.earlier;
  first = two.first ∙ one.first;
  opened = two.opened ∙ one.opened;
}
