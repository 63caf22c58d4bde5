-- Along a legal story no lane finishes more commands than it has, so a finished lane stays finished.
use Rattle.std.proofs.Common.{◌≡◌, refl, ap, sym, subst, ℕ, ◌<◌, ◌≤◌, Bool, true, false, ◌==◌, inl, inr, Option, Some, None}
use Rattle.std.proofs.Common.{Result, List, [], ◌∷◌, ◌++◌, arith}
use Rattle.std.specs.Prelude.{option_and_then, option_map}
use Rattle.std.proofs.lemmas.Option.{slice_get_within}
use Rattle.cc_names.specs.Commands.{lane_at}
use Rattle.cc_names.specs.Formed.{Plain}
use Rattle.cc_names.specs.declared.commands.Command.{Command}
use Rattle.cc_names.specs.declared.commands.Lane.{Lane}
use Rattle.cc_names.specs.declared.refusals.Refusal.{Refusal}
use Rattle.cc_names.specs.declared.rows.Deed.{Deed}
use Rattle.cc_names.specs.declared.rows.Deed.TheVariants as deeds
use Rattle.cc_names.specs.declared.rows.Tag.{Tag}
use Rattle.cc_names.specs.declared.steps.StoryStep.{StoryStep}
use Rattle.cc_names.specs.declared.steps.StoryStep.TheVariants as story_steps
use Rattle.cc_names.proofs.Common.{same_number}
use Rattle.legal_history.specs.Builds.Active.{Build}
use Rattle.legal_history.specs.Commands.Decisions.{Decision}
use Rattle.legal_history.specs.Commands.Lines.{decision}
use Rattle.legal_history.specs.Stories.Commanded.{next_command_of}
use Rattle.legal_history.specs.Stories.Committing.{MakesRow}
use Rattle.legal_history.specs.Stories.Lanes.{count_of, IsFinished, IsWithin}
use Rattle.legal_history.specs.Stories.States.{State, build_by, command_behind, decision_for, done_of, next_command, scene}
use Rattle.legal_history.specs.Stories.States.{start, with_done}
use Rattle.legal_history.specs.Stories.Steps.{after, done_after, done_by_fault, state_from, state_of}
use Rattle.legal_history.specs.Stories.Lawful.{Lawful, Legal, LegalFrom}
use Rattle.legal_history.proofs.Builds.CommandStays.{next_is, other_done}
use Rattle.legal_history.proofs.Builds.CommandSteps.{AllCommanded, none_begun, step_commanded}
use Rattle.legal_history.proofs.Stories.Goes.{of_lane}
use Rattle.legal_history.proofs.Stories.LaterSteps.{own_done}
use Rattle.legal_history.proofs.Stories.LaterStories.{story_later}
use Rattle.legal_history.proofs.Stories.ConsistentStories.{IsConsistentState, consistent_first, consistent_step}
use Rattle.legal_history.proofs.Stories.Along.{along}

-- a command of the lane is left
record HasNext (s : State) (lane : ℕ) : Type 0 where
  command : Command
  is : next_command_of s lane ≡ Some command

decided_has_next : (s : State) (tag : Tag) (r : Result Decision Refusal) → decision_for s tag ≡ Some r → HasNext s tag.lane
decided_has_next s tag r h = by (next_command s tag) refl h
  where
    by : (o : Option Command) → next_command s tag ≡ o → option_map (decision (scene s)) o ≡ Some r → HasNext s tag.lane
    by None next e = absurd (cc)
    by (Some command) next e = record { command = command; is = (next_is s tag command next).command_is }

built_has_next : (s : State) (tag : Tag) (build : Build) → AllCommanded s → build_by s tag ≡ Some build → HasNext s tag.lane
built_has_next s tag build all active = record {
  command = _;
  is = (all.holds tag.lane build
      (of_lane s tag build active)).command;
}

row_has_next : (s : State) (row : Plain) (deed : Deed) → AllCommanded s → MakesRow s row deed → HasNext s row.tag.lane
row_has_next s row (deeds.Publish view targets script entries outputs) all e =
    built_has_next s row.tag e.build all e.running.waits.active
row_has_next s row (deeds.Wink view id) all e = elim e.may [
  | inl o ↦ built_has_next s row.tag e.build all o.waits.active
  | inr r ↦ built_has_next s row.tag e.build all r.waits.active
]
row_has_next s row deed all e = decided_has_next s row.tag _ e

behind_is : (done : ℕ) (found : Option Lane) (command : Command) → option_and_then (command_behind done) found ≡ Some command
    → done < count_of found
behind_is done None command e = absurd (cc)
behind_is done (Some lane) command e = slice_get_within lane.commands done command e

-- no lane has finished more than it has
abbrev AllWithin : State → Type 0
AllWithin s = (lane : ℕ) → IsWithin s lane

-- nor where a lane that has one left finishes it
with_one_more : (s : State) (other : ℕ) → HasNext s other → AllWithin s → AllWithin (record s { done = with_done s.done other })
with_one_more s other next h lane = by (lane == other) refl
  where
    by : (t : Bool) → (lane == other) ≡ t → done_of (with_done s.done other) lane ≤ count_of (lane_at s.phase lane)
    by false e = let same = other_done s.done lane other e in let low : done_of s.done lane ≤ count_of (lane_at s.phase lane) =
        h lane in omega arith
    by true e =
        let below = behind_is (done_of s.done other) (lane_at s.phase other) next.command next.is in
        let more = own_done s.done other in
        subst (λ n. done_of (with_done s.done other) n ≤ count_of (lane_at s.phase n)) (sym (same_number lane other e))
        (omega arith)

committed_within : (s : State) (other : ℕ) (deed : Deed) → HasNext s other → AllWithin s
    → AllWithin (record s { done = done_after s.done other deed })
committed_within s other (deeds.Publish view targets script entries outputs) next h = h
committed_within s other (deeds.Wink view id) next h = h
committed_within s other deed next h = with_one_more s other next h

faulted_within : (s : State) (other : ℕ) (o : Option Build) → HasNext s other → AllWithin s
    → AllWithin (record s { done = done_by_fault s.done other o })
faulted_within s other None next h = with_one_more s other next h
faulted_within s other (Some build) next h = h

step_within : (s : State) (x : StoryStep) → AllCommanded s → Lawful s x → AllWithin s → AllWithin (after s x)
step_within s (story_steps.Opened rows counts tells) all e h = h
step_within s (story_steps.PhaseBegun phase moment) all e h = λ lane. omega arith
step_within s (story_steps.Commit row tick) all e h = committed_within s row.tag.lane row.deed
    (row_has_next s row row.deed all e.may.made) h
step_within s (story_steps.Refused tag refusal) all e h = with_one_more s tag.lane (decided_has_next s tag _ e) h
step_within s (story_steps.Answer tag text) all e h = with_one_more s tag.lane (decided_has_next s tag _ e) h
step_within s (story_steps.End tag) all e h = with_one_more s tag.lane (built_has_next s tag e.build all e.active) h
step_within s (story_steps.Fault tag left before faults tick) all e h =
    let next = row_has_next s e.wanted.row e.wanted.row.deed all e.wanted.may.made in
    faulted_within s tag.lane (build_by s tag) (subst (λ (t : Tag). HasNext s t.lane) e.wanted.of_tag next) h
step_within s x all e h = h

within_from : (s : State) (story : List StoryStep) → IsConsistentState s → AllCommanded s → LegalFrom s story → AllWithin s
    → AllWithin (state_from s story)
within_from s story sound all e h = (along (λ t. IsConsistentState t × AllCommanded t × AllWithin t) (λ t x legal so. (
  consistent_step t x so.0 legal,
  step_commanded t x so.0 so.1 legal,
  step_within t x so.1 legal so.2,
)) s story e (sound, all, h)).2

within_first : (x : StoryStep) → Lawful start x → AllWithin (after start x)
within_first x e = step_within start x (record { holds = λ lane build is. absurd (cc) }) e (λ lane. omega arith)

pub lane_within : (story : List StoryStep) (lane : ℕ) → Legal story → IsWithin (state_of story) lane
lane_within [] lane legal = omega arith
lane_within (x ∷ story) lane legal = within_from (after start x) story (consistent_first x legal.0) (none_begun x legal.0) legal.1
    (within_first x legal.0) lane

-- what has come as far as it can stays there
all_there : (old new all goal : ℕ) → old ≤ new → new ≤ goal → old ≡ all → goal ≡ all → new ≡ goal
all_there old new all goal low high first same = omega arith

pub stays_finished : (prefix rest : List StoryStep) (lane : ℕ) → Legal (prefix ++ rest)
    → (state_of (prefix ++ rest)).number ≡ (state_of prefix).number →
    IsFinished (state_of prefix) lane → IsFinished (state_of (prefix ++ rest)) lane
stays_finished prefix rest lane legal same h =
    let later = story_later prefix rest legal in
    all_there (done_of (state_of prefix).done lane) (done_of (state_of (prefix ++ rest)).done lane)
    (count_of (lane_at (state_of prefix).phase lane)) (count_of (lane_at (state_of (prefix ++ rest)).phase lane))
    (later.done same lane) (lane_within (prefix ++ rest) lane legal) h
    (ap (λ phase. count_of (lane_at phase lane)) (later.phase same))
