-- What a lane's next command comes to.
use Rattle.std.specs.Prelude.{◌≡◌, ℕ, ◌<◌, ◌≤◌, true, Option, Some, None, Result, Ok, Err, List, [], ◌∷◌, ◌++◌, length}
use Rattle.cc_names.specs.Formed.{Plain}
use Rattle.cc_names.specs.declared.occasions.Done.{Done}
use Rattle.cc_names.specs.declared.occasions.Done.TheVariants.{Committed, Refused, Answered, Faulted}
use Rattle.cc_names.specs.declared.memory.Or.{Or}
use Rattle.cc_names.specs.declared.memory.Or.TheVariants.{NoMemory, Is}
use Rattle.cc_names.specs.declared.refusals.Refusal.{Refusal}
use Rattle.cc_names.specs.declared.replies.Reply.{Reply}
use Rattle.cc_names.specs.declared.replies.Reply.TheVariants as replies
use Rattle.cc_names.specs.declared.rows.Deed.{Deed}
use Rattle.cc_names.specs.declared.rows.Tag.{Tag}
use Rattle.cc_names.specs.declared.steps.StoryStep.{StoryStep}
use Rattle.cc_names.specs.declared.steps.StoryStep.TheVariants as story_steps
use Rattle.base_model.specs.Rows.{Base, size}
use Rattle.legal_history.specs.Builds.Active.{Active}
use Rattle.legal_history.specs.Stories.Committing.{MakesRow}
use Rattle.legal_history.specs.Commands.Decisions.{Makes, Answers}
use Rattle.base_model.specs.Fits.{fits}
use Rattle.legal_history.specs.Stories.States.{State, decision_for, next_command, next_tag, with_done}
use Rattle.legal_history.specs.Stories.Steps.{state_of, active_after, done_after}
use Rattle.view_lookup.specs.Naming.{replied_name}
use Rattle.base_core.specs.Story.Replying.{replied_count, reply_to_row, reply_to_answer, row_reply}

-- A step by which a command of this tag is finished, by its kind: the row that was decided, committed at the moment of the
-- phase; the refusal or the answer that was decided; or the fault of the disk under the row that was decided.
abbrev pub IsStepOf : State → Tag → Done → StoryStep → Type 0
IsStepOf s tag Committed (story_steps.Commit row tick) = (row.tag ≡ tag) × (row.moment ≡ s.moment)
    × (decision_for s tag ≡ Some (Ok (Makes row.deed)))
IsStepOf s tag Refused (story_steps.Refused finished refusal) = (finished ≡ tag)
    × (decision_for s tag ≡ Some (Err refusal))
IsStepOf s tag Answered (story_steps.Answer finished text) = (finished ≡ tag)
    × (decision_for s tag ≡ Some (Ok (Answers text)))
IsStepOf s tag Faulted (story_steps.Fault finished left before faults tick) = (finished ≡ tag) × (deed : Deed)
    × (decision_for s tag ≡ Some (Ok (Makes deed)))
IsStepOf s tag done step = ⊥

-- A lane's next command was carried out: the story has one step more, which finishes the command.
pub record Acts (old new : List StoryStep) (lane : ℕ) (done : Done) : Type 0 where
  pub step : StoryStep
  pub grows : new ≡ old ++ step ∷ []
  pub is : IsStepOf (state_of old) (next_tag (state_of old) lane) done step

-- this is the tag of the next command of a lane of the last phase
pub record IsNextTag (s : State) (tag : Tag) : Type 0 where
  pub next : tag ≡ next_tag s tag.lane
  pub from : 1 ≤ tag.lane
  pub upto : tag.lane ≤ length s.phase.lanes

-- A row of this deed is of no build: its command makes it and is finished by it, with a reply.
pub record FinishesCommand (deed : Deed) : Type 0 where
  pub reply : (b : Base) → reply_to_row b deed ≡ Some (row_reply (replied_name b deed) (replied_count deed))
  pub done : (done : List (ℕ × ℕ)) (lane : ℕ) → done_after done lane deed ≡ with_done done lane
  pub active : (b : Base) (active : Active) (lane : ℕ) → active_after b active lane deed ≡ active
  pub made : (s : State) (row : Plain) → decision_for s row.tag ≡ Some (Ok (Makes row.deed)) → MakesRow s row deed

-- the row that was decided for the next command of its lane, for which there is room
pub record IsRowToCommit (s : State) (row : Plain) : Type 0 where
  pub of_next : IsNextTag s row.tag
  pub made : decision_for s row.tag ≡ Some (Ok (Makes row.deed))
  pub at_moment : row.moment ≡ s.moment
  pub finishes : FinishesCommand row.deed
  pub fits : fits s.base row.deed ≡ true
  pub room : size s.base < 4000000

-- the refusal that was decided for the next command of its lane
pub record IsNextRefusal (s : State) (tag : Tag) (refusal : Refusal) : Type 0 where
  pub of_next : IsNextTag s tag
  pub made : decision_for s tag ≡ Some (Err refusal)

-- the answer that was decided for the next command of its lane, and what the command is replied
pub record IsNextAnswer (s : State) (tag : Tag) (text : List ℕ) (replied : Reply) : Type 0 where
  pub of_next : IsNextTag s tag
  pub made : decision_for s tag ≡ Some (Ok (Answers text))
  pub reply : reply_to_answer (next_command s tag) text ≡ replied

-- unless memory ran out, the refusal was decided
abbrev pub RefusalWas : State → Tag → Or Refusal → Type 0
RefusalWas s tag NoMemory = Unit {0}
RefusalWas s tag (Is refusal) = IsNextRefusal s tag refusal

-- what was decided for the next command of a lane, which makes a row, or finds nothing for one and counts nothing
abbrev pub DecidesNext : State → Tag → Result (Option Plain) (Or Refusal) → Type 0
DecidesNext s tag (Ok None) = IsNextAnswer s tag [] (replies.Count 0)
DecidesNext s tag (Ok (Some row)) = IsRowToCommit s row × (row.tag ≡ tag)
DecidesNext s tag (Err refusal) = RefusalWas s tag refusal

-- what was decided for the next command of a lane, which is a query
abbrev pub AnswersNext : State → Tag → Result (List ℕ) (Or Refusal) → Type 0
AnswersNext s tag (Ok text) = IsNextAnswer s tag text (replies.Answer text)
AnswersNext s tag (Err refusal) = RefusalWas s tag refusal
