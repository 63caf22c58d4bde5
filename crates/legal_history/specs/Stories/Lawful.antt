-- Which stories are legal: each step is lawful in the state to which the steps before it have led.
use Rattle.std.specs.Bool.{⊤}
use Rattle.std.specs.Prelude.{◌≡◌, ℕ, ◌≤◌, true, false, ◌||◌, Some, Ok, Err, is_some, List, [], ◌∷◌, length, reverse}
use Rattle.std.specs.List.{AllByRecursion}
use Rattle.cc_names.specs.Formed.{Plain, IsFormed}
use Rattle.cc_names.specs.declared.rows.Tag.{Tag}
use Rattle.cc_names.specs.declared.steps.StoryStep.{StoryStep}
use Rattle.cc_names.specs.declared.steps.StoryStep.TheVariants as story_steps
use Rattle.cc_names.specs.declared.units.Unit.{Unit}
use Rattle.base_model.specs.Rows.{size}
use Rattle.legal_history.specs.Builds.Active.{Build}
use Rattle.cc_names.specs.Counts.{rises}
use Rattle.legal_history.specs.Stories.Committing.{FaultsAt, MayCommit}
use Rattle.legal_history.specs.Commands.Decisions.{Answers, Begins}
use Rattle.base_model.specs.Fits.{is_base}
use Rattle.legal_history.specs.Stories.States.{State, decision_for, build_by, all_done, ticks_of, start}
use Rattle.legal_history.specs.Stories.Steps.{after}
use Rattle.legal_history.specs.Builds.Turns.{is_complete}
use Rattle.legal_history.specs.Builds.UnitTurns.{ComesTo, Starts}

-- the last moment of the year 9999
abbrev pub last_moment : ℕ
last_moment = 253402300799

-- a build begins where the decision on its command says so, at the rows and with the units that it has
pub record BeginsBuild (s : State) (tag : Tag) (rows count : ℕ) : Type 0 where
  pub units : List Unit
  pub chosen : decision_for s tag ≡ Some (Ok (Begins units))
  pub at_rows : rows ≡ size s.base
  pub of_units : count ≡ length units

-- a build ends where each unit has its outcome, or the disk failed under it
pub record EndsBuild (s : State) (tag : Tag) : Type 0 where
  pub build : Build
  pub active : build_by s tag ≡ Some build
  pub over : (is_complete build || build.faulted) ≡ true

-- the first step of a story: the base that was opened, whose rows keep their form and fit one another
pub record Opens (s : State) (rows : List Plain) : Type 0 where
  pub first : is_some s.opened ≡ false
  pub formed : AllByRecursion IsFormed (reverse rows)
  pub fits : is_base (reverse rows) ≡ true

-- a phase begins where each command of the one before is finished
pub record BeginsPhase (s : State) (moment : ℕ) : Type 0 where
  pub opened : is_some s.opened ≡ true
  pub finished : all_done s ≡ true
  pub in_time : moment ≤ last_moment

-- a row is committed at a later tick than any end before
pub record Commits (s : State) (row : Plain) (tick : ℕ) : Type 0 where
  pub may : MayCommit s row
  pub ticked : rises (ticks_of s.opened s.ends) tick ≡ true

-- When a step is lawful in a state.
abbrev pub Lawful : State → StoryStep → Type 0
Lawful s (story_steps.Opened rows counts tells) = Opens s rows
Lawful s (story_steps.PhaseBegun phase moment) = BeginsPhase s moment
Lawful s (story_steps.Commit row tick) = Commits s row tick
Lawful s (story_steps.Refused tag refusal) = decision_for s tag ≡ Some (Err refusal)
Lawful s (story_steps.Answer tag text) = decision_for s tag ≡ Some (Ok (Answers text))
Lawful s (story_steps.Begin tag rows units) = BeginsBuild s tag rows units
Lawful s (story_steps.Start tag n) = Starts s tag n
Lawful s (story_steps.Concluded tag n outcome) = ComesTo s tag n outcome
Lawful s (story_steps.End tag) = EndsBuild s tag
Lawful s (story_steps.Fault tag left before faults tick) = FaultsAt s tag left before faults tick

-- a story that is legal from a state on, oldest step first
abbrev pub LegalFrom : State → List StoryStep → Type 0
LegalFrom s [] = ⊤
LegalFrom s (x ∷ story) = Lawful s x × LegalFrom (after s x) story

-- A legal story.
abbrev pub Legal : List StoryStep → Type 0
Legal story = LegalFrom start story
