-- What is known of the story that a pass has seen.
use Rattle.std.specs.Prelude.{◌≡◌, ◌⊎◌, ℕ, ◌+◌, ◌<◌, ◌≤◌, List}
use mathlib.Core.List.{IsPrefix}
use Rattle.cc_names.specs.declared.occasions.Next.TheVariants as nexts
use Rattle.cc_names.specs.declared.rows.Tag.{Tag}
use Rattle.cc_names.specs.declared.steps.StoryStep.{StoryStep}
use Rattle.legal_history.specs.Stories.Lawful.{Legal}
use Rattle.legal_history.specs.Stories.States.{State, done_of}
use Rattle.legal_history.specs.Stories.Steps.{state_of}
use Rattle.turn_lock.specs.PassState.{PassState}
use Rattle.clearmake.specs.Calls.{IsBuilding}
use Rattle.clearmake.specs.Going.{HasOutcome}
use Rattle.clearmake.specs.Nexts.{next_of_lane}

-- the command of this tag is its lane's next, and builds so many units
pub record Builds (story : List StoryStep) (tag : Tag) (count : ℕ) : Type 0 where
  pub next : next_of_lane (state_of story) tag.lane ≡ nexts.Build tag
  pub building : IsBuilding (state_of story) tag.lane count

-- this story goes on from one in which the command of this tag was its lane's next, and to be built
pub record WasNext (story : List StoryStep) (tag : Tag) : Type 0 where
  pub seen : List StoryStep
  pub begins : IsPrefix seen story
  pub next : next_of_lane (state_of seen) tag.lane ≡ nexts.Build tag

-- this story goes on from one in which the build of this tag, of so many units, had begun
pub record HasBegun (story : List StoryStep) (tag : Tag) (count : ℕ) : Type 0 where
  pub begun : List StoryStep
  pub begins : IsPrefix begun story
  pub builds : Builds begun tag count

-- the command of this tag is finished
abbrev pub IsCommandPast : State → Tag → Type 0
IsCommandPast s tag = (tag.phase < s.number) ⊎ ((tag.phase ≡ s.number) × (tag.command ≤ done_of s.done tag.lane))

-- a later pass of the same lock, of the same weight, which has seen a longer story or the same
pub record IsLater (old new : PassState StoryStep) : Type 0 where
  pub lock : new.lock ≡ old.lock
  pub weight : new.weight ≡ old.weight
  pub begins : IsPrefix old.seen new.seen

-- what contracts see of a builder's pass: the pass, the tag of its build's command, and how many units the build has
pub record BuilderState : Type 0 where
  pub pass : PassState StoryStep
  pub tag : Tag
  pub count : ℕ

-- a later pass of the same builder
pub record IsLaterOfBuilder (old new : BuilderState) : Type 0 where
  pub later : IsLater old.pass new.pass
  pub tag : new.tag ≡ old.tag
  pub count : new.count ≡ old.count

-- the first n units of the build all have their outcomes
abbrev pub AreDone : List StoryStep → Tag → ℕ → ℕ → Type 0
AreDone seen tag count n = (m : ℕ) → m < n → Builds seen tag count × HasOutcome (state_of seen) tag.lane m

-- this story goes on from one in which the first n units of the build had their outcomes
pub record WereDone (story : List StoryStep) (tag : Tag) (count n : ℕ) : Type 0 where
  pub seen : List StoryStep
  pub begins : IsPrefix seen story
  pub done : AreDone seen tag count n

-- a lane has nothing left to do
abbrev pub HasNothingLeft : State → ℕ → Type 0
HasNothingLeft s lane = next_of_lane s lane ≡ nexts.Done

-- a lane has finished all of its commands of the phase of this number
pub record IsLaneDone (seen : List StoryStep) (lane number : ℕ) : Type 0 where
  pub legal : Legal seen
  pub of_phase : (state_of seen).number ≡ number
  pub finished : HasNothingLeft (state_of seen) lane

-- so have all of some lanes, from the first on
abbrev pub AreLanesDone : List StoryStep → ℕ → ℕ → ℕ → Type 0
AreLanesDone seen first lanes number = (lane : ℕ) → first ≤ lane → lane < first + lanes → IsLaneDone seen lane number
