-- What is known of a run outside the lock.
use Rattle.std.specs.Prelude.{◌≡◌, ℕ, ◌<◌, Option, Some, None, Result, Ok, Err, List, []}
use mathlib.Core.List.{IsPrefix}
use Rattle.cc_names.specs.declared.memory.Or.{Or}
use Rattle.cc_names.specs.declared.memory.Or.TheVariants.{NoMemory, Is}
use Rattle.cc_names.specs.declared.rows.Tag.{Tag}
use Rattle.cc_names.specs.declared.steps.StoryStep.{StoryStep}
use Rattle.build_script.specs.Ended.{ran_of}
use Rattle.script_grammar.specs.Standings.{Standing}
use Rattle.build_script.specs.declared.files.Got.{Got}
use Rattle.build_script.specs.declared.files.Got.TheVariants as gots
use Rattle.script_grammar.specs.declared.files.GivenUp.{GivenUp}
use Rattle.build_script.specs.declared.outcomes.Ended.{Ended}
use Rattle.legal_history.specs.Stories.States.{State}
use Rattle.legal_history.specs.Stories.Steps.{state_of}
use Rattle.turn_lock.specs.PassState.{LockId, PassState}
use Rattle.clearmake.specs.Calls.{IsRunOfUnit, WasStarted}
use Rattle.clearmake.specs.Passes.{Builds, IsLater, IsCommandPast}

-- files that are read through a lock: the pass, the story that it had seen as the run began, the build's command and its number
-- of units, the unit that is run, and how many reads found the build over
pub record Reading : Type 0 where
  pub pass : PassState StoryStep
  pub start : List StoryStep
  pub tag : Tag
  pub count : ℕ
  pub unit : ℕ
  pub broken : ℕ

-- the pass, where it is there
abbrev pub pass_or : LockId → Option (PassState StoryStep) → PassState StoryStep
pass_or lock None = record { lock = lock; seen = []; weight = 0 }
pass_or lock (Some pass) = pass

-- The pass is one of the lock, and has seen no less than as the run began, when the unit had been started in a build that had
-- begun. Where a read found the build over, its command is past.
pub record IsReading (lock : LockId) (pass : Option (PassState StoryStep)) (r : Reading) : Type 0 where
  pub there : pass ≡ Some r.pass
  pub own : r.pass.lock ≡ lock
  pub begins : IsPrefix r.start r.pass.seen
  pub builds : Builds r.start r.tag r.count
  pub started : WasStarted (state_of r.start) r.tag.lane r.unit
  pub past : 0 < r.broken → IsCommandPast (state_of r.pass.seen) r.tag

-- reads later, of the same run
pub record Follows (old new : Reading) : Type 0 where
  pub later : IsLater old.pass new.pass
  pub start : new.start ≡ old.start
  pub tag : new.tag ≡ old.tag
  pub count : new.count ≡ old.count
  pub unit : new.unit ≡ old.unit

-- a read's answer is what stands there, or the build's command is past in this story, or memory ran out
abbrev pub ReadsStanding : Got → Option Standing → List StoryStep → Tag → Type 0
ReadsStanding (gots.Found row bytes) standing story tag = standing ≡ Some (record { row = row; text = bytes })
ReadsStanding gots.Absent standing story tag = standing ≡ None
ReadsStanding gots.Broken standing story tag = IsCommandPast (state_of story) tag
ReadsStanding gots.NoMemory standing story tag = Unit {0}

-- What came of a run outside the lock: it is the run of the unit in the state as it began; or it was given up, for want of memory
-- or since the build's command is past in this story.
abbrev pub RanSo : Result Ended (Or GivenUp) → State → Tag → ℕ → List StoryStep → Type 0
RanSo (Ok ended) start tag n story = IsRunOfUnit start tag.lane n (ran_of ended)
RanSo (Err NoMemory) start tag n story = Unit {0}
RanSo (Err (Is cause)) start tag n story = IsCommandPast (state_of story) tag
