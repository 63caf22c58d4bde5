-- What a story says of the disk's counts and of its calls.
use Rattle.std.specs.Prelude.{◌≡◌, ℕ, ◌+◌, true, Option, List, [], ◌∷◌, ◌++◌}
use Rattle.cc_names.specs.Formed.{Plain}
use Rattle.cc_names.specs.declared.steps.StoryStep.{StoryStep}
use Rattle.cc_names.specs.declared.steps.StoryStep.TheVariants as story_steps
use Rattle.disk_model.specs.Counting.{next_count}
use Rattle.disk_model.specs.DiskStates.{DiskState, Both, IsCounted}
use Rattle.legal_history.specs.Stories.States.{State, End}
use Rattle.legal_history.specs.Stories.Steps.{after, state_of}
use Rattle.cc_names.specs.Counts.{rises}
use Rattle.vob_journal.specs.Added.{WritesOn}
use Rattle.vob_journal.specs.Phases.{calls_of}
use Rattle.vob_journal.specs.declared.left.Left.{Left}
use Rattle.story_log.specs.Logging.Appending.{CommitsRow, LeavesByCalls}
use Rattle.story_log.specs.Stopping.Tails.{Tail, tail_after_fault, tail_after_row}
use Rattle.base_core.specs.Story.Shown.{Shown}

-- a disk, with the tail of the journal on it
pub record TailedDisk : Type 0 where
  pub disk : DiskState
  pub tail : Tail

-- that of a core
abbrev pub disk_of : Shown → TailedDisk
disk_of core = record { disk = core.ghost_state; tail = core.tail }

-- What a fault left after these commits and faults is what it can have left under some row, by how many calls were made, and
-- where the disk models its device by which; and the tail is then as this leaves it.
pub record IsLeftByCalls (ends : List End) (found : Option Plain) (old new : TailedDisk) : Type 0 where
  pub row : Plain
  pub left : Left
  pub leaves : LeavesByCalls ends old.tail row found left old.disk new.disk
  pub tail : new.tail ≡ tail_after_fault old.tail left

-- What a step says, in the state before it, of the disk as the call that added it began and ended.
-- A commit's tick is that of the disk at its end. Four calls were made, or six where the tail was to be settled, and no fault was
-- counted. They are just the calls that commit its row after the tail, which is behind its frame afterwards.
-- A fault has the count of faults before and after, which is the next, so it is the fault of one call alone, and the tick at its
-- end, which rose. What it left is what it can have left by its calls under some row.
-- Where the disk models its device, the calls of either are added to those made before, none of them reads, the file of objects
-- is as it was, and the counts fit the calls. At any other step no call was made, and the disk and the tail are as they were.
abbrev pub CountsStep : State → StoryStep → TailedDisk → TailedDisk → Type 0
CountsStep s (story_steps.Commit row tick) old new =
    (tick ≡ new.disk.ticks) × (new.disk.ticks ≡ old.disk.ticks + calls_of old.tail.settled) × (new.disk.faults ≡ old.disk.faults)
    × IsCounted new.disk × Both WritesOn old.disk.modeled new.disk.modeled
    × Both (CommitsRow old.tail row) old.disk.modeled new.disk.modeled × (new.tail ≡ tail_after_row old.tail row)
CountsStep s (story_steps.Fault tag found before faults tick) old new =
    (before ≡ old.disk.faults) × (faults ≡ new.disk.faults) × (faults ≡ next_count before)
    × (tick ≡ new.disk.ticks) × (rises old.disk.ticks tick ≡ true)
    × IsCounted new.disk × Both WritesOn old.disk.modeled new.disk.modeled × IsLeftByCalls s.ends found old new
CountsStep s step old new = new ≡ old

-- the steps of a list, one after the other, from a state on; beside them no call was made
abbrev pub CountsSteps : State → List StoryStep → TailedDisk → TailedDisk → Type 0
CountsSteps s [] old new = new ≡ old
CountsSteps s (step ∷ steps) old new =
    (between : TailedDisk) × CountsStep s step old between × CountsSteps (after s step) steps between new

-- A story went on by steps that say what became of the disk's counts.
pub record KeepsCount (old new : Shown) : Type 0 where
  pub steps : List StoryStep
  pub grows : new.story ≡ old.story ++ steps
  pub counts : CountsSteps (state_of old.story) steps (disk_of old) (disk_of new)
