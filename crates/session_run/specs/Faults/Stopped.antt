-- What a stop at any device call finds on the disk: the last promise of the headline.
use Rattle.std.specs.Prelude.{◌≡◌, ℕ, ◌-◌, ◌^◌, ◌<◌, ◌≤◌, true, false, Some, is_some, List, [], ◌∷◌}
use Rattle.cc_names.specs.declared.steps.StoryStep.{StoryStep}
use Rattle.cc_names.specs.declared.steps.StoryStep.TheVariants as story_steps
use Rattle.disk_model.specs.Devices.{bytes_now, file_of}
use Rattle.disk_model.specs.Files.{stable}
use Rattle.disk_model.specs.DiskStates.{DiskState, Both, IfModeled}
use Rattle.legal_history.specs.Stories.States.{State, Opening, faults_of, ticks_of}
use Rattle.legal_history.specs.Stories.Steps.{state_of}
use Rattle.cc_names.specs.Counts.{rises}
use Rattle.vob_journal.specs.Pieces.{ReadsOnce}
use Rattle.vob_journal.specs.Reads.{SameFiles}
use Rattle.story_log.specs.Stored.Founds.{FoundFiles}
use Rattle.story_log.specs.Stored.Stops.{OfEachStop, found_on}
use Rattle.story_log.specs.Stopping.Backed.{IsSettled}
use Rattle.story_log.specs.Stopping.StopLaws.{OpensAgain}
use Rattle.story_log.specs.Stopping.Standing.{MayBeFound}
use Rattle.session_run.specs.Story.Begun.{is_opened}

-- what a call asks of its disk: where it tells its files, both are on the disk as they read
abbrev pub IsHandedIn : DiskState → Type 0
IsHandedIn disk = IfModeled disk.modeled (λ d. (file_of 0 d ≡ stable (bytes_now 0 d)) × (file_of 1 d ≡ stable (bytes_now 1 d)))

-- the counts of the disk's faults before and after each fault of a story, in order
abbrev pub rises_of : List StoryStep → List (ℕ × ℕ)
rises_of [] = []
rises_of (story_steps.Fault tag left before after tick ∷ story) = (before, after) ∷ rises_of story
rises_of (x ∷ story) = rises_of story

-- each of these rises is one of its own, after those before it, and all lie within two counts
abbrev pub AreApart : ℕ → List (ℕ × ℕ) → ℕ → Type 0
AreApart low [] high = low ≤ high
AreApart low (rise ∷ more) high = (low ≤ rise.0) × (rises rise.0 rise.1 ≡ true) × AreApart rise.1 more high

-- where the count of the disk's faults stands as the newest fault of a story left it, or as it was at the opening, and below
-- its last number, a stop now finds the base with the rows of all commits and no more
abbrev pub IsMended : State → DiskState → Type 0
IsMended s disk = faults_of s.opened s.ends ≡ disk.faults → disk.faults < 2 ^ 64 - 1 → IsSettled s disk

-- Where a base was opened. A stop at a device call of the session, or after the last, finds the base as it was opened with the
-- row of each commit that ended before that call; besides it may find the row of the commit within whose call it comes, or the
-- row that a fault left, and no more. What it finds opens again without damage, to the base that it stands for, which is sound
-- where the base was sound as it was opened, also where the one row more is an object. After the last call it finds the rows
-- of all commits and no more where the history has no fault, and where the count of the disk's faults stands as the last fault
-- left it, below its last number. Each fault of the history has a rise of that count of its own, within those of the call, and
-- each commit and fault ended at a call that the disk has counted.
pub record KeepsPrefix (before after : DiskState) (story : List StoryStep) : Type 0 where
  pub opening : Opening
  pub opened : (state_of story).opened ≡ Some opening
  pub ticks : ticks_of (state_of story).opened (state_of story).ends ≤ after.ticks
  pub stops : IfModeled after.modeled (λ d. (k : ℕ) → before.ticks < k
      → OfEachStop d k (MayBeFound opening (state_of story).ends k))
  pub again : IfModeled after.modeled (λ d. (k : ℕ) → before.ticks < k → OfEachStop d k (OpensAgain opening.base))
  pub settled : rises_of story ≡ [] → IsSettled (state_of story) after
  pub mended : IsMended (state_of story) after
  pub apart : AreApart before.faults (rises_of story) after.faults

-- Where none was opened. A stop finds what was found on the disk before.
abbrev pub StopKeepsFound : DiskState → DiskState → Type 0
StopKeepsFound before after = IfModeled before.modeled (λ d. IfModeled after.modeled (λ e. (k : ℕ) → before.ticks < k
    → OfEachStop e k (λ found. found ≡ found_on d)))

-- whatever a stop may find of a story opens again, to a base that is sound where the opened one was
abbrev pub AllOpenAgain : List StoryStep → Type 0
AllOpenAgain story = (opening : Opening) (k : ℕ) (found : FoundFiles)
    → (state_of story).opened ≡ Some opening
    → MayBeFound opening (state_of story).ends k found → OpensAgain opening.base found

-- *Stopped*: what a stop at each device call finds, from what the disk told as it was handed in and as it came back. Where no
-- base was opened both files are as they were, and the journal was read once, or in part, or not at all.
pub record IsStopped (before after : DiskState) (story : List StoryStep) : Type 0 where
  pub tells : is_some after.modeled ≡ is_some before.modeled
  pub on_base : is_opened story ≡ true → KeepsPrefix before after story
  pub on_none : is_opened story ≡ false → StopKeepsFound before after
  pub files : is_opened story ≡ false → Both SameFiles before.modeled after.modeled
  pub once : is_opened story ≡ false → Both ReadsOnce before.modeled after.modeled
