-- What a history says of the device calls of its session: between which two ends, of commits or faults, each failed call lies,
-- and what became of the files. Calls do not say which command made them.
use Rattle.std.specs.Prelude.{◌≡◌, ◌≤◌, ◌+◌, ◌⊎◌, Bool, true, false, List, [], ◌∷◌}
use Rattle.cc_names.specs.declared.steps.StoryStep.{StoryStep}
use Rattle.cc_names.specs.declared.steps.StoryStep.TheVariants as story_steps
use Rattle.disk_model.specs.Counting.{next_count}
use Rattle.disk_model.specs.DiskStates.{DiskState, IfModeled, Both, IsCounted}
use Rattle.legal_history.specs.Stories.States.{start}
use Rattle.legal_history.specs.Stories.Steps.{after, state_of}
use Rattle.vob_journal.specs.Added.{WritesOn}
use Rattle.vob_journal.specs.Pieces.{ReadsOnce}
use Rattle.vob_journal.specs.Reads.{SameFiles, SameObjects}
use Rattle.story_log.specs.Logging.Appending.{SettlesTail}
use Rattle.story_log.specs.Stopping.Backed.{may_be_open}
use Rattle.story_log.specs.Stopping.Tails.{IsFoundTail}
use Rattle.base_core.specs.Story.Counted.{CountsSteps, TailedDisk}
use Rattle.session_run.specs.Calls.Causes.{Change}
use Rattle.session_run.specs.Faults.Blamed.{IsBlamed}

-- A journal was settled: at most two calls were made, at most one fault more was counted, no call read, the file of objects is
-- as it was, and where no fault may have left its tail open no call was made.
pub record SettlesJournal (ajar : Bool) (old new : DiskState) : Type 0 where
  pub few : new.ticks ≤ old.ticks + 2
  pub faults : (new.faults ≡ old.faults) ⊎ (new.faults ≡ next_count old.faults)
  pub writes : Both WritesOn old.modeled new.modeled
  pub rests : ajar ≡ false → new ≡ old

-- The steps of a history after its first, from the disk as the base was opened, with the journal's tail, to the disk as it came
-- back. The disk was called within commits and faults alone, and each of these has its counts as its own call began and as it
-- ended. After the last step the journal was settled, by the calls that this takes and no others.
pub record CountsFrom (opened : TailedDisk) (closed : DiskState) (story : List StoryStep) : Type 0 where
  pub first : StoryStep
  pub steps : List StoryStep
  pub ended : TailedDisk
  pub story_is : story ≡ first ∷ steps
  pub counts : CountsSteps (after start first) steps opened ended
  pub settled : SettlesJournal (may_be_open (state_of story).ends) ended.disk closed
  pub calls : SettlesTail (state_of story).ends ended.tail ended.disk closed

-- *Accounted*: opening counted no fault, read the journal once, which left both files as they were, and found its tail. From then
-- on the count rose at the faults of the history, and once more at most as the journal was settled, by the counts of some disk
-- between one step and the next. Where the disk models its device, the calls that it tells say at which tick each of them failed.
pub record IsAccountedFor (disk : Change DiskState) (story : List StoryStep) : Type 0 where
  pub opened : TailedDisk
  pub tail : IfModeled opened.disk.modeled (IsFoundTail opened.tail)
  pub fit : IsCounted opened.disk
  pub faultless : opened.disk.faults ≡ disk.before.faults
  pub once : Both ReadsOnce disk.before.modeled opened.disk.modeled
  pub files : Both SameFiles disk.before.modeled opened.disk.modeled
  pub counted : CountsFrom opened disk.after story
  pub calls : IfModeled disk.after.modeled (IsBlamed disk.before.ticks story)

-- whether no row was committed and the disk failed under none
abbrev pub is_calm : List StoryStep → Bool
is_calm [] = true
is_calm (story_steps.Commit row tick ∷ story) = false
is_calm (story_steps.Fault tag left before faults tick ∷ story) = false
is_calm (x ∷ story) = is_calm story

-- *The files*: the file of objects is as it was, and where no row was committed, and the disk failed under none, so is the
-- journal.
pub record KeepsFiles (disk : Change DiskState) (story : List StoryStep) : Type 0 where
  pub objects : Both SameObjects disk.before.modeled disk.after.modeled
  pub files : is_calm story ≡ true → Both SameFiles disk.before.modeled disk.after.modeled
