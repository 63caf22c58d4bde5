-- What opening a base answers.
use Rattle.std.specs.Prelude.{◌≡◌, ◌<◌, ℕ, true, is_some, Option, List, [], ◌∷◌}
use Rattle.cc_names.specs.declared.steps.StoryStep.{StoryStep}
use Rattle.cc_names.specs.declared.steps.StoryStep.TheVariants as story_steps
use Rattle.disk_model.specs.Devices.{Device, bytes_now, file_of}
use Rattle.disk_model.specs.DiskStates.{DiskState, IfModeled, Both, IsCounted}
use Rattle.disk_model.specs.Files.{stable}
use Rattle.base_model.specs.Rows.{Base}
use Rattle.base_model.specs.Fits.{is_base}
use Rattle.cc_names.specs.Counts.{rises}
use Rattle.vob_journal.specs.Reads.{SameFiles}
use Rattle.story_log.specs.Story.Handed.{Handed}
use Rattle.story_log.specs.Logging.Logs.{Logged, opened_log}
use Rattle.story_log.specs.Story.Formed.{AreFormed}
use Rattle.story_log.specs.Stored.Damaged.{IsDamaged, IsUndamaged}
use Rattle.story_log.specs.Stored.Founds.{FoundFiles}
use Rattle.story_log.specs.Stored.Opened.{IsOpenedAs}
use Rattle.story_log.specs.Stored.Stops.{OfEachStop, found_on}
use Rattle.story_log.specs.Stopping.Tails.{IsFoundTail, Tail}
use Rattle.base_rows.specs.Order.{oldest_first}
use Rattle.story_log.specs.declared.opening.OpenCause.{OpenCause}
use Rattle.story_log.specs.declared.opening.OpenCause.TheVariants as causes

-- both files are on the disk as they read
abbrev pub AreSynced : Device → Type 0
AreSynced d = (file_of 0 d ≡ stable (bytes_now 0 d)) × (file_of 1 d ≡ stable (bytes_now 1 d))

-- A base that was opened on a disk: what was found there opens to it, each of its rows is formed, and each fits those before it.
pub record IsBaseOn (old : DiskState) (base : Base) (handed : Handed) : Type 0 where
  pub ticks : handed.counts.ticks ≡ old.ticks
  pub faults : handed.counts.faults ≡ old.faults
  pub tells : handed.tells ≡ is_some old.modeled
  pub found : IfModeled old.modeled (λ d. IsOpenedAs (found_on d) base)
  pub fits : is_base base ≡ true
  pub formed : AreFormed base

-- a log of such a base, under which no disk failed: both files are as they were, and the journal's tail is as it was found
pub record IsOpened (old : DiskState) (log : Logged) : Type 0 where
  pub base : Base
  pub handed : Handed
  pub on : IsBaseOn old base handed
  pub is : log ≡ opened_log base handed log.ghost_state log.tail
  pub tail : IfModeled log.ghost_state.modeled (IsFoundTail log.tail)
  pub faultless : log.ghost_state.faults ≡ old.faults
  pub fit : IsCounted log.ghost_state
  pub files : Both SameFiles old.modeled log.ghost_state.modeled

-- A base was opened: the one that was found on the disk, where no frame is damaged. No fault was counted, both files are as they
-- were, and the journal's tail is as it was found.
pub record OpensCore (old : DiskState) (story : List StoryStep) (new : DiskState) (at : Tail) : Type 0 where
  pub base : Base
  pub handed : Handed
  pub on : IsBaseOn old base handed
  pub undamaged : IfModeled old.modeled (λ d. IsUndamaged (found_on d))
  pub story_is : story ≡ story_steps.Opened (oldest_first base) handed.counts handed.tells ∷ []
  pub tail : IfModeled new.modeled (IsFoundTail at)
  pub faultless : new.faults ≡ old.faults
  pub fit : IsCounted new
  pub files : Both SameFiles old.modeled new.modeled

-- why what was found was not read through, with the disk's counts of faults before and after
abbrev pub StopsBy : Option Device → (Device → FoundFiles) → OpenCause → ℕ → ℕ → Type 0
StopsBy modeled found (causes.Damaged n) old new = (new ≡ old) × IfModeled modeled (λ d. IsDamaged (found d) n)
StopsBy modeled found causes.DiskFault old new = rises old new ≡ true
StopsBy modeled found causes.NoMemory old new = new ≡ old

-- No base was opened: each stop since finds what was found there, and both files are as they were.
pub record FailsToOpen (old : DiskState) (cause : OpenCause) (new : DiskState) : Type 0 where
  pub because : StopsBy old.modeled found_on cause old.faults new.faults
  pub tells : is_some new.modeled ≡ is_some old.modeled
  pub unchanged : IfModeled old.modeled (λ d. IfModeled new.modeled (λ e. (k : ℕ) → old.ticks < k
      → OfEachStop e k (λ found. found ≡ found_on d)))
  pub files : Both SameFiles old.modeled new.modeled
