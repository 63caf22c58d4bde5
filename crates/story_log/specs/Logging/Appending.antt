-- What became of a row that was to be committed.
use Rattle.std.specs.Prelude.{◌≡◌, ℕ, ◌+◌, ◌≤◌, ◌⊎◌, true, false, Option, Some, None, List, [], ◌∷◌}
use Rattle.cc_names.specs.Formed.{Plain, IsFormed}
use Rattle.cc_names.specs.declared.steps.StoryStep.{StoryStep}
use Rattle.cc_names.specs.declared.steps.StoryStep.TheVariants as story_steps
use Rattle.disk_model.specs.Counting.{next_count}
use Rattle.disk_model.specs.Devices.{Device}
use Rattle.disk_model.specs.DiskStates.{DiskState, Both, IsCounted}
use Rattle.legal_history.specs.Stories.Quiet.{is_quiet}
use Rattle.legal_history.specs.Stories.States.{State, End, ticks_of, faults_of, hanging}
use Rattle.legal_history.specs.Stories.Steps.{state_of}
use Rattle.cc_names.specs.Counts.{rises}
use Rattle.row_form.specs.Spelled.{spelling_of}
use Rattle.vob_journal.specs.Added.{WritesOn}
use Rattle.vob_journal.specs.Calls.{FailsToCommit, FailsToPut, device_after_commit, settled_first}
use Rattle.vob_journal.specs.Lefts.{FailsInPhase}
use Rattle.vob_journal.specs.Phases.{calls_of}
use Rattle.vob_journal.specs.declared.left.Left.{Left}
use Rattle.story_log.specs.Logging.Leaving.{LeftSo}
use Rattle.story_log.specs.Logging.Logs.{Logged, with_committed_row, with_fault, with_step}
use Rattle.story_log.specs.Stopping.Tails.{Tail}
use Rattle.story_log.specs.Story.Telling.{told}
use Rattle.story_log.specs.declared.step.Step.{Step}
use Rattle.story_log.specs.declared.logs.Appended.{Appended}
use Rattle.story_log.specs.declared.logs.Appended.TheVariants as appends

-- what a fault may leave after the base: nothing, the row that was to be committed, or what the fault before it left
abbrev pub MayLeaveRow : State → Plain → Option Plain → Type 0
MayLeaveRow s row None = Unit {0}
MayLeaveRow s row (Some left) = (left ≡ row) ⊎ (hanging s.ends ≡ Some left)

-- the calls that commit a row after a tail, and no others: a settled tail is not settled again
abbrev pub CommitsRow : Tail → Plain → Device → Device → Type 0
CommitsRow tail row d e = e ≡ device_after_commit tail.settled tail.place (spelling_of row) d

-- The calls that settle the journal after these commits and faults, and no others: none before the first of them, and a settled
-- tail is not settled again; or as far as they go where one fails, which counts as a fault.
abbrev pub SettlesTail : List End → Tail → DiskState → DiskState → Type 0
SettlesTail [] tail old new = new ≡ old
SettlesTail (newest ∷ earlier) tail old new =
    ((new.faults ≡ old.faults) × Both (λ d e. e ≡ settled_first tail.settled tail.place d) old.modeled new.modeled)
    ⊎ ((tail.settled ≡ false) × (new.faults ≡ next_count old.faults)
    × Both (FailsToPut tail.place (0 ∷ [])) old.modeled new.modeled)

-- What a fault under a row left after these commits and faults, by how many calls were made after the journal's tail, and by
-- which where the disk models its device: the row only where its gate was to be opened, and what an earlier fault had left only
-- where the tail was to be settled.
pub record LeavesByCalls (ends : List End) (tail : Tail) (row : Plain) (found : Option Plain) (left : Left) (old new : DiskState)
    : Type 0 where
  pub leaves : LeftSo (hanging ends) row left found
  pub fails : FailsInPhase tail.settled left old.ticks new.ticks
  pub calls : Both (FailsToCommit tail.settled tail.place (spelling_of row) left) old.modeled new.modeled

-- the row was committed at a later tick than any end before
pub record IsCommitted (old new : Logged) (row : Plain) : Type 0 where
  pub tick : ℕ
  pub ghost_state : DiskState
  pub formed : IsFormed row
  pub grows : new ≡ with_committed_row old row tick ghost_state
  pub ticked : rises (ticks_of (state_of old.story).opened (state_of old.story).ends) tick ≡ true
  pub at : tick ≡ ghost_state.ticks
  pub spent : ghost_state.ticks ≡ old.ghost_state.ticks + calls_of old.tail.settled
  pub faults : ghost_state.faults ≡ old.ghost_state.faults
  pub fit : IsCounted ghost_state
  pub writes : Both WritesOn old.ghost_state.modeled ghost_state.modeled
  pub calls : Both (CommitsRow old.tail row) old.ghost_state.modeled ghost_state.modeled

-- a step that names no row and no phase
abbrev pub IsQuiet : Step → Type 0
IsQuiet step = is_quiet (told step) ≡ true

-- with the step that a fault brings with it
abbrev pub with_ending : Logged → Option StoryStep → Logged
with_ending log None = log
with_ending log (Some step) = with_step log step

-- the disk failed while the row was to be committed: at one call, by which its count of faults went on to the next
pub record IsFaulted (old new : Logged) (row : Plain) (ending : Option StoryStep) : Type 0 where
  pub found : Option Plain
  pub left : Left
  pub before : ℕ
  pub faults : ℕ
  pub tick : ℕ
  pub ghost_state : DiskState
  pub formed : IsFormed row
  pub grows : new ≡ with_ending (with_fault old (story_steps.Fault row.tag found before faults tick) ghost_state left) ending
  pub rose : rises before faults ≡ true
  pub later : faults_of (state_of old.story).opened (state_of old.story).ends ≤ before
  pub leaves : MayLeaveRow (state_of old.story) row found
  pub calls : LeavesByCalls (state_of old.story).ends old.tail row found left old.ghost_state ghost_state
  pub ticked : rises (ticks_of (state_of old.story).opened (state_of old.story).ends) tick ≡ true
  pub counted : before ≡ old.ghost_state.faults
  pub one : faults ≡ next_count before
  pub modeled : faults ≡ ghost_state.faults
  pub at : tick ≡ ghost_state.ticks
  pub spent : rises old.ghost_state.ticks tick ≡ true
  pub fit : IsCounted ghost_state
  pub writes : Both WritesOn old.ghost_state.modeled ghost_state.modeled

-- what became of a row
abbrev pub Appends : Logged → Logged → Plain → Option StoryStep → Appended → Type 0
Appends old new row ending appends.Committed = IsCommitted old new row
Appends old new row ending appends.Faulted = IsFaulted old new row ending
