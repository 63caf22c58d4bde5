-- What a core keeps of its disk: both files represent the base, and each stop since the opening finds what the history says.
use Rattle.std.specs.Prelude.{◌≡◌, ◌⊎◌, ℕ, ◌<◌, ◌≤◌, Bool, true, false, not, Option, Some, None, is_some, List, [], ◌∷◌}
use Rattle.cc_names.specs.Formed.{IsFormed, Plain}
use Rattle.cc_names.specs.declared.rows.Extent.{Extent}
use Rattle.disk_model.specs.Files.{File}
use Rattle.disk_model.specs.Devices.{Device, Leaves, LeavesNow, file_of}
use Rattle.disk_model.specs.DiskStates.{DiskState, IfModeled}
use Rattle.base_model.specs.Rows.{Base}
use Rattle.legal_history.specs.Stories.States.{State, Opening, End, Committed, Faulted, ticks_of, faults_of, hanging}
use Rattle.row_form.specs.Spelled.{spelling_of}
use Rattle.vob_journal.specs.Lefts.{settled_after}
use Rattle.vob_journal.specs.Moves.{Stands}
use Rattle.vob_journal.specs.declared.left.Left.TheVariants as lefts
use Rattle.story_log.specs.Story.Formed.{AreFormed}
use Rattle.story_log.specs.Stored.Founds.{Represents}
use Rattle.story_log.specs.Stored.Kept.{IsHeld}
use Rattle.story_log.specs.Stored.Payloads.{payloads}
use Rattle.story_log.specs.Stored.Stops.{OfEachStop, OfStopNow, found_in}
use Rattle.story_log.specs.Stored.Taken.{ObjectExtent, extents_of, taken}
use Rattle.story_log.specs.Stopping.Journals.{JournalState}
use Rattle.story_log.specs.Stopping.Standing.{base_by, MayBeFound}

-- a row that a fault may have left after rows, as its frame spells it, which has these extents; the file of objects has what is
-- needed of it
pub record IsLeft (file : File) (stored b : Base) (row : Plain) (leftover : List (List ℕ)) (extents : List Extent) : Type 0 where
  pub spelt : Plain
  pub is : leftover ≡ spelling_of spelt ∷ []
  pub formed : IsFormed spelt
  pub extents_are : extents ≡ extents_of spelt.deed
  pub held : IsHeld file (spelt ∷ stored) (row ∷ b)

-- what is left over after the journal's list is nothing, or such a row
abbrev pub IsLeftOver : File → Base → Base → Option Plain → List (List ℕ) → List Extent → Type 0
IsLeftOver file stored b None leftover extents = leftover ≡ []
IsLeftOver file stored b (Some row) leftover extents = (leftover ≡ []) ⊎ IsLeft file stored b row leftover extents

-- The rows of a journal, as frames spell them, are those of the base after these commits and faults, and the file of objects
-- keeps what is needed of them; what is left over after its list is what the newest fault left. The extents that are taken are
-- those of live objects, and those of the row that is left over.
pub record IsMirrored (opening : Opening) (ends : List End) (journal : JournalState) (owned : List ObjectExtent)
    (orphaned : List Extent) (d : Device) : Type 0 where
  pub stored : Base
  pub list_is : journal.list ≡ payloads stored
  pub formed : AreFormed stored
  pub held : IsHeld (file_of 1 d) stored (base_by opening ends)
  pub owned_are : owned ≡ taken stored
  pub leftover_is : IsLeftOver (file_of 1 d) stored (base_by opening ends) (hanging ends) journal.leftover orphaned
  pub nothing : journal.left ≡ lefts.Nothing → journal.leftover ≡ []
  pub stops : (k : ℕ) (image objects : List ℕ) → opening.counts.ticks < k → Leaves 0 d k image → Leaves 1 d k objects
      → MayBeFound opening ends k (found_in image objects)
  pub now : (image : List ℕ) → LeavesNow 0 d image → Stands journal.list journal.leftover image

-- whether a row was committed since the base was opened, or a fault left one
abbrev pub has_row : List End → Bool
has_row [] = false
has_row (Committed row tick ∷ earlier) = true
has_row (Faulted None faults tick ∷ earlier) = has_row earlier
has_row (Faulted (Some row) faults tick ∷ earlier) = true

-- Whether a fault may have left the journal's tail open: the newest of some commits and faults is a fault, and it left a row.
-- Or it left none, and until then the tail may have stood as it was opened.
abbrev pub may_be_open : List End → Bool
may_be_open [] = false
may_be_open (Committed row tick ∷ earlier) = false
may_be_open (Faulted None faults tick ∷ earlier) = not (has_row earlier)
may_be_open (Faulted (Some row) faults tick ∷ earlier) = true

-- The base was opened, and the journal after it is that of its history; nothing is taken in the file of objects. Where no fault
-- may have left the journal's tail open none did. Unless the tail stands as it was opened, it is settled where the newest commit
-- or fault left nothing.
pub record IsBacked (s : State) (ghost_state : DiskState) (journal : JournalState) : Type 0 where
  pub opening : Opening
  pub opened : s.opened ≡ Some opening
  pub tells : opening.tells ≡ is_some ghost_state.modeled
  pub at_end : journal.ended ≡ true
  pub calm : may_be_open s.ends ≡ false → journal.left ≡ lefts.Nothing
  pub settled : (s.ends ≡ []) ⊎ (journal.settled ≡ settled_after journal.left)
  pub base : s.base ≡ base_by opening s.ends
  pub ticks : ticks_of s.opened s.ends ≤ ghost_state.ticks
  pub faults : faults_of s.opened s.ends ≤ ghost_state.faults
  pub covered : IfModeled ghost_state.modeled (IsMirrored opening s.ends journal [] [])

-- No stop now finds more than the base.
abbrev pub IsSettled : State → DiskState → Type 0
IsSettled s ghost_state = IfModeled ghost_state.modeled (λ d. OfStopNow d (λ found. Represents found s.base))

-- each stop since the base was opened, and one now, finds what the history says
pub record IsAccounted (s : State) (ghost_state : DiskState) : Type 0 where
  pub opening : Opening
  pub opened : s.opened ≡ Some opening
  pub tells : opening.tells ≡ is_some ghost_state.modeled
  pub ticks : ticks_of s.opened s.ends ≤ ghost_state.ticks
  pub faults : faults_of s.opened s.ends ≤ ghost_state.faults
  pub stops : IfModeled ghost_state.modeled (λ d. (k : ℕ) → opening.counts.ticks < k
      → OfEachStop d k (MayBeFound opening s.ends k))
  pub settled : hanging s.ends ≡ None → IsSettled s ghost_state
