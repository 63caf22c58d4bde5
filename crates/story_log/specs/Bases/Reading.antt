-- How the rows of a journal are read.
use Rattle.std.specs.Prelude.{◌≡◌, ◌≤◌, ℕ, Bool, true, false, Option, Some, None, List, [], ◌∷◌, ◌++◌}
use Rattle.cc_names.specs.Formed.{IsFormed, Plain}
use Rattle.cc_names.specs.declared.rows.Deed.{Deed}
use Rattle.disk_model.specs.Devices.{Device, LeavesNow}
use Rattle.disk_model.specs.DiskStates.{DiskState, IfModeled, Both}
use Rattle.base_model.specs.Rows.{Base, size}
use Rattle.base_model.specs.Fits.{fits, is_base}
use Rattle.cc_names.specs.Counts.{rises}
use Rattle.row_form.specs.Spelled.{spelling_of}
use Rattle.vob_journal.specs.Answered.{GivesNext}
use Rattle.vob_journal.specs.Frames.{frames}
use Rattle.vob_journal.specs.Moves.{Moves}
use Rattle.vob_journal.specs.Pieces.{IsReadUntil, ReadsOnce, ReadsOnceTo}
use Rattle.vob_journal.specs.Reads.{SameFiles}
use Rattle.vob_journal.specs.Shown.{Shown}
use Rattle.story_log.specs.Story.Formed.{AreFormed}
use Rattle.story_log.specs.Stopping.Tails.{IsFoundTail, Tail, tail_of}
use Rattle.story_log.specs.Stored.Payloads.{payloads}
use Rattle.story_log.specs.declared.opening.OpenCause.{OpenCause}
use Rattle.story_log.specs.declared.opening.OpenCause.TheVariants as causes

-- What reading leaves of a journal with nothing left over: its list, which each stop since finds, and both files as they were.
pub record OnlyReads {D : Type 0} (ghost_state : D → DiskState) (old new : Shown D) : Type 0 where
  pub list : new.list ≡ old.list
  pub left : new.left ≡ old.left
  pub ticks : (ghost_state old.disk).ticks ≤ (ghost_state new.disk).ticks
  pub stops : Both (Moves old.list [] old.list []) (ghost_state old.disk).modeled (ghost_state new.disk).modeled
  pub files : Both SameFiles (ghost_state old.disk).modeled (ghost_state new.disk).modeled

-- the end of a list was read exactly where nothing was found
abbrev pub EndsAt : {A : Type 0} → Option A → Bool → Type 0
EndsAt None ended = ended ≡ true
EndsAt (Some one) ended = ended ≡ false

-- at the end of a list the journal's tail is as it was found
abbrev pub FindsTail : {A : Type 0} → Option A → Tail → Device → Type 0
FindsTail None tail d = IsFoundTail tail d
FindsTail (Some one) tail d = Unit {0}

-- the next payload, or the end of the list, and nothing is left over there either
pub record NextIs {D : Type 0} (ghost_state : D → DiskState) (found : Option (List ℕ)) (old new : Shown D) : Type 0 where
  pub leftover : new.leftover ≡ []
  pub ends : EndsAt found new.ended
  pub faultless : (ghost_state new.disk).faults ≡ (ghost_state old.disk).faults
  pub gives : IfModeled (ghost_state old.disk).modeled (λ _. GivesNext found old.rest new.rest)
  pub tail : old.ended ≡ false → IfModeled (ghost_state new.disk).modeled (FindsTail found (tail_of new))

-- why no payload was read, with the disk's counts of faults before and after
abbrev pub IsMissed : OpenCause → ℕ → ℕ → Type 0
IsMissed (causes.Damaged n) old new = ⊥
IsMissed causes.DiskFault old new = rises old new ≡ true
IsMissed causes.NoMemory old new = new ≡ old

-- a damaged frame is the one after those of a base
abbrev pub IsAfterBase : Base → OpenCause → Type 0
IsAfterBase b (causes.Damaged n) = n ≡ size b
IsAfterBase b cause = Unit {0}

-- a journal was read on, to any of its frames or to its end
abbrev pub IsReadOn : ℕ → ℕ → Device → Device → Type 0
IsReadOn from had d e = (to : ℕ) × IsReadUntil from had to d e

-- a journal was read on, until this stopped it: to a damaged frame, and no further
abbrev pub IsReadBy : OpenCause → ℕ → ℕ → Device → Device → Type 0
IsReadBy (causes.Damaged n) from had d e = IsReadUntil from had n d e
IsReadBy cause from had d e = IsReadOn from had d e

-- A journal was read once, until this stopped it: to a damaged frame, and no further.
abbrev pub ReadsOnceBy : OpenCause → Device → Device → Type 0
ReadsOnceBy (causes.Damaged n) d e = ReadsOnceTo n d e
ReadsOnceBy cause d e = ReadsOnce d e

-- why a row of this deed may not follow a base
abbrev pub IsMisfit : Base → Deed → OpenCause → Type 0
IsMisfit b deed (causes.Damaged n) = (n ≡ size b) × (fits b deed ≡ false)
IsMisfit b deed causes.DiskFault = ⊥
IsMisfit b deed causes.NoMemory = Unit {0}

-- no formed row that fits the base has this spelling
abbrev pub IsUnfit : Base → List ℕ → Type 0
IsUnfit b payload = (row : Plain) → IsFormed row → payload ≡ spelling_of row → fits b row.deed ≡ true → ⊥

-- a payload spells this row, which is formed and fits a base
pub record IsNextRow (b : Base) (payload : List ℕ) (row : Plain) : Type 0 where
  pub spells : payload ≡ spelling_of row
  pub formed : IsFormed row
  pub fits : fits b row.deed ≡ true

-- why a payload gave no row after a base
abbrev pub IsNoRow : Base → List ℕ → OpenCause → Type 0
IsNoRow b payload (causes.Damaged n) = (n ≡ size b) × IsUnfit b payload
IsNoRow b payload causes.DiskFault = ⊥
IsNoRow b payload causes.NoMemory = Unit {0}

-- What was read so far is a base of formed rows, and the journal's list is theirs and what is still to be read.
pub record IsReadSoFar {D : Type 0} (ghost_state : D → DiskState) (base : Base) (journal : Shown D) : Type 0 where
  pub good : is_base base ≡ true
  pub formed : AreFormed base
  pub leftover : journal.leftover ≡ []
  pub now : IfModeled (ghost_state journal.disk).modeled (λ d. (image : List ℕ) → LeavesNow 0 d image
      → frames image ≡ journal.list)
  pub list_is : IfModeled (ghost_state journal.disk).modeled (λ _. journal.list ≡ payloads base ++ journal.rest)

-- the whole journal was read: its list is that of this base
pub record IsReadThrough {D : Type 0} (ghost_state : D → DiskState) (base : Base) (journal : Shown D) : Type 0 where
  pub so_far : IsReadSoFar ghost_state base journal
  pub ended : journal.ended ≡ true
  pub nothing : IfModeled (ghost_state journal.disk).modeled (λ _. journal.rest ≡ [])

-- after the base that was read there is one more row, or the end
abbrev pub ReadsOn : {D : Type 0} → (D → DiskState) → Base → Option Plain → Shown D → Type 0
ReadsOn ghost_state base None journal = IsReadThrough ghost_state base journal
ReadsOn ghost_state base (Some row) journal = IsReadSoFar ghost_state (row ∷ base) journal
