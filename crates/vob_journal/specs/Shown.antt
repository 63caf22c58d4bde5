-- What contracts see of a journal.
use Rattle.std.specs.Prelude.{◌≤◌, ◌-◌, ◌^◌, ℕ, Bool, true, false, Option, Some, None, List, [], ◌++◌, length, drop}
use Rattle.disk_model.specs.Devices.{Device, bytes_now}
use Rattle.vob_journal.specs.declared.left.Left.{Left}
use Rattle.vob_journal.specs.Frames.{frames}
use Rattle.vob_journal.specs.Tails.{list_at, leftover_at, IsTail, IsStillRead}
use Rattle.vob_journal.specs.Windows.{IfShows, StartsBy}
use Rattle.vob_journal.specs.declared.window.Window.{Window}
use Rattle.disk_model.specs.DiskStates.{IfModeled}

-- A journal: its disk; the place after its last frame read or written; the whole list, what is still to be read of it,
-- and what a fault left over after it, each of them empty where the disk does not model its device; whether the end
-- was read, whether the tail is settled, and what the last failed call left; and how far the journal was read.
pub record Shown (D : Type 0) : Type 0 where
  pub disk : D
  pub tail : ℕ
  pub list : List (List ℕ)
  pub rest : List (List ℕ)
  pub leftover : List (List ℕ)
  pub ended : Bool
  pub settled : Bool
  pub left : Left
  pub reach : ℕ

-- how many frames of the list were read
abbrev pub frames_read : {D : Type 0} → Shown D → ℕ
frames_read journal = length journal.list - length journal.rest

-- what is still to be read
abbrev pub rest_at : Bool → ℕ → Device → List (List ℕ)
rest_at true tail d = []
rest_at false tail d = frames (drop tail (bytes_now 0 d))

-- the whole list, where the device is modeled
abbrev pub modeled_list : Option Device → Bool → ℕ → List (List ℕ)
modeled_list None ended tail = []
modeled_list (Some d) ended tail = list_at tail d ++ rest_at ended tail d

-- what is still to be read, where the device is modeled
abbrev pub modeled_rest : Option Device → Bool → ℕ → List (List ℕ)
modeled_rest None ended tail = []
modeled_rest (Some d) ended tail = rest_at ended tail d

-- nothing is left over while the list is read
abbrev pub leftover_of : Bool → Bool → ℕ → Device → List (List ℕ)
leftover_of true settled tail d = leftover_at settled tail d
leftover_of false settled tail d = []

-- what a fault left over, where the device is modeled
abbrev pub modeled_leftover : Option Device → Bool → Bool → ℕ → List (List ℕ)
modeled_leftover None ended settled tail = []
modeled_leftover (Some d) ended settled tail = leftover_of ended settled tail d

-- what a journal keeps while its list is read, and from its end on
abbrev pub JournalInvariant : Option Device → Bool → Bool → ℕ → ℕ → Option Window → Type 0
JournalInvariant modeled true settled tail size window = (tail ≤ 2 ^ 62) × IfModeled modeled (IsTail settled tail)
JournalInvariant modeled false settled tail size window =
    (tail ≤ size) × (size ≤ 2 ^ 62) × (StartsBy window tail × IfShows window modeled)
    × IfModeled modeled (IsStillRead tail size)
