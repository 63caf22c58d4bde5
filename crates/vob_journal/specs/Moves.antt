-- The crash clause of the journal's calls: what stops within a call leave, and a stop after it.
use Rattle.std.specs.Prelude.{◌≡◌, ◌⊎◌, ◌≤◌, ◌<◌, ℕ, List, ◌++◌, length}
use Rattle.disk_model.specs.Devices.{Device, file_of, Leaves, LeavesNow}
use Rattle.vob_journal.specs.Frames.{frames}

-- an image of the journal has the list, or the list and what is left over after it
abbrev pub Stands : List (List ℕ) → List (List ℕ) → List ℕ → Type 0
Stands list leftover image = (frames image ≡ list) ⊎ (frames image ≡ list ++ leftover)

-- an image from before or from after a change
abbrev pub Between : List (List ℕ) → List (List ℕ) → List (List ℕ) → List (List ℕ) → List ℕ → Type 0
Between list leftover list' leftover' image = Stands list leftover image ⊎ (frames image ≡ list' ++ leftover')

-- Calls lead from one device to another: stops at earlier calls leave what they left, those since leave a journal that
-- meets P. The file of objects stays as it was.
pub record Passes (d e : Device) (P : List ℕ → Type 0) : Type 0 where
  pub no_fewer : length d.calls ≤ length e.calls
  pub each : (k : ℕ) (image : List ℕ) → Leaves 0 e k image → Leaves 0 d k image ⊎ ((length d.calls < k) × P image)
  pub others : (k : ℕ) (image : List ℕ) → Leaves 1 e k image → Leaves 1 d k image ⊎ ((length d.calls < k) × LeavesNow 1 d image)
  pub objects : file_of 1 e ≡ file_of 1 d

-- Calls lead from a list and what is left over after it to others: each stop since leaves the one or the other, and a stop
-- now leaves the new list, with what is left over after it or without.
pub record Moves (list leftover list' leftover' : List (List ℕ)) (d e : Device) : Type 0 where
  pub passes : Passes d e (Between list leftover list' leftover')
  pub now : (image : List ℕ) → LeavesNow 0 e image → Stands list' leftover' image
