-- What a fault left, by the calls that were made, worked by hand.
use Rattle.std.proofs.Common.{◌≡◌, ◌+◌, ℕ, true, false, Some, None, List, [], ◌∷◌, refl, ap, inl, inr, arith}
use Rattle.cc_names.specs.Formed.{Plain}
use Rattle.disk_model.specs.Devices.{Device, Failed, Wrote, new_device, with_call}
use Rattle.disk_model.specs.DiskStates.{DiskState}
use Rattle.row_form.specs.Spelled.{spelling_of}
use Rattle.vob_journal.specs.Calls.{FailsToCommit, put, put_down}
use Rattle.vob_journal.specs.Frames.{frame_after_gate}
use Rattle.vob_journal.specs.declared.left.Left.{Left}
use Rattle.vob_journal.specs.declared.left.Left.TheVariants.{Nothing, Earlier, InFlight}
use Rattle.story_log.specs.Stopping.Tails.{Tail}
use Rattle.story_log.specs.Logging.Appending.{LeavesByCalls}

-- an empty disk, and the same once the gate of its tail was shut
abbrev empty : Device
empty = new_device [] []

abbrev shut : Device
shut = put_down 0 (0 ∷ []) empty

-- as many calls as were made on a device, and so many faults
abbrev modeled : Device → ℕ → ℕ → DiskState
modeled d ticks faults = record { modeled = Some d; ticks = ticks; faults = faults }

-- the tail as it was opened, and settled
abbrev ajar : Tail
ajar = record { place = 0; settled = false }

-- Under the first row the gate was shut, and the write of the frame failed at the third call: nothing is left.
frame_missed : (row : Plain)
    → LeavesByCalls [] ajar row None Nothing (modeled empty 0 0) (modeled (with_call Failed shut) 3 1)
frame_missed row = record { leaves = refl; fails = (omega arith, omega arith); calls = inr (inl refl) }

-- not: its row is left
not_its_row : (row : Plain) (left : Left)
    → LeavesByCalls [] ajar row (Some row) left (modeled empty 0 0) (modeled (with_call Failed shut) 3 1) → ⊥
not_its_row row Nothing h = let leaves = h.leaves in absurd (cc leaves)
not_its_row row Earlier h = let leaves = h.leaves in absurd (cc leaves)
not_its_row row InFlight h = absurd (omega (arith, h.fails.0))
