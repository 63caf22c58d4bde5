-- The calls that settle a journal at the end, worked by hand.
use Rattle.std.proofs.Common.{◌≡◌, ℕ, true, false, Some, None, List, [], ◌∷◌, refl, ap, inl, inr, arith}
use Rattle.cc_names.specs.Formed.{Plain}
use Rattle.disk_model.specs.Devices.{Device, Failed, Wrote, new_device, with_call}
use Rattle.disk_model.specs.DiskStates.{DiskState}
use Rattle.legal_history.specs.Stories.States.{Committed, Faulted}
use Rattle.vob_journal.specs.Calls.{put_down}
use Rattle.story_log.specs.Logging.Appending.{SettlesTail}
use Rattle.story_log.specs.Stopping.Tails.{Tail}

abbrev ajar : Tail
ajar = record { place = 0; settled = false }

abbrev shut : Tail
shut = record { place = 0; settled = true }

-- an empty disk, and one whose gate was shut, with so many calls and faults
abbrev empty : Device
empty = new_device [] []

abbrev on : Device → ℕ → ℕ → DiskState
on d ticks faults = record { modeled = Some d; ticks = ticks; faults = faults }

-- nothing was committed: no call
no_call : SettlesTail [] ajar (on empty 0 0) (on empty 0 0)
no_call = refl

-- a fault left the tail open: both calls, or the write alone where the sync failed
both_calls : SettlesTail (Faulted None 1 2 ∷ []) ajar (on empty 2 1) (on (put_down 0 (0 ∷ []) empty) 4 1)
both_calls = inl (refl, refl)

not_synced : SettlesTail (Faulted None 1 2 ∷ []) ajar (on empty 2 1)
    (on (with_call Failed (with_call (Wrote 0 0 1 (0 ∷ [])) empty)) 4 2)
not_synced = inr (refl, refl, inr (inr (inr (inr refl))))

-- not: no call, where none failed; a tail that stands as it was opened; and one that is settled, once more
not_left : SettlesTail (Faulted None 1 2 ∷ []) ajar (on empty 2 1) (on empty 2 1) → ⊥
not_left (inl same) = let calls = ap (λ (d : Device). d.calls) same.1 in absurd (cc calls)
not_left (inr failed) = absurd (omega (arith, failed.1))

not_before : SettlesTail [] ajar (on empty 2 1) (on (put_down 0 (0 ∷ []) empty) 4 1) → ⊥
not_before h = let ticks = ap (λ (s : DiskState). s.ticks) h in absurd (omega (arith, ticks))

not_again : (row : Plain) (tick : ℕ)
    → SettlesTail (Committed row tick ∷ []) shut (on empty 6 0) (on (put_down 0 (0 ∷ []) empty) 8 0) → ⊥
not_again row tick (inl same) = let calls = ap (λ (d : Device). d.calls) same.1 in absurd (cc calls)
not_again row tick (inr failed) = let unsettled = failed.0 in absurd (cc unsettled)
