-- The frames of a journal and the device calls of a commit, to the byte: counted by hand from the format and checked by
-- computation.
use Rattle.std.proofs.Common.{◌≡◌, ℕ, true, false, List, [], ◌∷◌, ◌++◌, refl, ap, inl, inr, arith}
use Rattle.std.specs.Prelude.{codes}
use Rattle.disk_model.specs.Devices.{Device, Failed, Synced, Wrote, bytes_now, new_device, with_call}
use Rattle.vob_journal.specs.Calls.{FailsToCommit, FailsToPut, device_after_commit, put_down}
use Rattle.vob_journal.specs.Frames.{frame_after_gate, frames}
use Rattle.vob_journal.specs.Lefts.{FailsInPhase}
use Rattle.vob_journal.specs.declared.left.Left.TheVariants.{Nothing, Earlier, InFlight}

-- The row that makes view `v` as the first command of a session, at moment 1,700,000,000: its form; phase, lane and command, four
-- bytes each; the moment, eight bytes; the deed's code; and the name with its length. It has 27 bytes.
abbrev payload : List ℕ
payload =
    1 ∷ 1 ∷ 0 ∷ 0 ∷ 0 ∷ 1 ∷ 0 ∷ 0 ∷ 0 ∷ 1 ∷ 0 ∷ 0 ∷ 0 ∷ 0 ∷ 241 ∷ 83 ∷ 101 ∷ 0 ∷ 0 ∷ 0 ∷ 0 ∷ 1 ∷ 1 ∷ 0 ∷ 0 ∷ 0 ∷ 118 ∷ []

-- its length, the payload and the next gate
abbrev behind_gate : List ℕ
behind_gate = 27 ∷ 0 ∷ 0 ∷ 0 ∷ payload ++ 0 ∷ []

written_behind_gate : frame_after_gate payload ≡ behind_gate
written_behind_gate = refl

-- an open gate, and a gate byte of 0 or of 7, which count as shut
open_gate : frames (1 ∷ behind_gate) ≡ payload ∷ []
unfolding frames
open_gate = refl

shut_gate : frames (0 ∷ behind_gate) ≡ []
unfolding frames
shut_gate = refl

gate_byte_7 : frames (7 ∷ behind_gate) ≡ []
unfolding frames
gate_byte_7 = refl

-- two frames, and one after which the second is shut
two_frames : frames (1 ∷ 2 ∷ 0 ∷ 0 ∷ 0 ∷ codes "ab" ++ 1 ∷ 1 ∷ 0 ∷ 0 ∷ 0 ∷ codes "c" ++ 0 ∷ []) ≡ codes "ab" ∷ codes "c" ∷ []
unfolding frames
two_frames = refl

second_shut : frames (1 ∷ 2 ∷ 0 ∷ 0 ∷ 0 ∷ codes "ab" ++ 0 ∷ 1 ∷ 0 ∷ 0 ∷ 0 ∷ codes "c" ++ 0 ∷ []) ≡ codes "ab" ∷ []
unfolding frames
second_shut = refl

-- an empty payload, and a payload whose bytes look like a frame: they are skipped
empty_payload : frames (1 ∷ 0 ∷ 0 ∷ 0 ∷ 0 ∷ []) ≡ [] ∷ []
unfolding frames
empty_payload = refl

frame_in_payload : frames (1 ∷ 5 ∷ 0 ∷ 0 ∷ 0 ∷ 1 ∷ 0 ∷ 0 ∷ 0 ∷ 0 ∷ []) ≡ (1 ∷ 0 ∷ 0 ∷ 0 ∷ 0 ∷ []) ∷ []
unfolding frames
frame_in_payload = refl

-- an empty file, a length that is cut short, a payload that lacks a byte, and a length past the end
no_bytes : frames [] ≡ []
unfolding frames
no_bytes = refl

torn_length : frames (1 ∷ 2 ∷ 0 ∷ 0 ∷ []) ≡ []
unfolding frames
torn_length = refl

torn_payload : frames (1 ∷ 2 ∷ 0 ∷ 0 ∷ 0 ∷ codes "a") ≡ []
unfolding frames
torn_payload = refl

length_past_end : frames (1 ∷ 255 ∷ 0 ∷ 0 ∷ 0 ∷ []) ≡ []
unfolding frames
length_past_end = refl

-- The first row on an empty disk, whose tail is not settled: a shut gate is written and synced; after it the length, the payload
-- and the next gate; and then the gate is opened. The calls are listed newest first.
six_calls : (device_after_commit false 0 payload (new_device [] [])).calls
    ≡ Synced 0 ∷ Wrote 0 0 1 (1 ∷ behind_gate)
    ∷ Synced 0 ∷ Wrote 0 1 32 (0 ∷ behind_gate)
    ∷ Synced 0 ∷ Wrote 0 0 1 (0 ∷ []) ∷ []
six_calls = refl

first_frame : bytes_now 0 (device_after_commit false 0 payload (new_device [] [])) ≡ 1 ∷ behind_gate
first_frame = refl

-- a second one after a shut gate takes four calls
four_calls : (device_after_commit true 7 (codes "c") (new_device (1 ∷ 2 ∷ 0 ∷ 0 ∷ 0 ∷ codes "ab" ++ 0 ∷ []) [])).calls
    ≡ Synced 0 ∷ Wrote 0 7 1 (1 ∷ 2 ∷ 0 ∷ 0 ∷ 0 ∷ codes "ab" ++ 1 ∷ 1 ∷ 0 ∷ 0 ∷ 0 ∷ codes "c" ++ 0 ∷ [])
    ∷ Synced 0 ∷ Wrote 0 8 6 (1 ∷ 2 ∷ 0 ∷ 0 ∷ 0 ∷ codes "ab" ++ 0 ∷ 1 ∷ 0 ∷ 0 ∷ 0 ∷ codes "c" ++ 0 ∷ []) ∷ []
four_calls = refl

objects_as_they_were : bytes_now 1 (device_after_commit false 0 payload (new_device [] (codes "xyz"))) ≡ codes "xyz"
objects_as_they_were = refl

-- After 10 calls, on a settled tail: calls 11 and 12 write the frame and sync it, and leave nothing where one of them fails.
-- Calls 13 and 14 open the gate, and leave the row in flight.
frame_not_synced : FailsInPhase true Nothing 10 12
frame_not_synced = (omega arith, omega arith)

gate_not_synced : FailsInPhase true InFlight 10 14
gate_not_synced = (omega arith, omega arith)

frame_leaves_no_row : FailsInPhase true InFlight 10 12 → ⊥
frame_leaves_no_row h = absurd (omega (arith, h.0))

gate_leaves_a_row : FailsInPhase true Nothing 10 13 → ⊥
gate_leaves_a_row h = absurd (omega (arith, h.1))

nothing_to_settle : FailsInPhase true Earlier 10 11 → ⊥
nothing_to_settle h = absurd cc

-- on a tail that is not settled, calls 11 and 12 settle it, and what was left over is left over
settling_fails : FailsInPhase false Earlier 10 12
settling_fails = (refl, omega arith)

frame_not_written : FailsInPhase false Nothing 10 13
frame_not_written = (omega arith, omega arith)

gate_not_opened : FailsInPhase false InFlight 10 15
gate_not_opened = (omega arith, omega arith)

settled_leaves_no_earlier : FailsInPhase false Earlier 10 13 → ⊥
settled_leaves_no_earlier h = absurd (omega (arith, h.1))

commit_has_six_calls : FailsInPhase false InFlight 10 17 → ⊥
commit_has_six_calls h = absurd (omega (arith, h.1))

-- a tail that was to be settled on an empty disk: the gate was written, and the sync failed
gate_not_kept : FailsToPut 0 (0 ∷ []) (new_device [] []) (with_call Failed (with_call (Wrote 0 0 1 (0 ∷ [])) (new_device [] [])))
gate_not_kept = inr (inr (inr (inr refl)))

-- not: a byte 7 was written there
not_a_seven : FailsToPut 0 (0 ∷ []) (new_device [] []) (with_call (Wrote 0 0 1 (7 ∷ [])) (new_device [] [])) → ⊥
not_a_seven (inl same) = let calls = ap (λ (d : Device). d.calls) same in absurd (cc calls)
not_a_seven (inr (inl missed)) = let calls = ap (λ (d : Device). d.calls) missed in absurd (cc calls)
not_a_seven (inr (inr (inl tore))) = let calls = ap (λ (d : Device). d.calls) tore.2 in absurd (cc calls)
not_a_seven (inr (inr (inr (inl wrote)))) = let calls = ap (λ (d : Device). d.calls) wrote in absurd (cc calls)
not_a_seven (inr (inr (inr (inr missed)))) = let calls = ap (λ (d : Device). d.calls) missed in absurd (cc calls)

-- A commit on an empty disk, whose tail is not settled: the shut gate was put down, and the write of the frame failed. Nothing is
-- left.
abbrev gate_alone : Device
gate_alone = put_down 0 (0 ∷ []) (new_device [] [])

frame_missed : FailsToCommit false 0 payload Nothing (new_device [] []) (with_call Failed gate_alone)
frame_missed = inr (inl refl)

-- not: these were calls that fail to open the gate of a settled tail, wherever it is
not_its_gate : (tail : ℕ) → FailsToCommit true tail payload InFlight (new_device [] []) (with_call Failed gate_alone) → ⊥
not_its_gate tail (inl same) = let calls = ap (λ (d : Device). d.calls) same in absurd (cc calls)
not_its_gate tail (inr (inl missed)) = let calls = ap (λ (d : Device). d.calls) missed in absurd (cc calls)
not_its_gate tail (inr (inr (inl tore))) = let calls = ap (λ (d : Device). d.calls) tore.2 in absurd (cc calls)
not_its_gate tail (inr (inr (inr (inl wrote)))) = let calls = ap (λ (d : Device). d.calls) wrote in absurd (cc calls)
not_its_gate tail (inr (inr (inr (inr missed)))) = let calls = ap (λ (d : Device). d.calls) missed in absurd (cc calls)

-- the sync of the open gate failed: the row in flight is left
gate_not_kept_open : FailsToCommit false 0 payload InFlight (new_device [] [])
    (with_call Failed (with_call (Wrote 0 0 1 (1 ∷ behind_gate)) (put_down 1 behind_gate gate_alone)))
gate_not_kept_open = inr (inr (inr (inr refl)))
