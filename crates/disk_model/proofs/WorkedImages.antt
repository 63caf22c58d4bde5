-- What a stop may leave of a file, worked by hand from the crash model: its length lies between that at the last sync and the
-- greatest since, bytes written since and those past that length are any, and each other byte is as it reads.
use Rattle.std.proofs.Common.{◌≡◌, ℕ, zero, suc, ◌<◌, true, false, List, [], ◌∷◌, refl, inl, inr, arith}
use Rattle.std.specs.Prelude.{codes, slice_index}
use Rattle.disk_model.specs.Files.{File, IsImage, is_written, overwritten, stable}
use Rattle.disk_model.specs.Devices.{Device, Event, MayLeave, Measured, Stopped, Synced, Wrote, during, file_after}

-- two bytes over the middle of four; two over the last of them and one after it; two after them
within : overwritten 1 (codes "XY") (codes "abcd") ≡ codes "aXYd"
within = refl

past_the_end : overwritten 3 (codes "XY") (codes "abcd") ≡ codes "abcXY"
past_the_end = refl

at_the_end : overwritten 4 (codes "XY") (codes "abcd") ≡ codes "abcdXY"
at_the_end = refl

-- a range of two bytes from place 1 on has places 1 and 2
before_range : is_written ((1, 2) ∷ []) 0 ≡ false
before_range = refl

first_of_range : is_written ((1, 2) ∷ []) 1 ≡ true
first_of_range = refl

last_of_range : is_written ((1, 2) ∷ []) 2 ≡ true
last_of_range = refl

behind_range : is_written ((1, 2) ∷ []) 3 ≡ false
behind_range = refl

in_the_older : is_written ((1, 2) ∷ (5, 1) ∷ []) 5 ≡ true
in_the_older = refl

-- four bytes on the disk, over the middle of which two were written since
rewritten : File
rewritten = file_after 0 (codes "abcd") (Wrote 0 1 2 (codes "aXYd") ∷ [])

-- the write is there, in part, or not at all, and its range may hold other bytes
all_there : IsImage rewritten (codes "aXYd")
unfolding rewritten
all_there = record { no_shorter = omega arith; no_longer = omega arith; kept = λ i below none. refl }

in_part : IsImage rewritten (codes "aXcd")
unfolding rewritten
in_part = record { no_shorter = omega arith; no_longer = omega arith; kept = kept }
  where
    kept : (i : ℕ) → i < 4 → is_written ((1, 2) ∷ []) i ≡ false
        → slice_index (codes "aXcd") i ≡ slice_index (codes "aXYd") i
    kept zero below none = refl
    kept (suc zero) below none = refl
    kept (suc (suc zero)) below none = absurd cc
    kept (suc (suc (suc zero))) below none = refl
    kept (suc (suc (suc (suc i)))) below none = absurd (omega (arith, below))

not_at_all : IsImage rewritten (codes "abcd")
unfolding rewritten
not_at_all = record { no_shorter = omega arith; no_longer = omega arith; kept = kept }
  where
    kept : (i : ℕ) → i < 4 → is_written ((1, 2) ∷ []) i ≡ false
        → slice_index (codes "abcd") i ≡ slice_index (codes "aXYd") i
    kept zero below none = refl
    kept (suc zero) below none = absurd cc
    kept (suc (suc zero)) below none = absurd cc
    kept (suc (suc (suc zero))) below none = refl
    kept (suc (suc (suc (suc i)))) below none = absurd (omega (arith, below))

-- a byte outside the range stays, and the file is no shorter than at the last sync, nor longer than it was since
not_another_byte : IsImage rewritten (codes "QXYd") → ⊥
unfolding rewritten
not_another_byte h = absurd (let first = h.kept 0 (omega arith) refl in omega (arith, first))

not_shorter : IsImage rewritten (codes "aXY") → ⊥
unfolding rewritten
not_shorter h = absurd (omega (arith, h.no_shorter))

not_longer : IsImage rewritten (codes "aXYde") → ⊥
unfolding rewritten
not_longer h = absurd (omega (arith, h.no_longer))

-- after a sync all is there, and nothing else
synced : File
synced = file_after 0 (codes "abcd") (Synced 0 ∷ Wrote 0 1 2 (codes "aXYd") ∷ [])

there_after_sync : IsImage synced (codes "aXYd")
unfolding synced
there_after_sync = record { no_shorter = omega arith; no_longer = omega arith; kept = λ i below none. refl }

not_the_old_after_sync : IsImage synced (codes "abcd") → ⊥
unfolding synced
not_the_old_after_sync h = absurd (let second = h.kept 1 (omega arith) refl in omega (arith, second))

-- within a write its range counts as written; a sync under way has done nothing yet
within_a_write : (during 0 (Wrote 0 1 2 (codes "aXYd")) (stable (codes "abcd"))).written ≡ (1, 2) ∷ []
within_a_write = refl

within_a_write_of_the_other : during 0 (Wrote 1 1 2 (codes "aXYd")) (stable (codes "abcd")) ≡ stable (codes "abcd")
within_a_write_of_the_other = refl

within_a_sync : during 0 (Synced 0) rewritten ≡ rewritten
within_a_sync = refl

-- two bytes on the disk: call 1 measures them, call 2 writes two over the last of them, and call 3 syncs, the newest first
calls : List Event
calls = Synced 0 ∷ Wrote 0 1 2 (codes "aXY") ∷ Measured 0 ∷ []

device : Device
device = record { journal = codes "ab"; objects = []; calls = calls }

-- a stop at the write or at the sync may leave a byte more than there was, and the old byte or any other
longer_at_write : Stopped 0 (codes "ab") calls 2 (codes "aXY")
unfolding calls
longer_at_write = inr (inl (refl, record { no_shorter = omega arith; no_longer = omega arith; kept = λ i below none. refl }))

old_at_write : Stopped 0 (codes "ab") calls 2 (codes "ab")
unfolding calls
old_at_write = inr (inl (refl, record { no_shorter = omega arith; no_longer = omega arith; kept = kept }))
  where
    kept : (i : ℕ) → i < 2 → is_written ((1, 2) ∷ []) i ≡ false
        → slice_index (codes "ab") i ≡ slice_index (codes "aXY") i
    kept zero below none = refl
    kept (suc zero) below none = absurd cc
    kept (suc (suc i)) below none = absurd (omega (arith, below))

old_at_sync : MayLeave 0 device 3 (codes "ab")
unfolding device calls
old_at_sync = inl (inl (refl, record { no_shorter = omega arith; no_longer = omega arith; kept = kept }))
  where
    kept : (i : ℕ) → i < 2 → is_written ((1, 2) ∷ []) i ≡ false
        → slice_index (codes "ab") i ≡ slice_index (codes "aXY") i
    kept zero below none = refl
    kept (suc zero) below none = absurd cc
    kept (suc (suc i)) below none = absurd (omega (arith, below))

-- a stop at the call before leaves nothing of the write
nothing_before_write : Stopped 0 (codes "ab") calls 1 (codes "aXY") → ⊥
unfolding calls
nothing_before_write (inl now) = absurd (omega (arith, now.0))
nothing_before_write (inr (inl now)) = absurd (omega (arith, now.0))
nothing_before_write (inr (inr (inl now))) = absurd (omega (arith, now.1.no_longer))
nothing_before_write (inr (inr (inr none))) = elim none [ ]

-- after the last call all of it is there, and the old bytes are not
new_after_sync : MayLeave 0 device 4 (codes "aXY")
unfolding device calls
new_after_sync = inr (refl, record { no_shorter = omega arith; no_longer = omega arith; kept = λ i below none. refl })

not_old_after_sync : MayLeave 0 device 4 (codes "ab") → ⊥
unfolding device calls
not_old_after_sync (inl (inl now)) = absurd (omega (arith, now.0))
not_old_after_sync (inl (inr (inl now))) = absurd (omega (arith, now.0))
not_old_after_sync (inl (inr (inr (inl now)))) = absurd (omega (arith, now.0))
not_old_after_sync (inl (inr (inr (inr none)))) = elim none [ ]
not_old_after_sync (inr now) = absurd (omega (arith, now.1.no_shorter))

-- a stop at a call that was never made leaves nothing
no_such_call : MayLeave 0 device 5 (codes "aXY") → ⊥
unfolding device calls
no_such_call (inl (inl now)) = absurd (omega (arith, now.0))
no_such_call (inl (inr (inl now))) = absurd (omega (arith, now.0))
no_such_call (inl (inr (inr (inl now)))) = absurd (omega (arith, now.0))
no_such_call (inl (inr (inr (inr none)))) = elim none [ ]
no_such_call (inr now) = absurd (omega (arith, now.0))
