-- The calls of an opening, worked by hand: a journal is read once, in one piece or in several; and calls that are none of an
-- opening.
use Rattle.std.proofs.Common.{◌≡◌, ℕ, zero, suc, Some, List, [], ◌∷◌, ◌++◌, length, refl, ◌∙◌, ap, inl, inr, arith}
use Rattle.std.specs.Prelude.{codes}
use Rattle.disk_model.specs.Devices.{Device, Event, Failed, Fetched, Measured, Synced}
use Rattle.vob_journal.specs.Foreign.{behind}
use Rattle.vob_journal.specs.Frames.{end_of_frames, frames, head, place_after}
use Rattle.vob_journal.specs.Pieces.{IsPiece, LooksBehind, ReadsForth, ReadsOnce, needed, needed_by}

-- the frames of the payloads `ab` and `c`, and a shut gate after them
abbrev journal : List ℕ
journal = 1 ∷ 2 ∷ 0 ∷ 0 ∷ 0 ∷ codes "ab" ++ 1 ∷ 1 ∷ 0 ∷ 0 ∷ 0 ∷ codes "c" ++ 0 ∷ []

-- where a frame ends: at the start, after the first, after the second, and nowhere after that
no_frame : place_after 0 journal ≡ 0
no_frame = refl

one_frame : place_after 1 journal ≡ 7
one_frame = refl

two_frames : place_after 2 journal ≡ 13
two_frames = refl

no_third : place_after 3 journal ≡ 13
no_third = refl

-- the end of the list
end_of_both : end_of_frames journal ≡ 13
unfolding frames
end_of_both = refl

no_end_after_less : end_of_frames (1 ∷ 9 ∷ 0 ∷ 0 ∷ 0 ∷ codes "ab") ≡ 0
unfolding frames
no_end_after_less = refl

not_within : (number : ℕ) → 3 ≡ place_after number journal → ⊥
not_within zero e = omega (arith, e)
not_within (suc number) e = omega (arith, e)

-- what says what stands there: a whole frame, a gate that is shut, five bytes of a frame that is cut short, and no byte
of_a_frame : needed journal ≡ 7
of_a_frame = refl

of_a_gate : needed (0 ∷ []) ≡ 1
of_a_gate = refl

of_a_cut_frame : needed (1 ∷ 9 ∷ 0 ∷ 0 ∷ 0 ∷ codes "ab") ≡ 5
of_a_cut_frame = refl

of_no_byte : needed [] ≡ 0
of_no_byte = refl

-- a device with this journal, on which these calls were made, the newest first
abbrev called : List Event → Device
called calls = record { journal = journal; objects = []; calls = calls }

-- one piece, and a call after it that failed
whole : IsPiece journal 0 0 14
whole = record { unread = omega arith; further = omega arith; long = inl refl }

one_piece : ReadsOnce (called []) (called (Fetched 0 0 14 ∷ Measured 0 ∷ []))
one_piece = (
  3,
  record {
    more = Fetched 0 0 14 ∷ Measured 0 ∷ [];
    calls = refl;
    once = inr (Fetched 0 0 14 ∷ [], 14, refl, (refl, refl, (0, omega arith, refl, (0, whole, (omega arith, refl)))));
  },
)

then_failed : ReadsOnce (called []) (called (Failed ∷ Fetched 0 0 14 ∷ Measured 0 ∷ []))
then_failed = (
  1,
  record {
    more = Failed ∷ Fetched 0 0 14 ∷ Measured 0 ∷ [];
    calls = refl;
    once = inr (Fetched 0 0 14 ∷ [], 14, refl, (refl, refl, (0, omega arith, refl, (0, whole, (omega arith, refl)))));
  },
)

-- A frame of 100,005 bytes is read in two pieces from its start on: 64 KiB, which say how long it is, and then all of it.
long_frame : (bytes payload : List ℕ) → head bytes ≡ Some payload → length payload ≡ 100000 → needed bytes ≡ 100005
long_frame bytes payload is long = ap (λ found. needed_by found bytes) is ∙ omega (arith, long)

its_head : (bytes payload : List ℕ) → head bytes ≡ Some payload → length payload ≡ 100000 → length bytes ≡ 300000
    → IsPiece bytes 0 0 65536
its_head bytes payload is long all = record {
  unread = omega (arith, long_frame bytes payload is long);
  further = omega arith;
  long = inr (omega (arith, all), omega (arith, all));
}

all_of_it : (bytes payload : List ℕ) → head bytes ≡ Some payload → length payload ≡ 100000 → length bytes ≡ 300000
    → IsPiece bytes 65536 0 100005
all_of_it bytes payload is long all = record {
  unread = omega (arith, long_frame bytes payload is long);
  further = omega arith;
  long = inl (omega (arith, all, long_frame bytes payload is long));
}

-- where its first five bytes were read with what stands before it, it is read at once
at_once : (bytes payload : List ℕ) (size : ℕ) → head bytes ≡ Some payload → length payload ≡ 100000 → length bytes ≡ 300000
    → IsPiece bytes 5 0 size → size ≡ 100005
at_once bytes payload size is long all piece = elim piece.long [
  | inl whole ↦ whole ∙ omega (arith, all, long_frame bytes payload is long)
  | inr short ↦ omega (arith, short.1, all)
]

-- not: a third one; less than all that is left; the second frame, or the gate after it, where these were read already
not_a_third : (bytes payload : List ℕ) (size : ℕ) → head bytes ≡ Some payload → length payload ≡ 100000
    → IsPiece bytes 100005 0 size → ⊥
not_a_third bytes payload size is long piece = omega (arith, piece.unread, long_frame bytes payload is long)

not_less : IsPiece journal 0 0 7 → ⊥
not_less piece = elim piece.long [
  | inl more ↦ omega (arith, more)
  | inr all ↦ omega (arith, all.0)
]

not_the_second : (size : ℕ) → IsPiece journal 14 7 size → ⊥
not_the_second size piece = omega (arith, piece.unread)

not_the_gate : (size : ℕ) → IsPiece journal 14 13 size → ⊥
not_the_gate size piece = omega (arith, piece.unread)

-- nor the same piece twice, one of the objects, nor a sync
not_twice : (to has : ℕ) → ReadsForth journal 0 0 (Fetched 0 0 14 ∷ Fetched 0 0 14 ∷ []) to has → ⊥
not_twice to has h = let first = h.2.3.2 in omega (arith, h.2.3.1.further, first.1)

not_the_objects : (to has : ℕ) → ReadsForth journal 0 0 (Fetched 1 0 14 ∷ []) to has → ⊥
not_the_objects to has h = omega (arith, h.0)

not_a_sync : (to has : ℕ) → ReadsForth journal 0 0 (Synced 0 ∷ []) to has → ⊥
not_a_sync to has h = h

-- a look at what follows the frames: the gate is read once more
one_more : LooksBehind (called []) (called (Fetched 0 13 1 ∷ Fetched 0 0 14 ∷ Measured 0 ∷ []))
unfolding behind
one_more = record {
  more = Fetched 0 13 1 ∷ Fetched 0 0 14 ∷ Measured 0 ∷ [];
  calls = refl;
  looks = inr (
    3,
    Fetched 0 0 14 ∷ Measured 0 ∷ [],
    inr (
      Fetched 0 0 14 ∷ [],
      14,
      refl,
      (refl, refl, (0, omega arith, refl, (0, whole, (omega arith, refl)))),
    ),
    refl,
  );
}
