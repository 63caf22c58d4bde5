-- Bytes after the frames of journals, counted by hand and checked by computation.
use Rattle.std.proofs.Common.{◌≡◌, ℕ, List, [], ◌∷◌, ◌++◌, refl}
use Rattle.std.specs.Prelude.{codes}
use Rattle.vob_journal.specs.Foreign.{behind, foreign}

-- the frame of the payload `ab`
abbrev frame : List ℕ
frame = 1 ∷ 2 ∷ 0 ∷ 0 ∷ 0 ∷ codes "ab"

-- an empty file, a shut gate, whole frames with a shut gate after them or without one
foreign_empty : foreign [] ≡ 0
unfolding behind
foreign_empty = refl

foreign_gate : foreign (0 ∷ []) ≡ 0
unfolding behind
foreign_gate = refl

behind_frames : behind (frame ++ frame ++ 0 ∷ []) ≡ 0 ∷ []
unfolding behind
behind_frames = refl

foreign_frames : foreign (frame ++ frame ++ 0 ∷ []) ≡ 0
unfolding behind
foreign_frames = refl

foreign_frame : foreign frame ≡ 0
unfolding behind
foreign_frame = refl

-- a frame that was cut short: in its length, in its payload, and after it with the next gate
foreign_length : foreign (frame ++ 0 ∷ 2 ∷ 0 ∷ []) ≡ 0
unfolding behind
foreign_length = refl

foreign_payload : foreign (frame ++ 1 ∷ 2 ∷ 0 ∷ 0 ∷ 0 ∷ codes "a") ≡ 0
unfolding behind
foreign_payload = refl

foreign_staged : foreign (frame ++ 0 ∷ 2 ∷ 0 ∷ 0 ∷ 0 ∷ codes "ab" ++ 0 ∷ []) ≡ 0
unfolding behind
foreign_staged = refl

-- one byte more than such a frame has, a gate byte that is none, and a text
foreign_more : foreign (frame ++ 0 ∷ 2 ∷ 0 ∷ 0 ∷ 0 ∷ codes "ab" ++ 0 ∷ 0 ∷ []) ≡ 9
unfolding behind
foreign_more = refl

foreign_byte : foreign (2 ∷ []) ≡ 1
unfolding behind
foreign_byte = refl

foreign_text : foreign (codes "hello, world") ≡ 12
unfolding behind
foreign_text = refl

foreign_behind : foreign (frame ++ codes "hello, world") ≡ 12
unfolding behind
foreign_behind = refl
