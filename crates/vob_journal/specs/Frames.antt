-- The frames of a journal.
use Rattle.std.specs.Prelude.{◌≡◌, ℕ, zero, suc, ◌+◌, ◌-◌, ◌^◌, ◌<◌, ◌==◌, ◌&&◌, not, Bool, false, nat_le, if◌then◌else◌, Option}
use Rattle.std.specs.Prelude.{Some, None, List, [], ◌∷◌, ◌++◌, length, take, drop, slice_index}
use Rattle.std.specs.Int.{w32, from_le_bytes, to_le_bytes}

-- the length that is written after a gate byte, in four bytes, least first
abbrev pub size_of : List ℕ → ℕ
size_of bytes = from_le_bytes w32 (take 4 (drop 1 bytes))

-- the payload of the whole frame that bytes begin with: a gate byte 1, a length of four bytes, and so many bytes
abbrev pub head : List ℕ → Option (List ℕ)
head bytes =
    if (slice_index bytes 0 == 1) && nat_le (5 + size_of bytes) (length bytes)
    then Some (take (size_of bytes) (drop 5 bytes)) else None

-- a payload, and what is listed so many bytes on; all but a whole frame ends the list
abbrev pub frames_behind : Option (List ℕ) → (ℕ → List (List ℕ)) → List (List ℕ)
frames_behind None behind = []
frames_behind (Some payload) behind = payload ∷ behind (5 + length payload)

-- the payloads of at most so many frames, from the first on
abbrev pub frames_within : ℕ → List ℕ → List (List ℕ)
frames_within zero bytes = []
frames_within (suc most) bytes = frames_behind (head bytes) (λ n. frames_within most (drop n bytes))

-- The list of a journal: the payloads of its frames. No journal has more frames than bytes.
unfoldable pub frames : List ℕ → List (List ℕ)
frames bytes = frames_within (length bytes) bytes

-- a frame's size and what is added so many bytes on; nothing where there is no frame
abbrev pub size_before : Option (List ℕ) → (ℕ → ℕ) → ℕ
size_before None more = 0
size_before (Some payload) more = 5 + length payload + more (5 + length payload)

-- the place after so many of the frames that bytes begin with, or after all of them where there are no more
abbrev pub place_after : ℕ → List ℕ → ℕ
place_after zero bytes = 0
place_after (suc number) bytes = size_before (head bytes) (λ n. place_after number (drop n bytes))

-- the place after all of them, where the next frame goes
abbrev pub end_of_frames : List ℕ → ℕ
end_of_frames bytes = place_after (length (frames bytes)) bytes

-- whether a gate byte other than 1 stands there
abbrev pub is_shut : List ℕ → Bool
is_shut [] = false
is_shut (gate ∷ rest) = not (gate == 1)

-- what is written after a gate byte: the payload's length, the payload, and the next gate byte, shut
abbrev pub frame_after_gate : List ℕ → List ℕ
frame_after_gate payload = to_le_bytes w32 (length payload) ++ payload ++ 0 ∷ []

-- the payload of what is written after a gate byte
abbrev pub payload_of : List ℕ → List ℕ
payload_of bytes = take (length bytes - 5) (drop 4 bytes)

-- bytes that are written after a gate byte for some payload
pub record IsWritten (bytes : List ℕ) : Type 0 where
  pub of_payload : bytes ≡ frame_after_gate (payload_of bytes)
  pub short : length (payload_of bytes) < 2 ^ 32
