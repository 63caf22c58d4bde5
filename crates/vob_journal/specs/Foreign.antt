-- The bytes after the frames of a journal that no frame of it can be.
use Rattle.std.specs.Prelude.{ℕ, zero, suc, ◌+◌, ◌&&◌, Bool, nat_le, if◌then◌else◌, Option, Some, None, List, length, drop}
use Rattle.std.specs.Prelude.{slice_index}
use Rattle.vob_journal.specs.Frames.{size_of, head}

-- the bytes where no whole frame begins them, else what stands so many bytes on
abbrev pub past : Option (List ℕ) → List ℕ → (ℕ → List ℕ) → List ℕ
past None bytes behind = bytes
past (Some payload) bytes behind = behind (5 + length payload)

-- what follows at most so many frames
abbrev pub behind_within : ℕ → List ℕ → List ℕ
behind_within zero bytes = bytes
behind_within (suc most) bytes = past (head bytes) bytes (λ n. behind_within most (drop n bytes))

-- What follows the last whole frame. No journal has more frames than bytes.
unfoldable pub behind : List ℕ → List ℕ
behind bytes = behind_within (length bytes) bytes

-- Whether bytes may be a frame that was cut short: its gate byte is shut or open, and it ends with the next gate byte at the
-- latest.
abbrev pub may_be_cut : List ℕ → Bool
may_be_cut bytes = nat_le (slice_index bytes 0) 1 && nat_le (length bytes) (6 + size_of bytes)

-- how many bytes stand where no frame cut short can be
abbrev pub foreign_of : List ℕ → ℕ
foreign_of bytes = if may_be_cut bytes then 0 else length bytes

-- how many bytes stand after the last whole frame of a journal, where no frame cut short can be
abbrev pub foreign : List ℕ → ℕ
foreign bytes = foreign_of (behind bytes)
