-- What a clock tells that tells a list of moments.
use Rattle.std.specs.Prelude.{ℕ, ◌-◌, List, length, min, slice_index}

-- the moment that the reading of this number tells, from 0; after the last of the list the last again
abbrev pub moment_at : List ℕ → ℕ → ℕ
moment_at moments reading = slice_index moments (min reading (length moments - 1))

-- a clock with its list of moments and the number of its next reading
pub record ModeledClock : Type 0 where
  pub moments : List ℕ
  pub readings : ℕ
