-- Counts of what a device did. A count never falls, and ends at its last number.
use Rattle.std.specs.Prelude.{ℕ, ◌+◌, ◌-◌, ◌<◌, ◌≤◌, ◌^◌, min, max, Bool, ◌&&◌, ◌||◌, ◌==◌, nat_lt}

-- the last number of a count, 2^64 - 1
abbrev pub last_count : ℕ
last_count = 18446744073709551615

-- a count with this much added, up to its last number; it never falls
abbrev pub raised_count : ℕ → ℕ → ℕ
raised_count count more = max count (min (count + more) last_count)

-- a count is greater than before, or stands at its last number
abbrev pub Rose : ℕ → ℕ → Type 0
Rose before after = after < last_count → before < after

-- a count is greater than before by more than this, or stands at its last number
abbrev pub RoseAbove : ℕ → ℕ → ℕ → Type 0
RoseAbove limit before after = after < last_count → before + limit < after

-- a count is greater than before by at most this
abbrev pub RoseAtMost : ℕ → ℕ → ℕ → Type 0
RoseAtMost most before after = after ≤ before + most

-- whether a count rose: it is greater, or stood and stands at its last number
abbrev pub rises : ℕ → ℕ → Bool
rises before now = nat_lt before now || ((before == 2 ^ 64 - 1) && (now == 2 ^ 64 - 1))
