-- What is known of sources, sinks and clocks: their bytes or moments, where contracts know these, and their counts.
use Rattle.std.specs.Prelude.{◌≡◌, ℕ, Bool, true, false, ◌==◌, Option, Some, None, Result, Ok, Err, List, IfSome}
use Rattle.std.specs.Io.KnownBytes.{Consumes}
use Rattle.cc_names.specs.Counts.{raised_count, RoseAbove}
use Rattle.cc_outside.specs.Moments.{moment_at}

-- a source: the bytes that are still to come, where contracts know them; how many were given, how many calls were made and how
-- many of these failed; and the number of the call at which it ended, where it has
pub record SourceState : Type 0 where
  pub left : Option (List ℕ)
  pub given : ℕ
  pub calls : ℕ
  pub faults : ℕ
  pub ended : Option ℕ

-- a sink: the bytes that it holds, where contracts know them; how many calls were made and how many of these failed; and the
-- number of the call at which it ended, where it has: the first that failed
pub record SinkState : Type 0 where
  pub held : Option (List ℕ)
  pub calls : ℕ
  pub faults : ℕ
  pub ended : Option ℕ

-- a clock: the moments that its readings tell, the last of them again and again, where contracts know them; and how many
-- readings were made
pub record ClockState : Type 0 where
  pub modeled : Option (List ℕ)
  pub readings : ℕ

-- whether a read ends a source: it gave nothing, or it failed
abbrev pub is_end : {E : Type 0} → Result ℕ E → Bool
is_end (Ok count) = count == 0
is_end (Err fault) = true

-- the number of the call at which a source or a sink ended, after this call: the first that ends it
abbrev pub ended_at : Option ℕ → ℕ → Bool → Option ℕ
ended_at (Some first) call ends = Some first
ended_at None call true = Some call
ended_at None call false = None

-- A source or a sink that had not ended before has not ended by now either, or the call that ended it is the last of its calls.
abbrev pub RestsOnceEnded : Option ℕ → Option ℕ → ℕ → Type 0
RestsOnceEnded before now calls = before ≡ None → IfSome now (λ call. calls ≡ call)

-- a source gave this many bytes
abbrev pub Gave : SourceState → SourceState → ℕ → Type 0
Gave before after count = after.given ≡ raised_count before.given count

-- a source gave more bytes than this, as far as its count tells
abbrev pub GaveAbove : ℕ → SourceState → SourceState → Type 0
GaveAbove limit before after = RoseAbove limit before.given after.given

-- known bytes of a source begin with a text, and the rest is still to come
abbrev pub Lost : SourceState → SourceState → List ℕ → Type 0
Lost before after text = Consumes before.left after.left text

-- a clock that tells its moments gives this one at its next reading
abbrev pub Tells : ClockState → ℕ → Type 0
Tells clock moment = IfSome clock.modeled (λ moments. moment ≡ moment_at moments clock.readings)
