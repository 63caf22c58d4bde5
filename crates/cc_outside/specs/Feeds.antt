-- What sources and sinks do to the bytes that they tell, and how the doubles in memory stand.
use Rattle.std.specs.Prelude.{ℕ, ◌≤◌, Bool, true, Option, None, Result, Ok, Err, List, [], ◌++◌, ◌==◌, length, take, drop, min}
use Rattle.std.specs.Prelude.{if◌then◌else◌}
use Rattle.std.specs.List.{list_any}
use Rattle.std.specs.Io.KnownBytes.{Appends}
use Rattle.cc_names.specs.Counts.{raised_count}
use Rattle.cc_outside.specs.GhostStates.{ended_at, is_end}
use Rattle.cc_outside.specs.declared.sources.ReadFault.{ReadFault}
use Rattle.cc_outside.specs.declared.sinks.WriteFault.{WriteFault}

-- known bytes grow by a prefix of this piece, which may be empty
abbrev pub AppendsPrefix : Option (List ℕ) → Option (List ℕ) → List ℕ → Type 0
AppendsPrefix old new piece = (count : ℕ) × (count ≤ length piece) × Appends old new (take count piece)

-- known bytes grow by what was taken of a piece; after a fault, by some prefix of it
abbrev pub WriteTakes : {E : Type 0} → Option (List ℕ) → Option (List ℕ) → Result ℕ E → List ℕ → Type 0
WriteTakes old new (Ok count) piece = Appends old new (take count piece)
WriteTakes old new (Err fault) piece = AppendsPrefix old new piece

-- whether a call of this number is to fail
abbrev pub is_to_fail : List ℕ → ℕ → Bool
is_to_fail fail call = list_any (λ n. n == call) fail

-- a source in memory: what it has left and gave, its calls and faults, at which call it ended, and the numbers of the calls that
-- fail
pub record Feed : Type 0 where
  pub left : List ℕ
  pub given : ℕ
  pub calls : ℕ
  pub faults : ℕ
  pub ended : Option ℕ
  pub fail : List ℕ

-- a source in memory before its first call
abbrev pub fresh_feed : List ℕ → List ℕ → Feed
fresh_feed bytes fail = record { left = bytes; given = 0; calls = 0; faults = 0; ended = None; fail = fail }

-- what its next call answers, with room for this many bytes
abbrev pub feed_answer : Feed → ℕ → Result ℕ ReadFault
feed_answer feed room =
    if is_to_fail feed.fail (raised_count feed.calls 1) then Err (record {}) else Ok (min (length feed.left) room)

-- at which call a source in memory has ended, after a call with this answer
abbrev pub feed_ended : Feed → Result ℕ ReadFault → Option ℕ
feed_ended feed answer = ended_at feed.ended (raised_count feed.calls 1) (is_end answer)

-- a source in memory after a call with this answer
abbrev pub feed_after : Feed → Result ℕ ReadFault → Feed
feed_after feed (Ok count) =
    record feed {
      left = drop count feed.left;
      given = raised_count feed.given count;
      calls = raised_count feed.calls 1;
      ended = feed_ended feed (Ok count);
    }
feed_after feed (Err fault) =
    record feed {
      calls = raised_count feed.calls 1;
      faults = raised_count feed.faults 1;
      ended = feed_ended feed (Err fault);
    }

-- a sink in memory: what it holds, its calls and faults, at which call it ended, and the numbers of the calls that fail
pub record Basin : Type 0 where
  pub held : List ℕ
  pub calls : ℕ
  pub faults : ℕ
  pub ended : Option ℕ
  pub fail : List ℕ

-- a sink in memory before its first call
abbrev pub fresh_basin : List ℕ → Basin
fresh_basin fail = record { held = []; calls = 0; faults = 0; ended = None; fail = fail }

-- a sink in memory after a call with this piece and this answer
abbrev pub basin_after : Basin → List ℕ → Result ℕ WriteFault → Basin
basin_after basin piece (Ok count) = record basin { held = basin.held ++ take count piece; calls = raised_count basin.calls 1 }
basin_after basin piece (Err fault) =
    record basin {
      calls = raised_count basin.calls 1;
      faults = raised_count basin.faults 1;
      ended = ended_at basin.ended (raised_count basin.calls 1) true;
    }

-- what is known of a source that shows contracts no content: how many bytes it gave, its calls and faults, and at which call it
-- ended
pub record Flow : Type 0 where
  pub given : ℕ
  pub calls : ℕ
  pub faults : ℕ
  pub ended : Option ℕ

-- what is known of a sink that shows contracts no content: its calls and faults, and at which call it ended
pub record Outflow : Type 0 where
  pub calls : ℕ
  pub faults : ℕ
  pub ended : Option ℕ
