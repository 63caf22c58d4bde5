-- When a source or a sink has ended, worked by hand.
use Rattle.std.proofs.Common.{◌≡◌, ℕ, Some, None, Ok, Err, [], ◌∷◌, true, false, refl, arith}
use Rattle.cc_outside.specs.Feeds.{basin_after, fresh_basin}
use Rattle.cc_outside.specs.GhostStates.{RestsOnceEnded, ended_at, is_end}
use Rattle.cc_outside.specs.declared.sinks.WriteFault.{WriteFault}

-- a read that gives no byte ends a source, and so does one that fails
no_byte : is_end {E = WriteFault} (Ok 0) ≡ true
no_byte = refl

some_bytes : is_end {E = WriteFault} (Ok 7) ≡ false
some_bytes = refl

fault : is_end {E = WriteFault} (Err (record {})) ≡ true
fault = refl

-- the third call ends it, and the fifth no more
third : ended_at None 3 true ≡ Some 3
third = refl

not_again : ended_at (Some 3) 5 true ≡ Some 3
not_again = refl

-- it has not ended; the third call ended it and is the last
goes_on : RestsOnceEnded None None 7
goes_on = λ h. tt

rests : RestsOnceEnded None (Some 3) 3
rests = λ h. refl

-- not: a fourth call after the third ended it
not_once_more : RestsOnceEnded None (Some 3) 4 → ⊥
not_once_more h = omega (arith, h refl)

-- a sink in memory whose second call fails
taken_then_failed :
    basin_after (basin_after (fresh_basin (2 ∷ [])) (104 ∷ 105 ∷ []) (Ok 2)) (33 ∷ []) (Err (record {}))
    ≡ record { held = 104 ∷ 105 ∷ []; calls = 2; faults = 1; ended = Some 2; fail = 2 ∷ [] }
taken_then_failed = refl
