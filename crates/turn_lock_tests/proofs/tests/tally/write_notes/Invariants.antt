use Rattle.std.proofs.Common.{◌≡◌, map}
use Rattle.std.specs.List.{range_with_len}
use mathlib.Core.List.{Sublist}
use Rattle.turn_lock_tests.specs.declared.tests.tally.Note.{Note}
use Rattle.turn_lock_tests.proofs.tests.tally.write_notes.Given as goal

-- the notes so far stand in the story that the pass has seen
abbrev pub invariant-loop-number : goal.invariant-loop-number
invariant-loop-number g l = (l.pass.lock ≡ l.fn.pass.lock) × (l.pass.weight ≡ l.fn.pass.weight)
    × Sublist (map (λ n. let note : Note = record { lane = l.lane; number = n } in note) (range_with_len 0 l.number)) l.pass.seen
