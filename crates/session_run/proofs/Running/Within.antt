-- How many commands a lane has finished, of those that it has.
use Rattle.std.proofs.Common.{◌≡◌, ℕ, zero, suc, ◌+◌, ◌<◌, ◌≤◌, ◌==◌, true, Option, Some, None, List, [], ◌∷◌}
use Rattle.std.proofs.Common.{length, refl, ap, ap₂, ◌∙◌, arith}
use Rattle.std.specs.Prelude.{option_and_then, slice_get, ◌&&◌}
use Rattle.std.proofs.lemmas.Bool.Decides.{nat_tests}
use Rattle.cc_names.specs.Commands.{lane_at}
use Rattle.cc_names.specs.declared.commands.Command.{Command}
use Rattle.cc_names.specs.declared.commands.Lane.{Lane}
use Rattle.legal_history.specs.Stories.Commanded.{next_command_of}
use Rattle.legal_history.specs.Stories.Lanes.{IsFinished, IsWithin, count_of}
use Rattle.legal_history.specs.Stories.States.{State, done_of, command_behind, lanes_done, all_done}

past : (xs : List Command) (n : ℕ) → slice_get xs n ≡ None → length xs ≤ n
past [] n e = omega arith
past (x ∷ xs) zero e = absurd (cc)
past (x ∷ xs) (suc n) e = let h = past xs n e in omega arith

none_behind : (done : ℕ) (found : Option Lane) → option_and_then (command_behind done) found ≡ None → count_of found ≤ done
none_behind done None e = omega arith
none_behind done (Some lane) e = past lane.commands done e

-- a lane where no command waits is finished
pub finished_where : (s : State) (lane : ℕ) → IsWithin s lane → next_command_of s lane ≡ None → IsFinished s lane
finished_where s lane within e = let h = none_behind (done_of s.done lane) (lane_at s.phase lane) e in omega arith

-- lanes that are each finished, from number n on
lanes_finished : (done : List (ℕ × ℕ)) (n : ℕ) (lanes : List Lane) → ((k : ℕ) → k < length lanes
    → done_of done (n + k) ≡ count_of (slice_get lanes k)) → lanes_done done n lanes ≡ true
lanes_finished done n [] h = refl
lanes_finished done n (lane ∷ lanes) h =
    let here : done_of done n ≡ length lane.commands = ap (done_of done) (omega arith) ∙ h 0 (omega arith) in
    let test : (done_of done n == length lane.commands) ≡ true = grind (arith, nat_tests) in
    ap₂ ◌&&◌ test (lanes_finished done (n + 1) lanes (λ k low. ap (done_of done) (omega arith) ∙ h (suc k) (omega arith)))

pub all_finished : (s : State) → ((k : ℕ) → 1 ≤ k → k ≤ length s.phase.lanes → IsFinished s k) → all_done s ≡ true
all_finished s h = lanes_finished s.done 1 s.phase.lanes (λ k low. ap (done_of s.done) (omega arith)
    ∙ h (suc k) (omega arith) (omega arith))
