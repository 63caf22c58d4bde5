-- What a lane has to do next, by what has come of it.
use Rattle.std.proofs.Common.{◌≡◌, refl, ap, ◌∙◌, ℕ, zero, suc, ◌+◌, ◌≤◌, Option, Some, None, List, [], ◌∷◌, arith}
use Rattle.std.specs.Prelude.{option_and_then, slice_get}
use Rattle.cc_names.specs.Commands.{lane_at}
use Rattle.cc_names.specs.declared.commands.Command.{Command}
use Rattle.cc_names.specs.declared.commands.Command.TheVariants as commands
use Rattle.cc_names.specs.declared.commands.Lane.{Lane}
use Rattle.cc_names.specs.declared.occasions.Next.TheVariants as nexts
use Rattle.cc_names.specs.declared.rows.Tag.{Tag}
use Rattle.legal_history.specs.Stories.Commanded.{next_command_of}
use Rattle.legal_history.specs.Stories.States.{State, command_behind, done_of, next_tag}
use Rattle.clearmake.specs.Nexts.{next_by, next_of_lane}

tag_by : (o : Option Command) (next tag : Tag) → next_by o next ≡ nexts.Build tag → next ≡ tag
tag_by None next tag e = absurd (cc)
tag_by (Some command) next tag e = by_command command e
  where
    by_command : (command : Command) → next_by (Some command) next ≡ nexts.Build tag → next ≡ tag
    by_command (commands.Build asked) e = cc
    by_command command e = absurd (cc)

-- what is built is the next command
pub tag_is_next : (s : State) (lane : ℕ) (tag : Tag) → next_of_lane s lane ≡ nexts.Build tag → next_tag s lane ≡ tag
tag_is_next s lane tag e = tag_by (next_command_of s lane) (next_tag s lane) tag e

-- a lane that is where it was has the same to do
pub next_stays : (old new : State) (lane : ℕ) → new.number ≡ old.number → new.phase ≡ old.phase
    → done_of new.done lane ≡ done_of old.done lane → next_of_lane new lane ≡ next_of_lane old lane
next_stays old new lane number phase done =
    λ i. let tag : Tag = record { phase = number i; lane = lane; command = done i + 1 } in
    next_by (option_and_then (command_behind (done i)) (lane_at (phase i) lane)) tag

-- a lane that has nothing left to do has no command left
pub none_by : (o : Option Command) (tag : Tag) → next_by o tag ≡ nexts.Done → o ≡ None
none_by None tag e = refl
none_by (Some command) tag e = by_command command e
  where
    by_command : (command : Command) → next_by (Some command) tag ≡ nexts.Done → Some command ≡ None
    by_command (commands.Build asked) e = absurd (cc)
    by_command command e = absurd (cc)

none_behind : (commands : List Command) (n m : ℕ) → n ≤ m → slice_get commands n ≡ None → slice_get commands m ≡ None
none_behind [] n m le e = refl
none_behind (command ∷ commands) zero m le e = absurd (cc)
none_behind (command ∷ commands) (suc n) zero le e = absurd (omega arith)
none_behind (command ∷ commands) (suc n) (suc m) le e = none_behind commands n m (omega arith) e

none_left : (o : Option Lane) (n m : ℕ) → n ≤ m → option_and_then (command_behind n) o ≡ None
    → option_and_then (command_behind m) o ≡ None
none_left None n m le e = refl
none_left (Some lane) n m le e = none_behind lane.commands n m le e

-- a lane that has nothing left to do has nothing left later on in the phase
pub done_stays : (old new : State) (lane : ℕ) → new.phase ≡ old.phase → done_of old.done lane ≤ done_of new.done lane
    → next_of_lane old lane ≡ nexts.Done → next_of_lane new lane ≡ nexts.Done
done_stays old new lane phase le e =
    let here = none_left (lane_at old.phase lane) (done_of old.done lane) (done_of new.done lane) le
    (none_by (next_command_of old lane) (next_tag old lane) e) in
    ap (λ o. next_by o (next_tag new lane)) (ap (λ p. option_and_then (command_behind (done_of new.done lane)) (lane_at p lane))
    phase ∙ here)
