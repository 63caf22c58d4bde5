-- Whose fault: what the calls on a device that is told say of the commits and faults of a history.
use Rattle.std.specs.Prelude.{◌≡◌, ℕ, ◌+◌, ◌-◌, ◌^◌, ◌<◌, ◌≤◌, Bool, true, false, if◌then◌else◌, List, [], ◌∷◌, length, reverse}
use Rattle.std.specs.Prelude.{take, drop}
use Rattle.std.specs.List.{list_all}
use Rattle.cc_names.specs.declared.steps.StoryStep.{StoryStep}
use Rattle.cc_names.specs.declared.steps.StoryStep.TheVariants as story_steps
use Rattle.disk_model.specs.Devices.{Device, Event, failures}
use Rattle.legal_history.specs.Stories.States.{End}
use Rattle.legal_history.specs.Stories.Steps.{state_of}
use Rattle.vob_journal.specs.Added.{is_reading_call, may_write}
use Rattle.story_log.specs.Stopping.Backed.{may_be_open}
use Rattle.story_log.specs.Stopping.Standing.{tick_of}

-- how many calls had failed by a tick, of all calls on a device, the oldest first
abbrev pub failed_by : ℕ → List Event → ℕ
failed_by tick calls = failures (take tick calls)

-- A fault whose command began its calls when so many had failed. It has this count and the one by its own tick, which is one
-- greater: one call failed within it and no more, so that no fault hides the failed calls of the command after it. Once ticks
-- have come to their end no call is made any more, and none can fail.
abbrev pub MeetsFault : ℕ → ℕ → ℕ → ℕ → List Event → Type 0
MeetsFault failed before faults tick calls = tick < 2 ^ 64 - 1 → (before ≡ failed) × (faults ≡ failed_by tick calls)
    × (faults ≡ before + 1)

-- Over the steps of a history, with how many of the calls had failed by the newest end before: from one end to a commit's tick no
-- call failed, and from one end to a fault's tick exactly one did.
abbrev pub FailsAtFaults : ℕ → List Event → List StoryStep → Type 0
FailsAtFaults failed calls [] = Unit {0}
FailsAtFaults failed calls (story_steps.Commit row tick ∷ steps) = (failed_by tick calls ≡ failed)
    × FailsAtFaults failed calls steps
FailsAtFaults failed calls (story_steps.Fault tag left before faults tick ∷ steps) =
    MeetsFault failed before faults tick calls × FailsAtFaults (failed_by tick calls) calls steps
FailsAtFaults failed calls (step ∷ steps) = FailsAtFaults failed calls steps

-- After this tick the journal is settled where its tail may be open, by two calls at most, and at most one of them fails.
-- Elsewhere no call is made.
abbrev pub SettlesBehind : Bool → ℕ → List Event → Type 0
SettlesBehind true tick calls = (length calls ≤ tick + 2) × (failures calls ≤ failed_by tick calls + 1)
SettlesBehind false tick calls = length calls ≡ tick

-- After the newest end there is no more than settles the journal. Where nothing ended no call failed, since the base was opened.
abbrev pub RestsBehind : ℕ → List End → List Event → Type 0
RestsBehind handed [] calls = failures calls ≡ failed_by handed calls
RestsBehind handed (end ∷ ends) calls = SettlesBehind (may_be_open (end ∷ ends)) (tick_of end) calls

-- whether the calls that read come first, the oldest first, and no call that failed stands before one of them
abbrev pub reads_first : List Event → Bool
reads_first [] = true
reads_first (event ∷ calls) = if is_reading_call event then reads_first calls else list_all may_write calls

-- *Whose fault*, by the calls on a device of which so many had been made as it was handed in: those that opened the base read,
-- none of them failed that another read follows, and no call after them reads; and a call failed at each fault of the history,
-- at no commit, and after the last end as its journal was settled alone.
pub record IsBlamed (handed : ℕ) (story : List StoryStep) (d : Device) : Type 0 where
  pub opening : reads_first (drop handed (reverse d.calls)) ≡ true
  pub ends : FailsAtFaults (failed_by handed (reverse d.calls)) (reverse d.calls) story
  pub behind : RestsBehind handed (state_of story).ends (reverse d.calls)
