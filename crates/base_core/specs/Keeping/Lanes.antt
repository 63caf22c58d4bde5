-- What is kept for the lanes of a phase, which are counted from 1.
use Rattle.std.specs.Prelude.{ℕ, zero, suc, ◌-◌, Option, None, List, [], ◌∷◌, ◌++◌, drop, length, map, option_and_then, set}
use Rattle.std.specs.Prelude.{slice_get, slice_index_or}
use Rattle.cc_names.specs.declared.commands.Command.{Command}
use Rattle.cc_names.specs.declared.commands.Lane.{Lane}
use Rattle.cc_names.specs.declared.replies.Reply.{Reply}
use Rattle.legal_history.specs.Builds.Active.{Build}

-- a lane: its commands that are not finished, the replies to those that are, for how many replies there is room, and its active
-- build
pub record LaneState : Type 0 where
  pub commands : List Command
  pub replies : List Reply
  pub room : ℕ
  pub build : Option Build

-- a lane without commands
abbrev pub no_lane : LaneState
no_lane = record { commands = []; replies = []; room = 0; build = None }

-- what is kept for a lane, for its replies and of its build
abbrev pub lane_state : List LaneState → ℕ → LaneState
lane_state lanes lane = slice_index_or lanes (lane - 1) no_lane

abbrev pub commands_at : List LaneState → ℕ → List Command
commands_at lanes lane = (lane_state lanes lane).commands

abbrev pub replies_at : List LaneState → ℕ → List Reply
replies_at lanes lane = (lane_state lanes lane).replies

abbrev pub room_at : List LaneState → ℕ → ℕ
room_at lanes lane = (lane_state lanes lane).room

abbrev pub build_at : List LaneState → ℕ → Option Build
build_at lanes lane = (lane_state lanes lane).build

-- the lane of this number, and its first command that is not finished
abbrev pub lane_in : List LaneState → ℕ → Option LaneState
lane_in lanes zero = None
lane_in lanes (suc n) = slice_get lanes n

abbrev pub next_of_lane_state : LaneState → Option Command
next_of_lane_state lane = slice_get lane.commands 0

abbrev pub next_in : List LaneState → ℕ → Option Command
next_in lanes lane = option_and_then next_of_lane_state (lane_in lanes lane)

-- the active build of each lane
abbrev pub builds_in : List LaneState → List (Option Build)
builds_in lanes = map (λ lane. lane.build) lanes

-- the lanes where one has one more reply and one command less, and where one has another build or none
abbrev pub with_reply : List LaneState → ℕ → Reply → List LaneState
with_reply lanes lane reply =
    set lanes (lane - 1)
    (record (lane_state lanes lane) { commands = drop 1 (commands_at lanes lane); replies = replies_at lanes lane ++ reply ∷ [] })

abbrev pub put_build : List LaneState → ℕ → Option Build → List LaneState
put_build lanes lane build = set lanes (lane - 1) (record (lane_state lanes lane) { build = build })

-- the lanes where the build of one is over, with its reply
abbrev pub with_closed : List LaneState → ℕ → Reply → List LaneState
with_closed lanes lane reply =
    set lanes (lane - 1)
    (record (lane_state lanes lane) {
      commands = drop 1 (commands_at lanes lane);
      replies = replies_at lanes lane ++ reply ∷ [];
      build = None;
    })

-- a lane as a phase begins, with room for a reply to each command; and all lanes of the phase
abbrev pub begun_lane : Lane → LaneState
begun_lane lane = record { commands = lane.commands; replies = []; room = length lane.commands; build = None }

abbrev pub fresh_lanes : List Lane → List LaneState
fresh_lanes lanes = map begun_lane lanes
