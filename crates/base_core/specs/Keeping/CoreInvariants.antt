-- What a core keeps: its story is legal, and its rows, its phases and what it keeps for its lanes are those of the story.
use Rattle.std.specs.Prelude.{◌≡◌, ℕ, ◌<◌, ◌≤◌, ◌^◌, true, Option, Some, is_some, List, [], ◌∷◌, drop, length}
use Rattle.cc_names.specs.Commands.{lane_at}
use Rattle.cc_names.specs.declared.commands.Lane.{Lane}
use Rattle.cc_names.specs.declared.commands.Phase.{Phase}
use Rattle.cc_names.specs.declared.steps.StoryStep.{StoryStep}
use Rattle.session_text.specs.Formed.{IsPhase}
use Rattle.build_core.specs.Slots.{numbered_slots}
use Rattle.legal_history.specs.Builds.Active.{Build, build_of, rows_reserved}
use Rattle.base_model.specs.Fits.{row_limit}
use Rattle.legal_history.specs.Stories.States.{State, done_of}
use Rattle.legal_history.specs.Stories.Steps.{state_of}
use Rattle.legal_history.specs.Stories.Lawful.{Legal, last_moment}
use Rattle.base_core.specs.Calls.Building.{BuildInvariant}
use Rattle.base_core.specs.Keeping.Lanes.{LaneState, builds_in, commands_at, replies_at, room_at}
use Rattle.story_log.specs.Logging.Logs.{Logged}
use Rattle.story_log.specs.Story.Formed.{TellsOnly}
use Rattle.cc_names.specs.Formed.{IsFormed}
use Rattle.base_core.specs.Story.Replying.{replies_of}

-- the most bytes of a text, and members of a list, of a command
abbrev pub command_limit : ℕ
command_limit = 16777216

-- the last of some phases; before the first one a phase without lanes
abbrev pub last_phase : List Phase → Phase
last_phase [] = record { lanes = [] }
last_phase (phase ∷ []) = phase
last_phase (one ∷ two ∷ phases) = last_phase (two ∷ phases)

-- the story of a log is legal, its base is that of the story, and it names formed rows alone
pub record StoryInvariant (log : Logged) : Type 0 where
  pub legal : Legal log.story
  pub opened : is_some (state_of log.story).opened ≡ true
  pub base : (state_of log.story).base ≡ log.base
  pub formed : TellsOnly IsFormed log.story

-- what is kept of the phases, of which the last one began at this moment: it has its form
pub record PhaseInvariant (s : State) (phases : List Phase) (now : ℕ) : Type 0 where
  pub phase : s.phase ≡ last_phase phases
  pub number : s.number ≡ length phases
  pub moment : s.moment ≡ now
  pub formed : IsPhase command_limit (last_phase phases)
  pub few : length phases < 2 ^ 32
  pub in_time : now ≤ last_moment

-- The commands kept for the lanes are those that are not finished, the replies are those of the story, one for each finished
-- command, and there is room for one to each command.
pub record AreReplies (story : List StoryStep) (lanes : List LaneState) : Type 0 where
  pub count : length lanes ≡ length (state_of story).phase.lanes
  pub replies : (lane : ℕ) → 1 ≤ lane → lane ≤ length lanes → replies_at lanes lane ≡ replies_of story lane
  pub done : (lane : ℕ) → done_of (state_of story).done lane ≡ length (replies_of story lane)
  pub room : (lane : ℕ) (one : Lane) → lane_at (state_of story).phase lane ≡ Some one → length one.commands ≤ room_at lanes lane
  pub left : (lane : ℕ) (one : Lane) → lane_at (state_of story).phase lane ≡ Some one
      → commands_at lanes lane ≡ drop (done_of (state_of story).done lane) one.commands

-- the active builds are those that are kept for the lanes, and there is room for their rows
pub record AreBuilds (s : State) (builds : List (Option Build)) : Type 0 where
  pub count : length builds ≡ length s.phase.lanes
  pub active : s.active ≡ numbered_slots 1 builds
  pub kept : (lane : ℕ) (build : Build) → build_of s.active lane ≡ Some build → BuildInvariant s lane build
  pub reserves : rows_reserved s.active ≤ row_limit

-- What a core keeps: a story, the phases of which the last one began at this moment, and the lanes of it with their replies
-- and builds.
pub record CoreInvariant (log : Logged) (lanes : List LaneState) (now : ℕ) : Type 0 where
  pub story : StoryInvariant log
  pub phase : PhaseInvariant (state_of log.story) log.phases now
  pub replies : AreReplies log.story lanes
  pub builds : AreBuilds (state_of log.story) (builds_in lanes)
