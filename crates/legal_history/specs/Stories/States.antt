-- The state of a story: what its steps leave, one after the other.
use Rattle.std.specs.Prelude.{ℕ, ◌+◌, Bool, true, ◌&&◌, ◌==◌, Option, Some, None, Result, is_none, List, [], ◌∷◌, length}
use Rattle.std.specs.Prelude.{slice_get, option_map, option_and_then, unwrap_or}
use Rattle.std.specs.Ordering.{nat_cmp}
use Rattle.std.specs.FinMap.Entries.{put, find}
use Rattle.cc_names.specs.Commands.{lane_at}
use Rattle.cc_names.specs.Formed.{Plain}
use Rattle.cc_names.specs.declared.commands.Command.{Command}
use Rattle.cc_names.specs.declared.commands.Lane.{Lane}
use Rattle.cc_names.specs.declared.commands.Phase.{Phase}
use Rattle.cc_names.specs.declared.refusals.Refusal.{Refusal}
use Rattle.cc_names.specs.declared.rows.Tag.{Tag}
use Rattle.cc_names.specs.declared.steps.Counts.{Counts}
use Rattle.base_model.specs.Rows.{Base, only_where}
use Rattle.legal_history.specs.Builds.Active.{Active, Build, build_of}
use Rattle.legal_history.specs.Commands.Decisions.{Scene, Decision}
use Rattle.legal_history.specs.Commands.Lines.{decision}

-- the base as it was opened, with the disk's counts as it was handed in, and whether the disk tells its content
pub record Opening : Type 0 where
  pub base : Base
  pub counts : Counts
  pub tells : Bool

-- A commit or a fault of the disk, each with the disk's ticks at its end. A fault has what it left, and the disk's count
-- of faults as its call ended.
pub data End : Type 0 where
  Committed : Plain → ℕ → End
  Faulted : Option Plain → ℕ → ℕ → End

-- What a story has come to: how it was opened, the base, the number of its last phase with the phase and its moment, how
-- many commands each lane of it has finished, the active builds by their lanes, and the ends so far, newest first.
pub record State : Type 0 where
  pub opened : Option Opening
  pub base : Base
  pub number : ℕ
  pub phase : Phase
  pub moment : ℕ
  pub done : List (ℕ × ℕ)
  pub active : Active
  pub ends : List End

-- before the first step
abbrev pub start : State
start = record {
  opened = None;
  base = [];
  number = 0;
  phase = record { lanes = [] };
  moment = 0;
  done = [];
  active = [];
  ends = [];
}

-- what a command meets in a state
abbrev pub scene : State → Scene
scene s = record { base = s.base; active = s.active; moment = s.moment }

-- how many commands a lane has finished
abbrev pub done_of : List (ℕ × ℕ) → ℕ → ℕ
done_of done lane = unwrap_or (find nat_cmp lane done) 0

-- one more command of the lane is finished
abbrev pub with_done : List (ℕ × ℕ) → ℕ → List (ℕ × ℕ)
with_done done lane = put nat_cmp lane (done_of done lane + 1) done

-- the command of a lane after those that are finished
abbrev pub command_behind : ℕ → Lane → Option Command
command_behind done lane = slice_get lane.commands done

-- whether two tags are the same
abbrev pub same_tag : Tag → Tag → Bool
same_tag one two = (one.phase == two.phase) && (one.lane == two.lane) && (one.command == two.command)

-- the tag of a lane's first command that is not finished
abbrev pub next_tag : State → ℕ → Tag
next_tag s lane = record { phase = s.number; lane = lane; command = done_of s.done lane + 1 }

-- whether a tag is that of its lane's first command that is not finished, and this command has not begun to build
abbrev pub is_next : State → Tag → Bool
is_next s tag = same_tag tag (next_tag s tag.lane) && is_none (build_of s.active tag.lane)

-- the command of this tag, where it is its lane's next
abbrev pub next_command : State → Tag → Option Command
next_command s tag = only_where (is_next s tag) (option_and_then (command_behind (done_of s.done tag.lane))
    (lane_at s.phase tag.lane))

-- what is decided of the command of this tag, where it is its lane's next
abbrev pub decision_for : State → Tag → Option (Result Decision Refusal)
decision_for s tag = option_map (decision (scene s)) (next_command s tag)

-- a build where it is the command's
abbrev pub build_if : Tag → Build → Option Build
build_if tag build = only_where (same_tag build.tag tag) (Some build)

-- the active build of the command of this tag
abbrev pub build_by : State → Tag → Option Build
build_by s tag = option_and_then (build_if tag) (build_of s.active tag.lane)

-- whether each command of each lane is finished; lanes are numbered from n on
abbrev pub lanes_done : List (ℕ × ℕ) → ℕ → List Lane → Bool
lanes_done done n [] = true
lanes_done done n (lane ∷ lanes) = (done_of done n == length lane.commands) && lanes_done done (n + 1) lanes

-- whether each command of the last phase is finished
abbrev pub all_done : State → Bool
all_done s = lanes_done s.done 1 s.phase.lanes

-- the ticks of the newest end, or of the opening
abbrev pub ticks_of : Option Opening → List End → ℕ
ticks_of None [] = 0
ticks_of (Some opening) [] = opening.counts.ticks
ticks_of opening (Committed row tick ∷ ends) = tick
ticks_of opening (Faulted left faults tick ∷ ends) = tick

-- the count of faults at the newest fault, or at the opening
abbrev pub faults_of : Option Opening → List End → ℕ
faults_of None [] = 0
faults_of (Some opening) [] = opening.counts.faults
faults_of opening (Committed row tick ∷ ends) = faults_of opening ends
faults_of opening (Faulted left faults tick ∷ ends) = faults

-- the row that may be found after the rows all the same: what the newest end left, where it is a fault
abbrev pub hanging : List End → Option Plain
hanging [] = None
hanging (Committed row tick ∷ ends) = None
hanging (Faulted left faults tick ∷ ends) = left
