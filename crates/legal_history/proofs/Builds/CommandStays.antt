-- An active build stays the one of its lane's command where the lane finishes nothing.
use Rattle.std.proofs.Common.{◌≡◌, refl, ap, sym, subst, ◌∙◌, ℕ, zero, suc, ◌+◌, Bool, true, false, ◌&&◌, ◌==◌, Option, Some}
use Rattle.std.proofs.Common.{None, Ok, List, [], ◌∷◌, length, arith}
use Rattle.std.specs.Prelude.{is_none, option_and_then, slice_get, unwrap_or}
use Rattle.cc_names.specs.Commands.{lane_at}
use Rattle.cc_names.specs.declared.commands.Command.{Command}
use Rattle.cc_names.specs.declared.commands.Lane.{Lane}
use Rattle.cc_names.specs.declared.rows.Tag.{Tag}
use Rattle.cc_names.specs.declared.units.Unit.{Unit}
use Rattle.cc_names.proofs.Common.{same_number, and_first, and_second}
use Rattle.base_model.specs.Rows.{size, first_rows, only_where}
use Rattle.legal_history.specs.Builds.Active.{Build, Came, build_of}
use Rattle.legal_history.specs.Commands.Decisions.{Begins}
use Rattle.legal_history.specs.Builds.Fresh.{all_finished, fresh, fresh_of}
use Rattle.legal_history.specs.Stories.States.{State, all_done, command_behind, decision_for, done_of, is_next, lanes_done}
use Rattle.legal_history.specs.Stories.States.{next_command, next_tag, same_tag, with_done}
use Rattle.legal_history.specs.Stories.Steps.{build_begun_by, build_asked, with_came}
use Rattle.base_model.proofs.Tables.{find_put_other}
use Rattle.base_model.proofs.Stay.{all_rows}
use Rattle.legal_history.specs.Stories.Commanded.{next_command_of, IsOfCommand}
use Rattle.legal_history.proofs.Stories.DecidedSteps.{decided_of, says_of, begun_is}

-- a state in which a lane has come as far as in another
pub record SameLane (s t : State) (lane : ℕ) (rows : ℕ) : Type 0 where
  pub number : s.number ≡ t.number
  pub phase : s.phase ≡ t.phase
  pub done : done_of s.done lane ≡ done_of t.done lane
  pub base : first_rows rows s.base ≡ first_rows rows t.base

pub command_stays : (s t : State) (lane : ℕ) (build : Build) → SameLane s t lane build.rows → IsOfCommand s lane build
    → IsOfCommand t lane build
command_stays s t lane build same h = record {
  file = h.file;
  jobs = h.jobs;
  macros = h.macros;
  goals = h.goals;
  tag = h.tag ∙ (λ i. record { phase = same.number i; lane = lane; command = same.done i + 1 });
  command = sym (λ i. option_and_then (command_behind (same.done i)) (lane_at (same.phase i) lane)) ∙ h.command;
  finished = subst (λ rows. fresh rows build.view h.file h.macros h.goals ≡ Ok (all_finished rows build.view build.units))
      same.base h.finished;
}

-- what a unit comes to changes no command
pub came_commanded : (s : State) (lane : ℕ) (build : Build) (number : Option ℕ) (came : Came) → IsOfCommand s lane build
    → IsOfCommand s lane (with_came build number came)
came_commanded s lane build None came h = h
came_commanded s lane build (Some n) came h =
    record {
      file = h.file;
      jobs = h.jobs;
      macros = h.macros;
      goals = h.goals;
      tag = h.tag;
      command = h.command;
      finished = h.finished;
    }

pub faulted_commanded : (s : State) (lane : ℕ) (build : Build) → IsOfCommand s lane build
    → IsOfCommand s lane (record build { faulted = true })
faulted_commanded s lane build h = record {
  file = h.file;
  jobs = h.jobs;
  macros = h.macros;
  goals = h.goals;
  tag = h.tag;
  command = h.command;
  finished = h.finished;
}

-- another lane finishes a command
pub other_done : (done : List (ℕ × ℕ)) (lane other : ℕ) → (lane == other) ≡ false
    → done_of (with_done done other) lane ≡ done_of done lane
other_done done lane other apart = ap (λ o. unwrap_or o 0) (find_put_other lane other (done_of done other + 1) done apart)

-- a lane in which a build is active is none that is idle
pub apart_from_idle : (s : State) (lane other : ℕ) (build : Build) → build_of s.active lane ≡ Some build
    → build_of s.active other ≡ None → (lane == other) ≡ false
apart_from_idle s lane other build is idle = by (lane == other) refl
  where
    by : (t : Bool) → (lane == other) ≡ t → t ≡ false
    by false e = refl
    by true e = absurd (let same : build_of s.active lane ≡ build_of s.active other = ap (build_of s.active)
        (same_number lane other e) in cc)

-- where each command of each lane is finished, no lane has one after
behind_all : {A : Type 0} (xs : List A) → slice_get xs (length xs) ≡ None
behind_all [] = refl
behind_all (x ∷ xs) = behind_all xs

none_at : (done : List (ℕ × ℕ)) (k j : ℕ) (lanes : List Lane) (lane : ℕ) → lane ≡ k + j → lanes_done done k lanes ≡ true
    → option_and_then (command_behind (done_of done lane)) (slice_get lanes j) ≡ None
none_at done k j [] lane place h = refl
none_at done k zero (l ∷ lanes) lane place h =
    let number : k ≡ lane = omega arith in
    let own : done_of done k ≡ length l.commands = same_number (done_of done k) (length l.commands)
    (and_first (done_of done k == length l.commands) (lanes_done done (k + 1) lanes) h) in
    ap (slice_get l.commands) (ap (done_of done) (sym number) ∙ own) ∙ behind_all l.commands
none_at done k (suc j) (l ∷ lanes) lane place h =
    none_at done (k + 1) j lanes lane (omega arith) (and_second (done_of done k == length l.commands)
    (lanes_done done (k + 1) lanes) h)

pub none_left : (s : State) (lane : ℕ) → all_done s ≡ true → next_command_of s lane ≡ None
none_left s zero h = refl
none_left s (suc n) h = none_at s.done 1 n s.phase.lanes (suc n) (omega arith) h

-- the tag of a command that is next
pub tags_are : (one two : Tag) → same_tag one two ≡ true → one ≡ two
tags_are one two h = λ i. record { phase = phase i; lane = lane i; command = command i }
  where
    phase : one.phase ≡ two.phase
    phase = same_number one.phase two.phase (and_first (one.phase == two.phase) (one.lane == two.lane)
        (and_first ((one.phase == two.phase) && (one.lane == two.lane)) (one.command == two.command) h))

    lane : one.lane ≡ two.lane
    lane = same_number one.lane two.lane (and_second (one.phase == two.phase) (one.lane == two.lane)
        (and_first ((one.phase == two.phase) && (one.lane == two.lane)) (one.command == two.command) h))

    command : one.command ≡ two.command
    command = same_number one.command two.command (and_second ((one.phase == two.phase) && (one.lane == two.lane))
        (one.command == two.command) h)

-- the command that is next in its lane
pub record IsNext (s : State) (tag : Tag) (command : Command) : Type 0 where
  pub tag_is : tag ≡ next_tag s tag.lane
  pub command_is : next_command_of s tag.lane ≡ Some command

pub next_is : (s : State) (tag : Tag) (command : Command) → next_command s tag ≡ Some command → IsNext s tag command
next_is s tag command h = by (is_next s tag) refl h
  where
    by : (t : Bool) → is_next s tag ≡ t → only_where t (next_command_of s tag.lane) ≡ Some command → IsNext s tag command
    by true next h = record {
      tag_is = tags_are tag (next_tag s tag.lane)
          (and_first (same_tag tag (next_tag s tag.lane)) (is_none (build_of s.active tag.lane)) next);
      command_is = h;
    }
    by false next h = absurd (cc)

-- the build that a command begins is its own
pub begun_commanded : (s : State) (tag : Tag) (us : List Unit) → decision_for s tag ≡ Some (Ok (Begins us)) → (build : Build)
    → build_begun_by s tag ≡ Some build → IsOfCommand s tag.lane build
begun_commanded s tag us h build is =
    let d = decided_of s tag (Begins us) h in
    let says = says_of s tag (Begins us) d in
    let next = next_is s tag d.command d.next in
    let made : Some (build_asked tag (size s.base) us says.asked) ≡ Some build = sym (begun_is s tag us h) ∙ is in
    let same : build_asked tag (size s.base) us says.asked ≡ build = cc in
    subst (IsOfCommand s tag.lane) same (record {
      file = says.asked.file;
      jobs = says.asked.jobs;
      macros = says.asked.macros;
      goals = says.asked.goals;
      tag = next.tag_is;
      command = next.command_is ∙ ap Some says.is;
      finished = subst (λ rows. fresh rows says.asked.view says.asked.file says.asked.macros says.asked.goals
          ≡ Ok (all_finished rows says.asked.view us)) (sym (all_rows s.base (size s.base) (omega arith)))
          (ap (fresh_of s.base says.asked.view) says.of_makefile);
    })
