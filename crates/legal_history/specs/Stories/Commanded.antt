-- That an active build is the one of its lane's command.
use Rattle.std.specs.Prelude.{◌≡◌, ℕ, Option, Some, Ok, List, option_and_then}
use Rattle.cc_names.specs.Commands.{lane_at}
use Rattle.cc_names.specs.declared.commands.Command.{Command}
use Rattle.cc_names.specs.declared.commands.Command.TheVariants as commands
use Rattle.cc_names.specs.declared.commands.Macro.{Macro}
use Rattle.base_model.specs.Rows.{first_rows}
use Rattle.legal_history.specs.Builds.Active.{Build}
use Rattle.legal_history.specs.Builds.Fresh.{all_finished, fresh}
use Rattle.legal_history.specs.Stories.States.{State, command_behind, done_of, next_tag}

-- the command of a lane after those that it has finished
abbrev pub next_command_of : State → ℕ → Option Command
next_command_of s lane = option_and_then (command_behind (done_of s.done lane)) (lane_at s.phase lane)

-- A build is the one of its lane's command: it has the command's tag, view and options, and the build from nothing by the
-- words of the command, at the build's reference rows, is of the same units.
pub record IsOfCommand (s : State) (lane : ℕ) (build : Build) : Type 0 where
  pub file : Option (List ℕ)
  pub jobs : ℕ
  pub macros : List Macro
  pub goals : List (List ℕ)
  pub tag : build.tag ≡ next_tag s lane
  pub command : next_command_of s lane ≡ Some (commands.Build (record {
    view = build.view;
    file = file;
    own_only = build.own_only;
    rebuild = build.rebuild;
    jobs = jobs;
    macros = macros;
    goals = goals;
  }))
  pub finished : fresh (first_rows build.rows s.base) build.view file macros goals
      ≡ Ok (all_finished (first_rows build.rows s.base) build.view build.units)
