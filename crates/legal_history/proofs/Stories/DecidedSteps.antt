-- The command of a step that decides something, and the build that it begins.
use Rattle.std.proofs.Common.{◌≡◌, refl, ap, ◌∙◌, Option, Some, None, Ok, List}
use Rattle.std.specs.Prelude.{option_and_then, option_map}
use Rattle.cc_names.specs.declared.commands.Command.{Command}
use Rattle.cc_names.specs.declared.commands.Command.TheVariants as commands
use Rattle.cc_names.specs.declared.rows.Tag.{Tag}
use Rattle.cc_names.specs.declared.units.Unit.{Unit}
use Rattle.base_model.specs.Rows.{size}
use Rattle.legal_history.specs.Commands.Decisions.{Decision, Begins}
use Rattle.legal_history.specs.Commands.Lines.{decision}
use Rattle.legal_history.specs.Stories.States.{State, scene, decision_for, next_command}
use Rattle.legal_history.specs.Stories.Steps.{build_begun_by, build_asked, new_build, units_begun}
use Rattle.legal_history.proofs.Decisions.Decided.{decided_says}
use Rattle.legal_history.proofs.Decisions.DecidedSays.{Says}

-- the command on which something was decided
pub record DecidedOf (s : State) (tag : Tag) (d : Decision) : Type 0 where
  pub command : Command
  pub next : next_command s tag ≡ Some command
  pub is : decision (scene s) command ≡ Ok d

pub decided_of : (s : State) (tag : Tag) (d : Decision) → decision_for s tag ≡ Some (Ok d) → DecidedOf s tag d
decided_of s tag d h = by (next_command s tag) refl h
  where
    by : (o : Option Command) → next_command s tag ≡ o → option_map (decision (scene s)) o ≡ Some (Ok d) → DecidedOf s tag d
    by None next h = absurd (cc)
    by (Some command) next h = record { command = command; next = next; is = cc }

pub says_of : (s : State) (tag : Tag) (d : Decision) (h : DecidedOf s tag d) → Says (scene s) h.command d
says_of s tag d h = decided_says (scene s) h.command d h.is

-- the build that a command begins is the one that it asks for
pub begun_is : (s : State) (tag : Tag) (us : List Unit) (h : decision_for s tag ≡ Some (Ok (Begins us))) → let says =
    says_of s tag (Begins us) (decided_of s tag (Begins us) h) in
    build_begun_by s tag ≡ Some (build_asked tag (size s.base) us says.asked)
begun_is s tag us h =
    let d = decided_of s tag (Begins us) h in
    let says = says_of s tag (Begins us) d in
    ap (λ o. option_and_then (new_build tag (size s.base) (units_begun (decision_for s tag))) o) (d.next ∙ ap Some says.is)
    ∙ ap (λ o. new_build tag (size s.base) (units_begun o) (commands.Build says.asked)) h
