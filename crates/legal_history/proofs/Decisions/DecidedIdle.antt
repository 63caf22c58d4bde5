-- A row that is decided takes nothing from a view in which a build is active.
use Rattle.std.proofs.Common.{◌≡◌, Option, Some, None, Result, Ok, Err, List, length}
use Rattle.cc_names.specs.declared.commands.Command.{Command}
use Rattle.cc_names.specs.declared.refusals.Refusal.{Refusal}
use Rattle.cc_names.specs.declared.rows.Deed.{Deed}
use Rattle.cc_names.specs.declared.units.Unit.{Unit}
use Rattle.legal_history.specs.Commands.Decisions.{Scene, Makes, Begins, unless_refused, needs_room}
use Rattle.legal_history.specs.Commands.Lines.{decision}
use Rattle.legal_history.specs.Commands.ObjectLines.{build_unless}
use Rattle.legal_history.proofs.Decisions.Decided.{decided_says}
use Rattle.legal_history.proofs.Decisions.DecidedSays.{Idle}

-- a command that builds makes no row by itself
builds_no_row : (o : Option Refusal) (us : List Unit) (made : Deed) → unless_refused o (Begins us) ≡ Ok (Makes made) → ⊥
builds_no_row (Some refusal) us made h = cc
builds_no_row None us made h = cc

pub builds_nothing : (s : Scene) (o : Option Refusal) (us : Result (List Unit) Refusal) (made : Deed)
    → build_unless s o us ≡ Ok (Makes made) → ⊥
builds_nothing s (Some refusal) us made h = cc
builds_nothing s None (Err refusal) made h = cc
builds_nothing s None (Ok us) made h = builds_no_row (needs_room s (length us)) us made h

-- Whatever row is decided of a command is of this kind.
pub decided_idle : (s : Scene) (command : Command) (made : Deed) → decision s command ≡ Ok (Makes made) → Idle s.active made
decided_idle s command made h = (decided_says s command (Makes made) h).idle
