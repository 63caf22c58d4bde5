-- The decision on each command, a line a command: on changes, on queries, and on builds.
use Rattle.std.specs.Prelude.{Result}
use Rattle.cc_names.specs.declared.commands.Change.{Change}
use Rattle.cc_names.specs.declared.commands.Change.TheVariants as changes
use Rattle.cc_names.specs.declared.commands.Command.{Command}
use Rattle.cc_names.specs.declared.commands.Command.TheVariants as commands
use Rattle.cc_names.specs.declared.refusals.Refusal.{Refusal}
use Rattle.cc_names.specs.declared.rows.Kind.TheVariants.{File, Directory}
use Rattle.cc_names.specs.declared.rows.TypeKind.TheVariants as type_kinds
use Rattle.legal_history.specs.Commands.CheckoutLines.{checkout, mkbranch, checkin, uncheckout}
use Rattle.legal_history.specs.Commands.Decisions.{Scene, Decision, answered}
use Rattle.legal_history.specs.Commands.DirectoryLines.{mkelem, rmname, mv}
use Rattle.legal_history.specs.Commands.FileLines.{mkview, rmview, setcs, save, rm}
use Rattle.legal_history.specs.Commands.LabelLines.{mktype, mklabel, rmlabel, mklabel_config, mkarrow}
use Rattle.legal_history.specs.Commands.ObjectLines.{rmdo, scrub, clearmake}
use Rattle.legal_history.specs.Queries.QueryLines.{query_answer}

-- What is decided of a change: its first refusal in the order of its tests, else its row; or that there is nothing to change.
abbrev pub change_decision : Scene → Change → Result Decision Refusal
change_decision s (changes.Mkview v) = mkview s v
change_decision s (changes.Rmview v force) = rmview s v force
change_decision s (changes.Setcs v text) = setcs s v text
change_decision s (changes.Mkelem v nco path) = mkelem s v nco File path
change_decision s (changes.Mkdir v nco path) = mkelem s v nco Directory path
change_decision s (changes.Checkout v unreserved path) = checkout s v unreserved path
change_decision s (changes.Mkbranch v nco branch path) = mkbranch s v nco branch path
change_decision s (changes.Save v path text) = save s v path text
change_decision s (changes.Rm v path) = rm s v path
change_decision s (changes.Checkin v identical path) = checkin s v identical path
change_decision s (changes.Uncheckout v path) = uncheckout s v path
change_decision s (changes.Rmname v path) = rmname s v path
change_decision s (changes.Mv v path name) = mv s v path name
change_decision s (changes.Mklbtype name) = mktype s type_kinds.Label name
change_decision s (changes.Mkbrtype name) = mktype s type_kinds.Branch name
change_decision s (changes.Mklabel v replace label path) = mklabel s v replace label path
change_decision s (changes.MklabelConfig v replace path label) = mklabel_config s v replace path label
change_decision s (changes.Rmlabel v label path) = rmlabel s v label path
change_decision s (changes.Mkarrow v path version) = mkarrow s v path version
change_decision s (changes.Rmdo v path) = rmdo s v path
change_decision s (changes.Scrub age) = scrub s age

-- What is decided of a command: of a change, of a query, or of a build, which begins or is refused.
abbrev pub decision : Scene → Command → Result Decision Refusal
decision s (commands.Change change) = change_decision s change
decision s (commands.Query query) = answered (query_answer s.base query)
decision s (commands.Build build) = clearmake s build.view build.file build.macros build.goals
