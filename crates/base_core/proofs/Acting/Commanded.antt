-- The command that a lane has next is one of the phase: it has the form of one.
use Rattle.std.proofs.Common.{◌≡◌, ℕ, zero, suc, Option, Some, None, refl, ap, sym, ◌∙◌}
use Rattle.std.specs.Prelude.{option_and_then, slice_get}
use Rattle.std.specs.List.{AllByRecursion}
use Rattle.cc_names.specs.Commands.{lane_at}
use Rattle.cc_names.specs.declared.commands.Change.{Change}
use Rattle.cc_names.specs.declared.commands.Clearmake.{Clearmake}
use Rattle.cc_names.specs.declared.commands.Command.{Command}
use Rattle.cc_names.specs.declared.commands.Command.TheVariants as commands
use Rattle.cc_names.specs.declared.commands.Query.{Query}
use Rattle.cc_names.specs.declared.commands.Lane.{Lane}
use Rattle.cc_names.specs.declared.commands.Phase.{Phase}
use Rattle.cc_names.specs.declared.occasions.Next.TheVariants as nexts
use Rattle.cc_names.specs.declared.rows.Tag.{Tag}
use Rattle.cc_names.proofs.Common.{all_at}
use Rattle.session_text.specs.Formed.{IsCommand, IsLane, IsPhase}
use Rattle.legal_history.specs.Stories.Commanded.{next_command_of}
use Rattle.legal_history.specs.Stories.States.{State, command_behind, next_tag}
use Rattle.base_core.specs.Keeping.CoreInvariants.{command_limit}
use Rattle.clearmake.specs.Nexts.{next_by, next_of_lane}

-- what holds of all commands of all lanes holds of the one that is next
in_lane : (Q : Lane → Type 0) (P : Command → Type 0) → ((lane : Lane) → Q lane → AllByRecursion P lane.commands)
    → (phase : Phase) (lane done : ℕ) (command : Command) → AllByRecursion Q phase.lanes
    → option_and_then (command_behind done) (lane_at phase lane) ≡ Some command → P command
in_lane Q P each phase zero done command all e = absurd (cc)
in_lane Q P each phase (suc n) done command all e = by (slice_get phase.lanes n) refl e
  where
    by : (found : Option Lane) → slice_get phase.lanes n ≡ found → option_and_then (command_behind done) found ≡ Some command
        → P command
    by None is e = absurd (cc)
    by (Some lane) is e = all_at P lane.commands done command (each lane (all_at Q phase.lanes n lane all is)) e

pub next_is_formed : (phase : Phase) (lane done : ℕ) (command : Command) → IsPhase command_limit phase
    → option_and_then (command_behind done) (lane_at phase lane) ≡ Some command → IsCommand command_limit command
next_is_formed phase lane done command formed e = in_lane (IsLane command_limit) (IsCommand command_limit) (λ l is. is.1.1) phase
    lane done command formed.1 e

-- no build is acted on
builds_not : (asked : Clearmake) (tag : Tag) → next_by (Some (commands.Build asked)) tag ≡ nexts.Act → ⊥
builds_not asked tag act = cc

pub acts_on_no_build : (s : State) (lane : ℕ) (asked : Clearmake) → next_command_of s lane ≡ Some (commands.Build asked)
    → next_of_lane s lane ≡ nexts.Act → ⊥
acts_on_no_build s lane asked e act = builds_not asked (next_tag s lane) (ap (λ found. next_by found (next_tag s lane)) (sym e)
    ∙ act)

-- neither a change nor a query is built
changes_not : (change : Change) (tag : Tag) → next_by (Some (commands.Change change)) tag ≡ nexts.Build tag → ⊥
changes_not change tag build = cc

pub builds_no_change : (s : State) (lane : ℕ) (change : Change) → next_command_of s lane ≡ Some (commands.Change change)
    → next_of_lane s lane ≡ nexts.Build (next_tag s lane) → ⊥
builds_no_change s lane change e build = changes_not change (next_tag s lane)
    (ap (λ found. next_by found (next_tag s lane)) (sym e) ∙ build)

asks_not : (query : Query) (tag : Tag) → next_by (Some (commands.Query query)) tag ≡ nexts.Build tag → ⊥
asks_not query tag build = cc

pub builds_no_query : (s : State) (lane : ℕ) (query : Query) → next_command_of s lane ≡ Some (commands.Query query)
    → next_of_lane s lane ≡ nexts.Build (next_tag s lane) → ⊥
builds_no_query s lane query e build = asks_not query (next_tag s lane) (ap (λ found. next_by found (next_tag s lane)) (sym e)
    ∙ build)
