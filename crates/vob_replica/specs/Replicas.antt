-- A site: the operations that it knows, and what it thinks that others know.
use Rattle.std.specs.Prelude.{◌≡◌, ℕ, ◌+◌, ◌-◌, ◌≤◌, not, Option, Some, None, Result, Ok, Err, List, [], ◌∷◌, ◌++◌, filter}
use Rattle.std.specs.Prelude.{length, take, if◌then◌else◌}
use Rattle.std.specs.Option.{option_map, option_map_or}
use Rattle.std.specs.Str.{bytes_eq}
use Rattle.cc_names.specs.declared.memory.Or.{Or}
use Rattle.cc_names.specs.declared.memory.Or.TheVariants.{NoMemory, Is}
use Rattle.vob_replica.specs.declared.estimates.Estimate.{Estimate}
use Rattle.vob_replica.specs.declared.events.Identity.{Identity}
use Rattle.vob_replica.specs.declared.operations.Change.{Change}
use Rattle.vob_replica.specs.declared.operations.Change.TheVariants as changes
use Rattle.vob_replica.specs.declared.operations.Operation.{Operation}
use Rattle.vob_replica.specs.declared.operations.SiteDeed.{SiteDeed}
use Rattle.vob_replica.specs.declared.operations.SiteDeed.TheVariants as deeds
use Rattle.vob_replica.specs.declared.operations.SiteFault.{SiteFault}
use Rattle.vob_replica.specs.declared.operations.SiteFault.TheVariants.{NoBranch, NotMaster, NoVersion, BranchExists, Gap}
use Rattle.vob_replica.specs.Tables.{holds, number_in, raised_by, table_of, first_gap}
use Rattle.vob_replica.specs.Trees.{Tree, trees_of, tree_at, named_tree, master_of, next_number, has_version}

-- a site: its name, the operations that it knows in the order in which it came to know them, and an estimated table for each
-- site, where not all is zero
pub record Site : Type 0 where
  pub name : List ℕ
  pub known : List Operation
  pub estimates : List Estimate

-- a packet
pub record Packet : Type 0 where
  pub sender : List ℕ
  pub operations : List Operation
  pub table : List Identity

-- a site that knows nothing
abbrev pub new_site : List ℕ → Site
new_site name = record { name = name; known = []; estimates = [] }

-- what is thought that a site knows
abbrev pub estimate_in : List Estimate → List ℕ → List Identity
estimate_in [] site = []
estimate_in (estimate ∷ others) site = if bytes_eq estimate.site site then estimate.table else estimate_in others site

-- the same with one changed
abbrev pub with_estimate : List Estimate → List ℕ → List Identity → List Estimate
with_estimate [] site table = record { site = site; table = table } ∷ []
with_estimate (estimate ∷ others) site table =
    if bytes_eq estimate.site site then record { site = estimate.site; table = table } ∷ others
    else estimate ∷ with_estimate others site table

-- the first of two faults
abbrev pub either_fault : Option SiteFault → Option SiteFault → Option SiteFault
either_fault (Some fault) other = Some fault
either_fault None other = other

-- V5: another site has the mastership of the branch
abbrev pub master_fault : List ℕ → Tree → Option SiteFault
master_fault site tree = if bytes_eq (master_of tree) site then None else Some (NotMaster (master_of tree))

-- V6: the branch has no version of the number
abbrev pub version_fault : Tree → ℕ → Option SiteFault
version_fault tree number = if has_version tree number then None else Some (NoVersion number)

-- V7: a branch of the element has the name
abbrev pub branch_name_fault : List Tree → Identity → List ℕ → Option SiteFault
branch_name_fault trees element name = option_map (λ tree. BranchExists tree.identity) (named_tree trees element name)

-- V4: the branch is not known; else what is wrong with it
abbrev pub branch_fault : List Tree → Identity → (Tree → Option SiteFault) → Option SiteFault
branch_fault trees branch wrong = option_map_or wrong (tree_at trees branch) (Some (NoBranch branch))

-- why a site may not make a change
abbrev pub change_fault : List ℕ → List Tree → Change → Option SiteFault
change_fault site trees changes.Element = None
change_fault site trees (changes.Branch branch number name) =
    branch_fault trees branch (λ tree.
    branch_fault trees tree.element (λ main.
    either_fault (master_fault site main)
    (either_fault (version_fault tree number) (branch_name_fault trees tree.element name))))
change_fault site trees (changes.Version branch word) = branch_fault trees branch (master_fault site)
change_fault site trees (changes.Master branch to) = branch_fault trees branch (master_fault site)

-- what a change does
abbrev pub site_deed_of : List Tree → Change → SiteDeed
site_deed_of trees changes.Element = deeds.Element
site_deed_of trees (changes.Branch branch number name) = deeds.Branch branch number name
site_deed_of trees (changes.Version branch word) =
    deeds.Version branch (option_map_or next_number (tree_at trees branch) 0) word
site_deed_of trees (changes.Master branch to) = deeds.Master branch to

-- the operation by which the site of a name, which knows these operations and branches, makes a change
abbrev pub operation_of : List ℕ → List Operation → List Tree → Change → Operation
operation_of name known trees change = record {
  identity = record { site = name; number = number_in (table_of known) name + 1 };
  needs = table_of known;
  deed = site_deed_of trees change;
}

-- the operation by which a site makes a change
abbrev pub operation_by : Site → Change → Operation
operation_by site change = operation_of site.name site.known (trees_of site.known) change

-- a site that made a change
abbrev pub site_made : Site → Change → Site
site_made site change = record site { known = site.known ++ operation_by site change ∷ [] }

-- the operations that are not in a table
abbrev pub above : List Identity → List Operation → List Operation
above table operations = filter (λ operation. not (holds table operation.identity)) operations

-- the packet that a site makes for another
abbrev pub packet_for : Site → List ℕ → Packet
packet_for site to = record {
  sender = site.name;
  operations = above (estimate_in site.estimates to) site.known;
  table = table_of site.known;
}

-- a site with what it thinks that another knows
abbrev pub thinking : Site → List ℕ → List Identity → Site
thinking site to table = record site { estimates = with_estimate site.estimates to table }

-- what follows, unless there is a gap
abbrev pub unless_gap : Option Identity → Result (List Operation) Identity → Result (List Operation) Identity
unless_gap (Some gap) known = Err gap
unless_gap None known = known

-- What is known after the operations of a packet, or the first gap: one that is known is skipped, and none may need what is not
-- known.
abbrev pub operations_after_import : List Operation → List Operation → Result (List Operation) Identity
operations_after_import known [] = Ok known
operations_after_import known (operation ∷ operations) =
    if holds (table_of known) operation.identity then operations_after_import known operations
    else unless_gap (first_gap operation.needs (table_of known)) (operations_after_import (known ++ operation ∷ []) operations)

-- a site that took a packet in and knows these operations then
abbrev pub site_with : Site → Packet → List Operation → Site
site_with site packet known =
    thinking (record site { known = known }) packet.sender
    (raised_by (estimate_in site.estimates packet.sender) packet.table)

-- what a site comes to answer, and the site then, where it makes a change
abbrev pub made_unless : Option SiteFault → Site → Change → Result Identity SiteFault × Site
made_unless (Some fault) site change = (Err fault, site)
made_unless None site change = (Ok (operation_by site change).identity, site_made site change)

abbrev pub made : Site → Change → Result Identity SiteFault × Site
made site change = made_unless (change_fault site.name (trees_of site.known) change) site change

-- the same where it takes a packet in: it answers how many operations were new
abbrev pub imported_with : Result (List Operation) Identity → Site → Packet → Result ℕ SiteFault × Site
imported_with (Ok known) site packet = (Ok (length known - length site.known), site_with site packet known)
imported_with (Err missing) site packet = (Err (Gap missing), site)

abbrev pub imported : Site → Packet → Result ℕ SiteFault × Site
imported site packet = imported_with (operations_after_import site.known packet.operations) site packet

-- branches are those of the first operations that a site knows
pub record AreBranchesOf (trees : List Tree) (taken : ℕ) (known : List Operation) : Type 0 where
  pub within : taken ≤ length known
  pub same : trees ≡ trees_of (take taken known)

-- a call answered this and left this; where memory ran out, it changed nothing
abbrev pub Comes : {X S : Type 0} → Result X (Or SiteFault) → S → S → Result X SiteFault × S → Type 0
Comes (Ok x) before after expected = expected ≡ (Ok x, after)
Comes (Err NoMemory) before after expected = after ≡ before
Comes (Err (Is fault)) before after expected = expected ≡ (Err fault, after)

-- the fault of a packet that was not added
abbrev pub gap_fault : Or Identity → Or SiteFault
gap_fault NoMemory = NoMemory
gap_fault (Is missing) = Is (Gap missing)
