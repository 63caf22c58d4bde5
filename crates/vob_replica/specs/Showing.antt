-- What the replies to a text of sites say.
use Rattle.std.specs.Prelude.{ℕ, List, [], ◌∷◌, ◌++◌, codes, flat_map}
use Rattle.std.specs.Fmt.{decimal}
use Rattle.vob_replica.specs.declared.events.Identity.{Identity}
use Rattle.vob_replica.specs.declared.events.Event.{Event}
use Rattle.vob_replica.specs.declared.events.Event.TheVariants as events
use Rattle.vob_replica.specs.declared.operations.Answer.{Answer}
use Rattle.vob_replica.specs.declared.operations.Answer.TheVariants.{Done, Refused}
use Rattle.vob_replica.specs.declared.operations.SiteFault.{SiteFault}
use Rattle.vob_replica.specs.declared.operations.SiteFault.TheVariants as faults
use Rattle.cc_names.specs.Cuts.{lines_of}
use Rattle.vob_replica.specs.Tables.{table_of}
use Rattle.vob_replica.specs.Trees.{Tree, VersionMade, trees_of, master_of}
use Rattle.vob_replica.specs.Replicas.{Site}

-- an identity, SITE:NUMBER
abbrev pub identity_text : Identity → List ℕ
identity_text identity = identity.site ++ codes ":" ++ decimal identity.number

-- the line of a site in an epoch table
abbrev pub epoch_line : Identity → List ℕ
epoch_line entry = codes "epoch " ++ entry.site ++ codes " " ++ decimal entry.number ++ codes "\n"

-- the line of a version after version 0
abbrev pub version_line : VersionMade → List ℕ
version_line version =
    codes "version " ++ decimal version.number ++ codes " " ++ identity_text version.identity ++ codes " " ++ version.word
    ++ codes "\n"

-- the first line of a branch
abbrev pub branch_line : Tree → List ℕ
branch_line tree =
    codes "branch " ++ identity_text tree.identity ++ codes " " ++ tree.name ++ codes " master " ++ master_of tree ++ codes "\n"

-- the lines of a branch
abbrev pub tree_lines : Tree → List ℕ
tree_lines tree = branch_line tree ++ codes "version 0\n" ++ flat_map version_line tree.versions

-- the lines of an epoch table and of branches
abbrev pub known_lines : List Identity → List Tree → List ℕ
known_lines table trees = flat_map epoch_line table ++ flat_map tree_lines trees

-- what `show` tells of a site
abbrev pub show_text : Site → List ℕ
show_text site = known_lines (table_of site.known) (trees_of site.known)

-- the number and the name of a fault
abbrev pub fault_name : SiteFault → List ℕ
fault_name (faults.SiteExists site) = codes "V1 SiteExists "
fault_name faults.TooManySites = codes "V2 TooManySites"
fault_name (faults.NoSite site) = codes "V3 NoSite "
fault_name (faults.NoBranch branch) = codes "V4 NoBranch "
fault_name (faults.NotMaster site) = codes "V5 NotMaster "
fault_name (faults.NoVersion number) = codes "V6 NoVersion "
fault_name (faults.BranchExists branch) = codes "V7 BranchExists "
fault_name (faults.PacketExists packet) = codes "V8 PacketExists "
fault_name (faults.NoPacket packet) = codes "V9 NoPacket "
fault_name (faults.Gap missing) = codes "V10 Gap "

-- what a fault carries
abbrev pub fault_argument : SiteFault → List ℕ
fault_argument (faults.SiteExists site) = site
fault_argument faults.TooManySites = []
fault_argument (faults.NoSite site) = site
fault_argument (faults.NoBranch branch) = identity_text branch
fault_argument (faults.NotMaster site) = site
fault_argument (faults.NoVersion number) = decimal number
fault_argument (faults.BranchExists branch) = identity_text branch
fault_argument (faults.PacketExists packet) = packet
fault_argument (faults.NoPacket packet) = packet
fault_argument (faults.Gap missing) = identity_text missing

-- a fault, with its number, its name and what it carries
abbrev pub fault_text : SiteFault → List ℕ
fault_text fault = fault_name fault ++ fault_argument fault

-- the word of an event
abbrev pub event_word : Event → List ℕ
event_word (events.Site site) = codes "site"
event_word (events.Mkelem site) = codes "mkelem"
event_word (events.Mkbranch site branch number name) = codes "mkbranch"
event_word (events.Checkin site branch word) = codes "checkin"
event_word (events.Chmaster site branch to) = codes "chmaster"
event_word (events.Export site to packet) = codes "export"
event_word (events.Import site packet) = codes "import"
event_word (events.Recover site to) = codes "recover"
event_word (events.Show site) = codes "show"

-- what follows `ok`: nothing, or a word
abbrev pub behind_ok : List ℕ → List ℕ
behind_ok [] = codes "\n"
behind_ok (b ∷ bs) = codes " " ++ b ∷ bs ++ codes "\n"

-- a line behind a `|`
abbrev pub bar_before : List ℕ → List ℕ
bar_before line = codes "|" ++ line ++ codes "\n"

-- each line of a text behind a `|`
abbrev pub with_bars : List ℕ → List ℕ
with_bars text = flat_map bar_before (lines_of text)

-- what follows `ok` of an event: the text of `show` in lines of its own
abbrev pub done_text : Event → List ℕ → List ℕ
done_text (events.Show site) text = codes "\n" ++ with_bars text
done_text _ text = behind_ok text

-- what follows the word of an event
abbrev pub answer_text : Event → Answer → List ℕ
answer_text event (Done text) = codes " ok" ++ done_text event text
answer_text event (Refused fault) = codes " refused " ++ fault_text fault ++ codes "\n"

-- the reply to the event of this number
abbrev pub reply_text : ℕ → Event → Answer → List ℕ
reply_text number event answer = decimal number ++ codes " " ++ event_word event ++ answer_text event answer
