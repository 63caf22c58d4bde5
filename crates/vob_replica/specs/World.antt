-- The world of the sites: what each event comes to, and the replies.
use Rattle.std.specs.Prelude.{ℕ, ◌+◌, ◌-◌, nat_lt, Option, Some, None, Result, Ok, Err, List, [], ◌∷◌, ◌++◌, length}
use Rattle.std.specs.Prelude.{if◌then◌else◌}
use Rattle.std.specs.Option.{option_map_or}
use Rattle.std.specs.Str.{bytes_eq}
use Rattle.std.specs.Fmt.{decimal}
use Rattle.vob_replica.specs.declared.events.Identity.{Identity}
use Rattle.vob_replica.specs.declared.events.Event.{Event}
use Rattle.vob_replica.specs.declared.events.Event.TheVariants as events
use Rattle.vob_replica.specs.declared.operations.Answer.{Answer}
use Rattle.vob_replica.specs.declared.operations.Answer.TheVariants.{Done, Refused}
use Rattle.vob_replica.specs.declared.operations.Change.{Change}
use Rattle.vob_replica.specs.declared.operations.Change.TheVariants as changes
use Rattle.vob_replica.specs.declared.operations.Operation.{Operation}
use Rattle.vob_replica.specs.declared.operations.SiteFault.{SiteFault}
use Rattle.vob_replica.specs.declared.operations.SiteFault.TheVariants.{SiteExists, TooManySites, NoSite, PacketExists, NoPacket}
use Rattle.vob_replica.specs.declared.operations.SiteFault.TheVariants.{Gap}
use Rattle.vob_replica.specs.Tables.{table_of}
use Rattle.vob_replica.specs.Trees.{trees_of}
use Rattle.vob_replica.specs.Replicas.{Site, Packet, new_site, change_fault, operation_by, site_made, packet_for, thinking}
use Rattle.vob_replica.specs.Replicas.{operations_after_import, site_with}
use Rattle.vob_replica.specs.Showing.{identity_text, show_text, reply_text}

-- a packet by its name
pub record Sent : Type 0 where
  pub name : List ℕ
  pub packet : Packet

-- all sites, and all packets
pub record World : Type 0 where
  pub sites : List Site
  pub packets : List Sent

-- what an event comes to, and the world after it
pub record Stepped : Type 0 where
  pub world : World
  pub answer : Answer

-- a world without sites
abbrev pub no_sites : World
no_sites = record { sites = []; packets = [] }

-- the site of a name
abbrev pub site_in : List Site → List ℕ → Option Site
site_in [] name = None
site_in (site ∷ sites) name = if bytes_eq site.name name then Some site else site_in sites name

-- the packet of a name
abbrev pub packet_in : List Sent → List ℕ → Option Packet
packet_in [] name = None
packet_in (sent ∷ others) name = if bytes_eq sent.name name then Some sent.packet else packet_in others name

-- the sites with one of them changed
abbrev pub with_site : Site → List Site → List Site
with_site site [] = []
with_site site (other ∷ others) = if bytes_eq other.name site.name then site ∷ others else other ∷ with_site site others

abbrev pub with_sites : World → List Site → World
with_sites world sites = record world { sites = sites }

-- nothing is changed
abbrev pub refused_step : World → SiteFault → Stepped
refused_step world fault = record { world = world; answer = Refused fault }

-- one site is changed
abbrev pub done_step : World → Site → List ℕ → Stepped
done_step world site text = record { world = with_sites world (with_site site world.sites); answer = Done text }

-- at the site of a name, where there is one
abbrev pub at_site : World → List ℕ → (Site → Stepped) → Stepped
at_site world name act = option_map_or act (site_in world.sites name) (refused_step world (NoSite name))

-- a site makes a change, unless that is refused
abbrev pub unless_fault : Option SiteFault → World → Site → Change → Stepped
unless_fault (Some fault) world site change = refused_step world fault
unless_fault None world site change =
    done_step world (site_made site change) (identity_text (operation_by site change).identity)

abbrev pub makes : World → List ℕ → Change → Stepped
makes world name change =
    at_site world name (λ site. unless_fault (change_fault site.name (trees_of site.known) change) world site change)

-- `site S`
abbrev pub site_step : World → List ℕ → Stepped
site_step world name =
    option_map_or (λ _. refused_step world (SiteExists name)) (site_in world.sites name)
    (if nat_lt 63 (length world.sites) then refused_step world TooManySites
    else record { world = with_sites world (world.sites ++ new_site name ∷ []); answer = Done [] })

-- `export S T P`
abbrev pub sends : World → Site → List ℕ → List ℕ → Stepped
sends world site to packet = record {
  world = record {
    sites = with_site (thinking site to (table_of site.known)) world.sites;
    packets = world.packets ++ record { name = packet; packet = packet_for site to } ∷ [];
  };
  answer = Done (decimal (length (packet_for site to).operations));
}

abbrev pub export_step : World → List ℕ → List ℕ → List ℕ → Stepped
export_step world name to packet =
    at_site world name (λ site. at_site world to (λ _.
    option_map_or (λ _. refused_step world (PacketExists packet)) (packet_in world.packets packet) (sends world site to packet)))

-- `import S P`
abbrev pub takes : World → Site → Packet → Result (List Operation) Identity → Stepped
takes world site contents (Ok known) = done_step world (site_with site contents known)
    (decimal (length known - length site.known))
takes world site contents (Err missing) = refused_step world (Gap missing)

abbrev pub import_step : World → List ℕ → List ℕ → Stepped
import_step world name packet =
    at_site world name (λ site.
    option_map_or (λ contents. takes world site contents (operations_after_import site.known contents.operations))
    (packet_in world.packets packet)
    (refused_step world (NoPacket packet)))

-- `chmaster S ID T`
abbrev pub chmaster_step : World → List ℕ → Identity → List ℕ → Stepped
chmaster_step world name branch to =
    at_site world name (λ _. at_site world to (λ _. makes world name (changes.Master branch to)))

-- `recover S T`
abbrev pub recover_step : World → List ℕ → List ℕ → Stepped
recover_step world name to = at_site world name (λ from. at_site world to (λ _. done_step world (thinking from to []) []))

-- `show S`
abbrev pub show_step : World → List ℕ → Stepped
show_step world name = at_site world name (λ from. record { world = world; answer = Done (show_text from) })

-- what an event comes to
abbrev pub step : World → Event → Stepped
step world (events.Site site) = site_step world site
step world (events.Mkelem site) = makes world site changes.Element
step world (events.Mkbranch site branch number name) = makes world site (changes.Branch branch number name)
step world (events.Checkin site branch word) = makes world site (changes.Version branch word)
step world (events.Chmaster site branch to) = chmaster_step world site branch to
step world (events.Export site to packet) = export_step world site to packet
step world (events.Import site packet) = import_step world site packet
step world (events.Recover site to) = recover_step world site to
step world (events.Show site) = show_step world site

-- the world after events
abbrev pub world_behind : World → List Event → World
world_behind world [] = world
world_behind world (event ∷ events) = world_behind (step world event).world events

abbrev pub world_of : List Event → World
world_of events = world_behind no_sites events

-- the answers to events
abbrev pub answers_behind : World → List Event → List Answer
answers_behind world [] = []
answers_behind world (event ∷ events) = (step world event).answer ∷ answers_behind (step world event).world events

-- the replies to events, where so many stand above them
abbrev pub replies_behind : ℕ → World → List Event → List ℕ
replies_behind above world [] = []
replies_behind above world (event ∷ events) =
    reply_text (above + 1) event (step world event).answer ++ replies_behind (above + 1) (step world event).world events

-- the replies to the events of a text
abbrev pub event_replies : List Event → List ℕ
event_replies events = replies_behind 0 no_sites events
