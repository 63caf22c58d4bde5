-- What a site thinks of others: its estimates, and where in its log there can be news for them.
use Rattle.std.specs.Prelude.{◌≡◌, ℕ, suc, ◌≤◌, Bool, Option, List, [], ◌∷◌, length, take, map, find, if◌then◌else◌}
use Rattle.std.specs.Option.{option_map_or}
use Rattle.std.specs.Str.{bytes_eq}
use Rattle.vob_replica.specs.declared.estimates.Estimate.{Estimate}
use Rattle.vob_replica.specs.declared.estimates.Peer.{Peer}
use Rattle.vob_replica.specs.declared.events.Identity.{Identity}
use Rattle.vob_replica.specs.declared.operations.Operation.{Operation}
use Rattle.vob_replica.specs.Replicas.{above}

-- the estimates alone
abbrev pub estimate_of : Peer → Estimate
estimate_of peer = peer.estimate

abbrev pub estimates_of : List Peer → List Estimate
estimates_of peers = map estimate_of peers

-- whether a peer is a site
abbrev pub is_peer : List ℕ → Peer → Bool
is_peer site peer = bytes_eq peer.estimate.site site

-- what is thought of a site, where anything is
abbrev pub peer_in : List Peer → List ℕ → Option Peer
peer_in peers site = find (is_peer site) peers

-- how many of the operations were exported to a site
abbrev pub exported_in : List Peer → List ℕ → ℕ
exported_in peers site = option_map_or (λ peer. peer.exported) (peer_in peers site) 0

-- how many peers stand before a site
abbrev pub peer_place_in : List Peer → List ℕ → ℕ
peer_place_in [] site = 0
peer_place_in (peer ∷ others) site = if is_peer site peer then 0 else suc (peer_place_in others site)

-- a peer by what is thought of a site
abbrev pub peer_by : List ℕ → List Identity → ℕ → Peer
peer_by site table exported = record { estimate = record { site = site; table = table }; exported = exported }

-- the peers with one changed
abbrev pub with_peer : List Peer → List ℕ → List Identity → ℕ → List Peer
with_peer [] site table exported = peer_by site table exported ∷ []
with_peer (peer ∷ others) site table exported =
    if is_peer site peer then peer_by peer.estimate.site table exported ∷ others else peer ∷ with_peer others site table exported

-- a site is thought to know the first ones of some operations
pub record IsExported (known : List Operation) (table : List Identity) (exported : ℕ) : Type 0 where
  pub within : exported ≤ length known
  pub all : above table (take exported known) ≡ []

-- so is each peer
abbrev pub AreExported : List Operation → List Peer → Type 0
AreExported known [] = Unit {0}
AreExported known (peer ∷ peers) = IsExported known peer.estimate.table peer.exported × AreExported known peers
