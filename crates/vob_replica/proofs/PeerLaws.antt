-- What is thought of a site is set where it stands, or after all others; and what was exported to it stays known.
use Rattle.std.proofs.Common.{◌≡◌, ℕ, suc, ◌-◌, ◌<◌, ◌≤◌, Bool, true, false, cond, Option, Some, None, Result, Ok, Err}
use Rattle.std.proofs.Common.{List, []}
use Rattle.std.proofs.Common.{◌∷◌, ◌++◌, length, take, not, get_or, set, refl, sym, ap, ◌∙◌, subst, length-append, arith}
use Rattle.std.proofs.lemmas.List.{take_all, take-append-le}
use Rattle.std.specs.Prelude.{OnOk, OnErr}
use Rattle.std.specs.Option.{option_map_or}
use Rattle.vob_replica.specs.declared.estimates.Estimate.{Estimate}
use Rattle.vob_replica.specs.declared.estimates.Peer.{Peer}
use Rattle.vob_replica.specs.declared.events.Identity.{Identity}
use Rattle.vob_replica.specs.declared.operations.Operation.{Operation}
use Rattle.vob_replica.specs.Estimates.{estimates_of, is_peer, peer_in, exported_in, peer_place_in, peer_by, with_peer}
use Rattle.vob_replica.specs.Estimates.{IsExported, AreExported}
use Rattle.vob_replica.specs.Replicas.{Site, Packet, above, estimate_in, with_estimate, operations_after_import, unless_gap}
use Rattle.vob_replica.specs.Replicas.{thinking, imported, imported_with}
use Rattle.vob_replica.specs.Tables.{first_gap, holds, raised_by, table_of, IsWithin}
use Rattle.vob_replica.proofs.HoldLaws.{holds-within}

-- a site, by its fields
abbrev pub site_by : List ℕ → List Operation → List Estimate → Site
site_by name known estimates = record { name = name; known = known; estimates = estimates }

abbrev pub site_thinking : List ℕ → List Operation → List Peer → Site
site_thinking name known peers = site_by name known (estimates_of peers)

-- the place, by whether the first peer is the site
abbrev place_by : Bool → List Peer → List ℕ → ℕ
place_by b others site = cond b 0 (suc (peer_place_in others site))

-- a peer of which something else is thought
abbrev pub with_thought : Peer → List Identity → ℕ → Peer
with_thought peer table exported = peer_by peer.estimate.site table exported

abbrev set_first : Bool → Peer → List Peer → List ℕ → List Identity → ℕ → List Peer
set_first b first others site table exported =
    cond b (with_thought first table exported ∷ others) (first ∷ with_peer others site table exported)

there-first : (b : Bool) (first : Peer) (others : List Peer) (site : List ℕ) (table : List Identity) (exported : ℕ) (d : Peer)
    → place_by b others site < length (first ∷ others)
    → (peer_place_in others site < length others → set others (peer_place_in others site)
    (with_thought (get_or others (peer_place_in others site) d) table exported) ≡ with_peer others site table exported)
    → set (first ∷ others) (place_by b others site) (with_thought (get_or (first ∷ others) (place_by b others site) d) table
    exported)
    ≡ set_first b first others site table exported
there-first true first others site table exported d within later = refl
there-first false first others site table exported d within later = ap (λ (l : List Peer). first ∷ l) (later (omega arith))

-- where the site is a peer
with_peer-there : (peers : List Peer) (site : List ℕ) (table : List Identity) (exported : ℕ) (d : Peer)
    → peer_place_in peers site < length peers
    → set peers (peer_place_in peers site) (with_thought (get_or peers (peer_place_in peers site) d) table exported)
    ≡ with_peer peers site table exported
with_peer-there [] site table exported d within = absurd (omega arith)
with_peer-there (first ∷ others) site table exported d within =
    there-first (is_peer site first) first others site table exported d within (with_peer-there others site table exported d)

new-first : (b : Bool) (first : Peer) (others : List Peer) (site : List ℕ) (table : List Identity) (exported : ℕ)
    → length (first ∷ others) ≤ place_by b others site
    → (length others ≤ peer_place_in others site → others ++ peer_by site table exported ∷ []
    ≡ with_peer others site table exported)
    → (first ∷ others) ++ peer_by site table exported ∷ [] ≡ set_first b first others site table exported
new-first true first others site table exported past later = absurd (omega arith)
new-first false first others site table exported past later = ap (λ (l : List Peer). first ∷ l) (later (omega arith))

-- where it is none
with_peer-new : (peers : List Peer) (site : List ℕ) (table : List Identity) (exported : ℕ)
    → length peers ≤ peer_place_in peers site
    → peers ++ peer_by site table exported ∷ [] ≡ with_peer peers site table exported
with_peer-new [] site table exported past = refl
with_peer-new (first ∷ others) site table exported past =
    new-first (is_peer site first) first others site table exported past (with_peer-new others site table exported)

-- it is written where it stands
pub set-there : (peers : List Peer) (place : ℕ) (site : List ℕ) (table : List Identity) (exported : ℕ) (d : Peer)
    → place ≡ peer_place_in peers site → place < length peers → d ≡ get_or peers place d
    → set peers place (with_thought d table exported) ≡ with_peer peers site table exported
set-there peers place site table exported d at within there =
    ap (λ (e : Peer). set peers place (with_thought e table exported)) there
    ∙ subst (λ (p : ℕ). set peers p (with_thought (get_or peers p d) table exported) ≡ with_peer peers site table exported)
    (sym at)
    (with_peer-there peers site table exported d (subst (λ (p : ℕ). p < length peers) at within))

-- or put after all others
pub push-new : (peers new : List Peer) (place : ℕ) (site copy : List ℕ) (table : List Identity) (exported : ℕ)
    → new ≡ peers ++ peer_by copy table exported ∷ [] → copy ≡ site
    → place ≡ peer_place_in peers site → length peers ≤ place → new ≡ with_peer peers site table exported
push-new peers new place site copy table exported is same at past =
    is ∙ ap (λ (s : List ℕ). peers ++ peer_by s table exported ∷ []) same
    ∙ with_peer-new peers site table exported (subst (λ (p : ℕ). length peers ≤ p) at past)

-- the estimates of the peers are changed by that
pub estimates-set : (peers : List Peer) (site : List ℕ) (table : List Identity) (exported : ℕ)
    → estimates_of (with_peer peers site table exported) ≡ with_estimate (estimates_of peers) site table
estimates-set [] site table exported = refl
estimates-set (first ∷ others) site table exported = by (is_peer site first) (estimates-set others site table exported)
  where
    by : (b : Bool) → estimates_of (with_peer others site table exported) ≡ with_estimate (estimates_of others) site table
        → estimates_of (set_first b first others site table exported)
        ≡ cond b (record { site = first.estimate.site; table = table } ∷ estimates_of others)
        (first.estimate ∷ with_estimate (estimates_of others) site table)
    by true later = refl
    by false later = ap (λ (l : List Estimate). first.estimate ∷ l) later

-- the estimate of a peer that was found
abbrev pub table_found : Option Peer → List Identity
table_found found = option_map_or (λ (peer : Peer). peer.estimate.table) found []

-- an estimate is that of the peer
pub estimate-found : (peers : List Peer) (site : List ℕ) → table_found (peer_in peers site)
    ≡ estimate_in (estimates_of peers) site
estimate-found [] site = refl
estimate-found (first ∷ others) site = by (is_peer site first) (estimate-found others site)
  where
    by : (b : Bool) → table_found (peer_in others site) ≡ estimate_in (estimates_of others) site
        → table_found (cond b (Some first) (peer_in others site))
        ≡ cond b first.estimate.table (estimate_in (estimates_of others) site)
    by true later = refl
    by false later = later

pub found-table : (peers : List Peer) (site : List ℕ) (found : Option Peer) → found ≡ peer_in peers site
    → table_found found ≡ estimate_in (estimates_of peers) site
found-table peers site found is = ap table_found is ∙ estimate-found peers site

-- how many operations were exported to a peer that was found
abbrev pub exported_found : Option Peer → ℕ
exported_found found = option_map_or (λ (peer : Peer). peer.exported) found 0

-- what was exported to a peer is known to it
exported-peer : (known : List Operation) (peers : List Peer) (site : List ℕ) → AreExported known peers
    → IsExported known (table_found (peer_in peers site)) (exported_in peers site)
exported-peer known [] site are = record { within = omega arith; all = refl }
exported-peer known (first ∷ others) site are = by (is_peer site first) (exported-peer known others site are.1)
  where
    by : (b : Bool) → IsExported known (table_found (peer_in others site)) (exported_in others site)
        → IsExported known (table_found (cond b (Some first) (peer_in others site)))
        (exported_found (cond b (Some first) (peer_in others site)))
    by true later = are.0
    by false later = later

pub found-exported : (known : List Operation) (peers : List Peer) (site : List ℕ) (found : Option Peer)
    → found ≡ peer_in peers site
    → AreExported known peers → IsExported known (table_found found) (exported_found found)
found-exported known peers site found is are =
    subst (λ (f : Option Peer). IsExported known (table_found f) (exported_found f)) (sym is) (exported-peer known peers site are)

-- an estimate and a place that are those of a site
pub estimate-exported : (known : List Operation) (peers : List Peer) (site : List ℕ) (table : List Identity) (exported : ℕ)
    → AreExported known peers → table ≡ estimate_in (estimates_of peers) site → exported ≡ exported_in peers site
    → IsExported known table exported
estimate-exported known peers site table exported are is count =
    subst (λ (n : ℕ). IsExported known table n) (sym count)
    (subst (λ (t : List Identity). IsExported known t (exported_in peers site)) (estimate-found peers site ∙ sym is)
    (exported-peer known peers site are))

-- and to one that is changed
pub exported-set : (known : List Operation) (peers : List Peer) (site : List ℕ) (table : List Identity) (exported : ℕ)
    → AreExported known peers
    → IsExported known table exported → AreExported known (with_peer peers site table exported)
exported-set known [] site table exported are is = (is, tt)
exported-set known (first ∷ others) site table exported are is =
    by (is_peer site first) (exported-set known others site table exported are.1 is)
  where
    by : (b : Bool) → AreExported known (with_peer others site table exported)
        → AreExported known (set_first b first others site table exported)
    by true later = (is, are.1)
    by false later = (are.0, later)

-- what is known grows
IsExported-longer : (known more : List Operation) (table : List Identity) (exported : ℕ) → IsExported known table exported
    → IsExported (known ++ more) table exported
IsExported-longer known more table exported is = record {
  within = let within = is.within in omega (arith, within, length-append known more);
  all = ap (above table) (take-append-le exported known more is.within) ∙ is.all;
}

pub exported-longer : (known more : List Operation) (peers : List Peer) → AreExported known peers
    → AreExported (known ++ more) peers
exported-longer known more [] are = tt
exported-longer known more (first ∷ others) are = (
  IsExported-longer known more first.estimate.table first.exported are.0,
  exported-longer known more others are.1,
)

pub exported-pushed : (known known' : List Operation) (operation : Operation) (peers : List Peer)
    → known' ≡ known ++ operation ∷ []
    → AreExported known peers → AreExported known' peers
exported-pushed known known' operation peers is are =
    subst (λ (l : List Operation). AreExported l peers) (sym is) (exported-longer known (operation ∷ []) peers are)

-- the operations of a packet
pub exported-import : (known operations after : List Operation) (peers : List Peer) → AreExported known peers
    → operations_after_import known operations ≡ Ok after → AreExported after peers
exported-import known [] after peers are is = let same : known ≡ after = cc is in
    subst (λ (l : List Operation). AreExported l peers) same are
exported-import known (operation ∷ operations) after peers are is =
    by (holds (table_of known) operation.identity) (first_gap operation.needs (table_of known)) is
    (exported-import known operations after peers are)
    (exported-import (known ++ operation ∷ []) operations after peers (exported-longer known (operation ∷ []) peers are))
  where
    by : (b : Bool) (gap : Option Identity) → cond b (operations_after_import known operations)
        (unless_gap gap (operations_after_import (known ++ operation ∷ []) operations)) ≡ Ok after
        → (operations_after_import known operations ≡ Ok after → AreExported after peers)
        → (operations_after_import (known ++ operation ∷ []) operations ≡ Ok after → AreExported after peers)
        → AreExported after peers
    by true gap is skipped more = skipped is
    by false (Some missing) is skipped more = cc is
    by false None is skipped more = more is

-- nothing is above a greater table where nothing is above a smaller one
above-less : (table other : List Identity) (operations : List Operation) → IsWithin table other → above table operations ≡ []
    → above other operations ≡ []
above-less table other [] within none = refl
above-less table other (operation ∷ operations) within none =
    by (holds table operation.identity) refl none (above-less table other operations within)
  where
    by : (held : Bool) → holds table operation.identity ≡ held
        → cond (not held) (operation ∷ above table operations) (above table operations) ≡ []
        → (above table operations ≡ [] → above other operations ≡ [])
        → cond (not (holds other operation.identity)) (operation ∷ above other operations) (above other operations) ≡ []
    by true held none later =
        ap (λ (b : Bool). cond (not b) (operation ∷ above other operations) (above other operations))
        (holds-within table other operation.identity within held) ∙ later none
    by false held none later = cc none

-- an estimate that rises
pub IsExported-risen : (known : List Operation) (table other : List Identity) (exported : ℕ) → IsExported known table exported
    → IsWithin table other → IsExported known other exported
IsExported-risen known table other exported is within = record {
  within = is.within;
  all = above-less table other (take exported known) within is.all;
}

-- all of a log was exported
pub IsExported-all : (known : List Operation) (table : List Identity) (exported : ℕ) → above table known ≡ []
    → exported ≡ length known
    → IsExported known table exported
IsExported-all known table exported none is = record {
  within = omega (arith, is);
  all = ap (above table) (take_all exported known (omega (arith, is))) ∙ none;
}

pub IsExported-none : (known : List Operation) (table : List Identity) (exported : ℕ) → exported ≡ 0
    → IsExported known table exported
IsExported-none known table exported is = record {
  within = omega (arith, is);
  all = ap (λ (n : ℕ). above table (take n known)) is;
}

-- whether there was memory or not
pub exported-after : {T E : Type 0} (r : Result T E) (known : List Operation) (peers new : List Peer) (site : List ℕ)
    (table : List Identity) (exported : ℕ)
    → OnOk r (new ≡ with_peer peers site table exported) → OnErr r (new ≡ peers) → AreExported known peers
    → IsExported known table exported
    → AreExported known new
exported-after (Ok x) known peers new site table exported ok err are is =
    subst (AreExported known) (sym ok) (exported-set known peers site table exported are is)
exported-after (Err e) known peers new site table exported ok err are is = subst (AreExported known) (sym err) are

-- what a site that knows these operations thinks, with one changed
pub thinks : (name : List ℕ) (known : List Operation) (peers new : List Peer) (to : List ℕ) (table : List Identity) (exported : ℕ)
    → new ≡ with_peer peers to table exported
    → site_thinking name known new ≡ thinking (site_thinking name known peers) to table
thinks name known peers new to table exported is =
    ap (λ (e : List Estimate). site_by name known e) (ap estimates_of is ∙ estimates-set peers to table exported)

pub ok-thinks : {T E : Type 0} (r : Result T E) (name : List ℕ) (known : List Operation) (peers new : List Peer) (to : List ℕ)
    (table : List Identity) (exported : ℕ) → OnOk r (new ≡ with_peer peers to table exported)
    → OnOk r (site_thinking name known new ≡ thinking (site_thinking name known peers) to table)
ok-thinks (Ok x) name known peers new to table exported is = thinks name known peers new to table exported is
ok-thinks (Err e) name known peers new to table exported is = tt

-- a packet was taken in
pub imported-ok : (name : List ℕ) (known after : List Operation) (peers new : List Peer) (packet : Packet) (count exported : ℕ)
    → operations_after_import known packet.operations ≡ Ok after → count ≡ length after - length known
    → new ≡ with_peer peers packet.sender (raised_by (estimate_in (estimates_of peers) packet.sender) packet.table) exported
    → imported (site_thinking name known peers) packet ≡ (Ok count, site_thinking name after new)
imported-ok name known after peers new packet count exported is counts set =
    let table = raised_by (estimate_in (estimates_of peers) packet.sender) packet.table in
    ap (λ (r : Result (List Operation) Identity). imported_with r (site_thinking name known peers) packet) is
    ∙ ap (λ (n : ℕ). (Ok n, thinking (site_thinking name after peers) packet.sender table)) (sym counts)
    ∙ ap (λ (s : Site). (Ok count, s)) (sym (thinks name after peers new packet.sender table exported set))
