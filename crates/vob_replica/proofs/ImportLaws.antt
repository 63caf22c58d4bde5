-- What an import changes.
use Rattle.std.proofs.Common.{◌≡◌, ℕ, ◌≤◌, Bool, true, false, cond, Option, Some, None, Result, Ok, Err, List, [], ◌∷◌, ◌++◌}
use Rattle.std.proofs.Common.{map, max, refl, sym, ap, ◌∙◌, subst, arith}
use Rattle.std.specs.Prelude.{find}
use Rattle.std.specs.Option.{option_map_or}
use Rattle.std.specs.Ordering.{nat_cmp}
use Rattle.std.specs.declared.cmp.Ordering.{Ordering}
use Rattle.std.specs.declared.cmp.Ordering.TheVariants.{Less, Equal, Greater}
use Rattle.std.specs.Cmp.Lexicographic.{slice_cmp}
use Rattle.std.specs.Str.{bytes_eq}
use Rattle.std.proofs.lemmas.Slice.Eq.{bytes_eq-Decides}
use Rattle.vob_replica.specs.declared.events.Identity.{Identity}
use Rattle.vob_replica.specs.declared.operations.Operation.{Operation}
use Rattle.vob_replica.specs.declared.operations.SiteFault.TheVariants.{NoSite, NoPacket}
use Rattle.vob_replica.specs.Tables.{number_in, with_operation, raised_by, holds, first_gap, table_of, identity_of}
use Rattle.vob_replica.specs.Tables.{IsBeforeSites, Ascends}
use Rattle.vob_replica.specs.Replicas.{Site, Packet, operations_after_import, unless_gap, site_with}
use Rattle.vob_replica.specs.World.{World, Stepped, site_in, with_site, packet_in, refused_step, takes}
use Rattle.vob_replica.specs.Laws.{behind_import}
use Rattle.vob_replica.proofs.TableLaws.{Ascends-with_operation, IsBeforeSites-along, raised_by_order, behind-differs, turned}
use Rattle.vob_replica.proofs.LogLaws.{table_of-push}

-- the number of an entry that was found
abbrev number_found : Option Identity → ℕ
number_found found = option_map_or (λ (entry : Identity). entry.number) found 0

-- a site before all others has no number
pub number_in-before : (site : List ℕ) (table : List Identity) → IsBeforeSites site table → number_in table site ≡ 0
number_in-before site [] before = refl
number_in-before site (entry ∷ others) before =
    let differs : bytes_eq entry.site site ≡ false = behind-differs entry.site site (turned site entry.site Less before.0) in
    ap (λ (b : Bool). number_found (cond b (Some entry) (find (λ (e : Identity). bytes_eq e.site site) others))) differs
    ∙ number_in-before site others before.1

at_head : (b : Bool) (i : Identity) (rest : Option Identity) → (b ≡ true → number_found rest ≡ 0)
    → number_found rest ≤ number_found (cond b (Some i) rest)
at_head true i rest none = let zero : number_found rest ≡ 0 = none refl in omega arith
at_head false i rest none = omega arith

in_place : (b : Bool) (entry other : Identity) (rest : Option Identity) → entry.number ≤ other.number
    → number_found (cond b (Some entry) rest) ≤ number_found (cond b (Some other) rest)
in_place true entry other rest le = le
in_place false entry other rest le = omega arith

behind_first : (b : Bool) (entry : Identity) (one other : Option Identity) → number_found one ≤ number_found other
    → number_found (cond b (Some entry) one) ≤ number_found (cond b (Some entry) other)
behind_first true entry one other le = omega arith
behind_first false entry one other le = le

with_operation-by_order : (o : Ordering) (entry : Identity) (others : List Identity) (i : Identity) (site : List ℕ)
    → slice_cmp nat_cmp i.site entry.site ≡ o → Ascends (entry ∷ others)
    → number_in others site ≤ number_in (with_operation others i) site
    → number_in (entry ∷ others) site ≤ number_in (raised_by_order o entry others i) site
with_operation-by_order Less entry others i site is ascends later =
    at_head (bytes_eq i.site site) i (find (λ (e : Identity). bytes_eq e.site site) (entry ∷ others)) (λ same.
    let before : IsBeforeSites i.site (entry ∷ others) = (is, IsBeforeSites-along i.site entry.site others is ascends.0) in
    subst (λ (s : List ℕ). number_in (entry ∷ others) s ≡ 0) ((bytes_eq-Decides i.site site).0 same)
    (number_in-before i.site (entry ∷ others) before))
with_operation-by_order Equal entry others i site is ascends later =
    in_place (bytes_eq entry.site site) entry (record { site = entry.site; number = max entry.number i.number })
    (find (λ (e : Identity). bytes_eq e.site site) others) (omega arith)
with_operation-by_order Greater entry others i site is ascends later =
    behind_first (bytes_eq entry.site site) entry (find (λ (e : Identity). bytes_eq e.site site) others)
    (find (λ (e : Identity). bytes_eq e.site site) (with_operation others i)) later

-- one operation more lowers no number
pub number_in-with_operation : (table : List Identity) (i : Identity) (site : List ℕ) → Ascends table
    → number_in table site ≤ number_in (with_operation table i) site
number_in-with_operation [] i site ascends = omega arith
number_in-with_operation (entry ∷ others) i site ascends =
    with_operation-by_order (slice_cmp nat_cmp i.site entry.site) entry others i site refl ascends
    (number_in-with_operation others i site ascends.1)

Ascends-raised_by : (table others : List Identity) → Ascends table → Ascends (raised_by table others)
Ascends-raised_by table [] ascends = ascends
Ascends-raised_by table (other ∷ others) ascends = Ascends-raised_by (with_operation table other) others
    (Ascends-with_operation table other ascends)

pub ascends_of : (known : List Operation) → Ascends (table_of known)
ascends_of known = Ascends-raised_by [] (map identity_of known) tt

-- one operation more that is known
known-push : (known : List Operation) (operation : Operation) (site : List ℕ)
    → number_in (table_of known) site ≤ number_in (table_of (known ++ operation ∷ [])) site
known-push known operation site =
    subst (λ (t : List Identity). number_in (table_of known) site ≤ number_in t site) (sym (table_of-push known operation))
    (number_in-with_operation (table_of known) operation.identity site (ascends_of known))

-- the operations of a packet
pub taken-rises : (known operations after : List Operation) (site : List ℕ) → operations_after_import known operations ≡ Ok after
    → number_in (table_of known) site ≤ number_in (table_of after) site
taken-rises known [] after site is = let same : known ≡ after = cc is in
    subst (λ (l : List Operation). number_in (table_of known) site ≤ number_in (table_of l) site) same (omega arith)
taken-rises known (operation ∷ operations) after site is =
    by_known (holds (table_of known) operation.identity) (first_gap operation.needs (table_of known)) known operation operations
    after site is
    (taken-rises known operations after site) (taken-rises (known ++ operation ∷ []) operations after site)
  where
    by_known : (b : Bool) (gap : Option Identity) (known : List Operation) (operation : Operation)
        (operations after : List Operation) (site : List ℕ)
        → cond b (operations_after_import known operations) (unless_gap gap
        (operations_after_import (known ++ operation ∷ []) operations)) ≡ Ok after
        → (operations_after_import known operations ≡ Ok after → number_in (table_of known) site
        ≤ number_in (table_of after) site)
        → (operations_after_import (known ++ operation ∷ []) operations ≡ Ok after
        → number_in (table_of (known ++ operation ∷ [])) site ≤ number_in (table_of after) site)
        → number_in (table_of known) site ≤ number_in (table_of after) site
    by_known true gap known operation operations after site is skipped taken = skipped is
    by_known false (Some missing) known operation operations after site is skipped taken = cc is
    by_known false None known operation operations after site is skipped taken =
        let more = known-push known operation site in
        let behind = taken is in
        omega arith

-- the sites with one changed
other-first : (b : Bool) (first site : Site) (sites : List Site) (other : List ℕ) → bytes_eq first.name site.name ≡ b
    → bytes_eq site.name other ≡ false
    → site_in (with_site site sites) other ≡ site_in sites other → site_in (cond b (site ∷ sites) (first ∷ with_site site sites))
    other ≡ site_in (first ∷ sites) other
other-first true first site sites other same differs later =
    let name : first.name ≡ site.name = (bytes_eq-Decides first.name site.name).0 same in
    let first_differs : bytes_eq first.name other ≡ false = ap (λ (n : List ℕ). bytes_eq n other) name ∙ differs in
    ap (λ (b : Bool). cond b (Some site) (site_in sites other)) differs
    ∙ sym (ap (λ (b : Bool). cond b (Some first) (site_in sites other)) first_differs)
other-first false first site sites other same differs later = ap (λ (found : Option Site). cond (bytes_eq first.name other)
    (Some first) found) later

site_in-other : (site : Site) (sites : List Site) (other : List ℕ) → bytes_eq site.name other ≡ false
    → site_in (with_site site sites) other ≡ site_in sites other
site_in-other site [] other differs = refl
site_in-other site (first ∷ sites) other differs =
    other-first (bytes_eq first.name site.name) first site sites other refl differs (site_in-other site sites other differs)

own-first : (b : Bool) (first site old : Site) (sites : List Site) (name : List ℕ) → bytes_eq first.name site.name ≡ b
    → bytes_eq site.name name ≡ true → site_in (first ∷ sites) name ≡ Some old
    → (site_in sites name ≡ Some old → site_in (with_site site sites) name ≡ Some site)
    → site_in (cond b (site ∷ sites) (first ∷ with_site site sites)) name ≡ Some site
own-first true first site old sites name same own found later = ap (λ (b : Bool). cond b (Some site) (site_in sites name)) own
own-first false first site old sites name same own found later =
    let name_is : site.name ≡ name = (bytes_eq-Decides site.name name).0 own in
    let differs : bytes_eq first.name name ≡ false = ap (bytes_eq first.name) (sym name_is) ∙ same in
    ap (λ (b : Bool). cond b (Some first) (site_in (with_site site sites) name)) differs
    ∙ later (sym (ap (λ (b : Bool). cond b (Some first) (site_in sites name)) differs) ∙ found)

site_in-own : (site old : Site) (sites : List Site) (name : List ℕ) → bytes_eq site.name name ≡ true
    → site_in sites name ≡ Some old → site_in (with_site site sites) name ≡ Some site
site_in-own site old [] name own found = cc found
site_in-own site old (first ∷ sites) name own found =
    own-first (bytes_eq first.name site.name) first site old sites name refl own found (site_in-own site old sites name own)

-- a site that was found has the name
found-first : (b : Bool) (first site : Site) (rest : Option Site) (name : List ℕ) → bytes_eq first.name name ≡ b
    → cond b (Some first) rest ≡ Some site
    → (rest ≡ Some site → bytes_eq site.name name ≡ true) → bytes_eq site.name name ≡ true
found-first true first site rest name same found later = let is : first ≡ site = cc found in
    subst (λ (s : Site). bytes_eq s.name name ≡ true) is same
found-first false first site rest name same found later = later found

pub found-name : (sites : List Site) (name : List ℕ) (site : Site) → site_in sites name ≡ Some site
    → bytes_eq site.name name ≡ true
found-name [] name site found = cc found
found-name (first ∷ sites) name site found = found-first (bytes_eq first.name name) first site (site_in sites name) name refl
    found (found-name sites name site)

-- an import, by what it finds
abbrev import_by : World → List ℕ → List ℕ → Option Site → Stepped
import_by world name packet found =
    option_map_or (λ (site : Site). option_map_or (λ (contents : Packet). takes world site contents
    (operations_after_import site.known contents.operations)) (packet_in world.packets packet)
    (refused_step world (NoPacket packet))) found
    (refused_step world (NoSite name))

abbrev import_at : World → List ℕ → Site → Option Packet → Stepped
import_at world packet site found =
    option_map_or (λ (contents : Packet). takes world site contents (operations_after_import site.known contents.operations))
    found (refused_step world (NoPacket packet))

takes-other : (world : World) (site : Site) (contents : Packet) (taken : Result (List Operation) Identity) (other : List ℕ)
    → bytes_eq site.name other ≡ false
    → site_in (takes world site contents taken).world.sites other ≡ site_in world.sites other
takes-other world site contents (Ok known) other differs = site_in-other (site_with site contents known) world.sites other differs
takes-other world site contents (Err gap) other differs = refl

at-other : (world : World) (packet : List ℕ) (site : Site) (found : Option Packet) (other : List ℕ)
    → bytes_eq site.name other ≡ false
    → site_in (import_at world packet site found).world.sites other ≡ site_in world.sites other
at-other world packet site None other differs = refl
at-other world packet site (Some contents) other differs = takes-other world site contents
    (operations_after_import site.known contents.operations) other differs

by-other : (world : World) (name packet : List ℕ) (found : Option Site) (other : List ℕ) → site_in world.sites name ≡ found
    → bytes_eq name other ≡ false
    → site_in (import_by world name packet found).world.sites other ≡ site_in world.sites other
by-other world name packet None other is differs = refl
by-other world name packet (Some site) other is differs =
    let name_is : site.name ≡ name = (bytes_eq-Decides site.name name).0 (found-name world.sites name site is) in
    at-other world packet site (packet_in world.packets packet) other (ap (λ (n : List ℕ). bytes_eq n other) name_is ∙ differs)

pub import-other : (world : World) (name packet other : List ℕ) → bytes_eq name other ≡ false
    → site_in (behind_import world name packet) other ≡ site_in world.sites other
import-other world name packet other differs = by-other world name packet (site_in world.sites name) other refl differs

-- what a site knows is no less
abbrev NoLess : Site → Site → List ℕ → Type 0
NoLess old new site = number_in (table_of old.known) site ≤ number_in (table_of new.known) site

same-no_less : (found : Option Site) (old new : Site) (site : List ℕ) → found ≡ Some old → found ≡ Some new → NoLess old new site
same-no_less found old new site is also = let same : old ≡ new = cc (is, also) in
    subst (λ (s : Site). NoLess old s site) same (omega arith)

takes-own : (world : World) (old new : Site) (contents : Packet) (taken : Result (List Operation) Identity) (name site : List ℕ)
    → operations_after_import old.known contents.operations ≡ taken
    → site_in world.sites name ≡ Some old → site_in (takes world old contents taken).world.sites name ≡ Some new
    → NoLess old new site
takes-own world old new contents (Ok known) name site is found behind =
    let put = site_in-own (site_with old contents known) old world.sites name (found-name world.sites name old found) found in
    let same : site_with old contents known ≡ new = cc (put, behind) in
    subst (λ (s : Site). NoLess old s site) same (taken-rises old.known contents.operations known site is)
takes-own world old new contents (Err gap) name site is found behind =
    same-no_less (site_in world.sites name) old new site found behind

at-own : (world : World) (packet : List ℕ) (old new : Site) (contents : Option Packet) (name site : List ℕ)
    → site_in world.sites name ≡ Some old
    → site_in (import_at world packet old contents).world.sites name ≡ Some new → NoLess old new site
at-own world packet old new None name site found behind = same-no_less (site_in world.sites name) old new site found behind
at-own world packet old new (Some contents) name site found behind = takes-own world old new contents
    (operations_after_import old.known contents.operations) name site refl found behind

pub import-own : (world : World) (name packet site : List ℕ) (old new : Site) → site_in world.sites name ≡ Some old
    → site_in (behind_import world name packet) name ≡ Some new
    → NoLess old new site
import-own world name packet site old new found behind =
    at-own world packet old new (packet_in world.packets packet) name site found
    (subst (λ (f : Option Site). site_in (import_by world name packet f).world.sites name ≡ Some new) found behind)
