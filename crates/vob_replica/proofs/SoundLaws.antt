-- In every world each site knows a part of all that was made; so sites with equal tables know the same.
use Rattle.std.proofs.Common.{inl, inr, ◌≡◌, ℕ, ◌≤◌, Bool, true, false, cond, Option, Some, None, Result, Ok, Err, List, [], ◌∷◌}
use Rattle.std.proofs.Common.{◌++◌, length, map, refl, sym, ap, ◌∙◌, subst, arith}
use Rattle.std.specs.Prelude.{◌&&◌, nat_le, nat_lt, fold}
use Rattle.std.proofs.lemmas.Bool.Decides.{nat_tests}
use Rattle.std.specs.Option.{option_map_or}
use Rattle.std.specs.Str.{bytes_eq}
use Rattle.std.proofs.lemmas.Slice.Eq.{bytes_eq-Decides}
use Rattle.vob_replica.specs.declared.events.Event.{Event}
use Rattle.vob_replica.specs.declared.events.Event.TheVariants as events
use Rattle.vob_replica.specs.declared.events.Identity.{Identity}
use Rattle.vob_replica.specs.declared.operations.Change.{Change}
use Rattle.vob_replica.specs.declared.operations.Change.TheVariants as changes
use Rattle.vob_replica.specs.declared.operations.Operation.{Operation}
use Rattle.vob_replica.specs.declared.operations.SiteFault.{SiteFault}
use Rattle.vob_replica.specs.declared.operations.SiteFault.TheVariants.{NoSite, SiteExists, TooManySites, NoPacket, PacketExists}
use Rattle.vob_replica.specs.declared.operations.Answer.TheVariants.{Done}
use Rattle.vob_replica.specs.Replicas.{Site, Packet, new_site, thinking, packet_for, change_fault, site_made, site_with}
use Rattle.vob_replica.specs.Replicas.{operations_after_import, estimate_in}
use Rattle.vob_replica.specs.Showing.{known_lines, show_text}
use Rattle.vob_replica.specs.Tables.{holds, number_in, with_operation, identity_of, table_of, Ascends}
use Rattle.vob_replica.specs.Trees.{Tree, VersionMade, tree_at, trees_of, master_of}
use Rattle.vob_replica.specs.World.{World, Sent, Stepped, no_sites, site_in, packet_in, with_site, refused_step, done_step}
use Rattle.vob_replica.specs.World.{unless_fault, makes, sends, takes, step, world_behind, world_of}
use Rattle.vob_replica.specs.Laws.{HasVersion, IsIn, KnowTheSame}
use Rattle.vob_replica.proofs.GrowthLaws.{grown, name-once, version-once}
use Rattle.vob_replica.proofs.HistoryLaws.{Made, IsMade, kept, operations_of, table_behind}
use Rattle.vob_replica.proofs.HoldLaws.{holds-from, more-within, other-number, own-number}
use Rattle.vob_replica.proofs.ImportLaws.{found-name, ascends_of, taken-rises}
use Rattle.vob_replica.proofs.KnowLaws.{Knows, AreMade, knows-import, are-above, table_behind-push}
use Rattle.vob_replica.proofs.MakeLaws.{IsMadeSo, IsSite, AreSites, HasNone, HaveOwnNames, made_now, made-so, sites-now}
use Rattle.vob_replica.proofs.MasterLaws.{branch-is}
use Rattle.vob_replica.proofs.TableLaws.{Ascends-with_operation}

-- each packet carries what was made
abbrev pub ArePackets : List Made → List Sent → Type 0
ArePackets made [] = Unit {0}
ArePackets made (sent ∷ others) = AreMade sent.packet.operations made × ArePackets made others

-- all that was made in a world, what each site knows of it, and what the packets carry; who is not there made nothing
pub record IsWorldOf (made : List Made) (world : World) : Type 0 where
  pub so : IsMadeSo made
  pub apart : HaveOwnNames world.sites
  pub sites : AreSites made world.sites
  pub packets : ArePackets made world.packets
  pub none : (name : List ℕ) → site_in world.sites name ≡ None → number_in (table_behind made) name ≡ 0

pub record IsSound (world : World) : Type 0 where
  pub made : List Made
  pub is : IsWorldOf made world

site-first : (b : Bool) (made : List Made) (first : Site) (rest : Option Site) (site : Site) → IsSite made first
    → (rest ≡ Some site → IsSite made site) → cond b (Some first) rest ≡ Some site → IsSite made site
site-first true made first rest site is later found = let same : first ≡ site = cc found in subst (IsSite made) same is
site-first false made first rest site is later found = later found

-- the site of a name
pub site-of : (made : List Made) (sites : List Site) (name : List ℕ) (site : Site) → AreSites made sites
    → site_in sites name ≡ Some site → IsSite made site
site-of made [] name site are found = cc found
site-of made (first ∷ sites) name site are found =
    site-first (bytes_eq first.name name) made first (site_in sites name) site are.0 (site-of made sites name site are.1) found

packet-first : (b : Bool) (made : List Made) (first packet : Packet) (rest : Option Packet) → AreMade first.operations made
    → (rest ≡ Some packet → AreMade packet.operations made)
    → cond b (Some first) rest ≡ Some packet → AreMade packet.operations made
packet-first true made first packet rest are later found = let same : first ≡ packet = cc found in
    subst (λ (p : Packet). AreMade p.operations made) same are
packet-first false made first packet rest are later found = later found

packet-of : (made : List Made) (sents : List Sent) (name : List ℕ) (packet : Packet) → ArePackets made sents
    → packet_in sents name ≡ Some packet → AreMade packet.operations made
packet-of made [] name packet are found = cc found
packet-of made (sent ∷ sents) name packet are found =
    packet-first (bytes_eq sent.name name) made sent.packet packet (packet_in sents name) are.0
    (packet-of made sents name packet are.1) found

-- a site takes the place of the one of its name, and no name comes or goes
none-still : (site : Site) (sites : List Site) (name : List ℕ) → site_in (with_site site sites) name ≡ None
    → site_in sites name ≡ None
none-still site [] name none = refl
none-still site (first ∷ sites) name none = by (bytes_eq first.name site.name) refl none (none-still site sites name)
  where
    deeper : (c : Bool) → cond c (Some first) (site_in (with_site site sites) name) ≡ None
        → (site_in (with_site site sites) name ≡ None → site_in sites name ≡ None)
        → cond c (Some first) (site_in sites name) ≡ None
    deeper true none later = cc none
    deeper false none later = later none

    first-of : (c : Bool) → bytes_eq site.name name ≡ c → first.name ≡ site.name → cond c (Some site) (site_in sites name) ≡ None
        → site_in (first ∷ sites) name ≡ None
    first-of true same is none = cc none
    first-of false lacks is none =
        ap (λ (c : Bool). cond c (Some first) (site_in sites name)) (ap (λ (n : List ℕ). bytes_eq n name) is ∙ lacks) ∙ none

    by : (b : Bool) → bytes_eq first.name site.name ≡ b → site_in (cond b (site ∷ sites) (first ∷ with_site site sites)) name
        ≡ None
        → (site_in (with_site site sites) name ≡ None → site_in sites name ≡ None) → site_in (first ∷ sites) name ≡ None
    by true same none later = first-of (bytes_eq site.name name) refl ((bytes_eq-Decides first.name site.name).0 same) none
    by false differs none later = deeper (bytes_eq first.name name) none later

with-same : (made : List Made) (site : Site) (sites : List Site) → IsSite made site → AreSites made sites
    → AreSites made (with_site site sites)
with-same made site [] is are = tt
with-same made site (first ∷ sites) is are = by (bytes_eq first.name site.name) (with-same made site sites is are.1)
  where
    by : (b : Bool) → AreSites made (with_site site sites) → AreSites made (cond b (site ∷ sites) (first ∷ with_site site sites))
    by true later = (is, are.1)
    by false later = (are.0, later)

has-with : (name : List ℕ) (site : Site) (sites : List Site) → HasNone name sites → HasNone name (with_site site sites)
has-with name site [] none = tt
has-with name site (first ∷ sites) none = by (bytes_eq first.name site.name) refl (has-with name site sites none.1)
  where
    by : (b : Bool) → bytes_eq first.name site.name ≡ b → HasNone name (with_site site sites)
        → HasNone name (cond b (site ∷ sites) (first ∷ with_site site sites))
    by true same later = (
      ap (λ (n : List ℕ). bytes_eq n name) (sym ((bytes_eq-Decides first.name site.name).0 same))
          ∙ none.0,
      none.1,
    )
    by false differs later = (none.0, later)

-- names stay apart
apart-with : (site : Site) (sites : List Site) → HaveOwnNames sites → HaveOwnNames (with_site site sites)
apart-with site [] apart = tt
apart-with site (first ∷ sites) apart = by (bytes_eq first.name site.name) refl (apart-with site sites apart.1)
  where
    by : (b : Bool) → bytes_eq first.name site.name ≡ b → HaveOwnNames (with_site site sites)
        → HaveOwnNames (cond b (site ∷ sites) (first ∷ with_site site sites))
    by true same later = (
      subst (λ (n : List ℕ). HasNone n sites) ((bytes_eq-Decides first.name site.name).0 same) apart.0,
      apart.1,
    )
    by false differs later = (has-with first.name site sites apart.0, later)

has-push : (name : List ℕ) (sites : List Site) (site : Site) → HasNone name sites → bytes_eq site.name name ≡ false
    → HasNone name (sites ++ site ∷ [])
has-push name [] site none differs = (differs, tt)
has-push name (first ∷ sites) site none differs = (none.0, has-push name sites site none.1 differs)

turn-by : (b : Bool) (x y : List ℕ) → bytes_eq y x ≡ b → bytes_eq x y ≡ false → b ≡ false
turn-by true x y same differs =
    let back : bytes_eq x y ≡ true = (bytes_eq-Decides x y).1 (sym ((bytes_eq-Decides y x).0 same)) in
    cc (back, differs)
turn-by false x y is differs = refl

apart-push : (sites : List Site) (site : Site) → HaveOwnNames sites → site_in sites site.name ≡ None
    → HaveOwnNames (sites ++ site ∷ [])
apart-push [] site apart none = (tt, tt)
apart-push (first ∷ sites) site apart none = by (bytes_eq first.name site.name) refl none (apart-push sites site apart.1)
  where
    by : (b : Bool) → bytes_eq first.name site.name ≡ b → cond b (Some first) (site_in sites site.name) ≡ None
        → (site_in sites site.name ≡ None → HaveOwnNames (sites ++ site ∷ [])) → HaveOwnNames (first ∷ sites ++ site ∷ [])
    by true same none later = cc none
    by false differs none later = (
      has-push first.name sites site apart.0 (turn-by (bytes_eq site.name first.name) first.name site.name refl differs),
      later none,
    )

-- one site is changed, and nothing is made
sound-same : (made : List Made) (world : World) (site : Site) → IsWorldOf made world → IsSite made site
    → IsWorldOf made (record world { sites = with_site site world.sites })
sound-same made world site is at = record {
  so = is.so;
  apart = apart-with site world.sites is.apart;
  sites = with-same made site world.sites at is.sites;
  packets = is.packets;
  none = λ name none. is.none name (none-still site world.sites name none);
}

are-still : (operations : List Operation) (made : List Made) (m : Made) → AreMade operations made
    → AreMade operations (made ++ m ∷ [])
are-still [] made m are = tt
are-still (operation ∷ others) made m are = (made-still operation made m are.0, are-still others made m are.1)
  where
    made-still : (operation : Operation) (made : List Made) (m : Made) → IsMade operation made → IsMade operation (made ++ m ∷ [])
    made-still operation [] m is = absurd is
    made-still operation (x ∷ made) m (inl here) = inl here
    made-still operation (x ∷ made) m (inr is) = inr (made-still operation made m is)

packets-still : (made : List Made) (m : Made) (sents : List Sent) → ArePackets made sents → ArePackets (made ++ m ∷ []) sents
packets-still made m [] are = tt
packets-still made m (sent ∷ sents) are = (are-still sent.packet.operations made m are.0, packets-still made m sents are.1)

packets-push : (made : List Made) (sents : List Sent) (sent : Sent) → ArePackets made sents → AreMade sent.packet.operations made
    → ArePackets made (sents ++ sent ∷ [])
packets-push made [] sent are is = (is, tt)
packets-push made (first ∷ sents) sent are is = (are.0, packets-push made sents sent are.1 is)

-- a site makes a change
sound-made : (fault : Option SiteFault) (world : World) (site : Site) (name : List ℕ) (change : Change) (sound : IsSound world)
    → site_in world.sites name ≡ Some site
    → change_fault site.name (trees_of site.known) change ≡ fault → IsSound (unless_fault fault world site change).world
sound-made (Some fault) world site name change sound found faults = sound
sound-made None world site name change sound found none =
    let made = sound.made in
    let known = site-of made world.sites name site sound.is.sites found in
    let m = made_now made sound.is.so site known change none in
    let site_name : site.name ≡ name = (bytes_eq-Decides site.name name).0 (found-name world.sites name site found) in
    record {
      made = made ++ m ∷ [];
      is = record {
        so = made-so made sound.is.so site known change none;
        apart = apart-with (site_made site change) world.sites sound.is.apart;
        sites = sites-now made sound.is.so site known change none world.sites sound.is.apart sound.is.sites;
        packets = packets-still made m world.packets sound.is.packets;
        none = λ other gone.
            let before = none-still (site_made site change) world.sites other gone in
            ap (λ (t : List Identity). number_in t other) (table_behind-push made m)
            ∙ other-number (table_behind made) m.operation.identity other (ascends_of (operations_of made))
            (differs site_name other before)
            ∙ sound.is.none other before;
      };
    }
  where
    differs : site.name ≡ name → (other : List ℕ) → site_in world.sites other ≡ None → bytes_eq site.name other ≡ false
    differs site_name other gone = by (bytes_eq site.name other) refl
      where
        by : (b : Bool) → bytes_eq site.name other ≡ b → b ≡ false
        by true same =
            let is : name ≡ other = sym site_name ∙ (bytes_eq-Decides site.name other).0 same in
            let there : site_in world.sites other ≡ Some site = subst (λ (n : List ℕ). site_in world.sites n ≡ Some site) is found
            in
            cc (there, gone)
        by false lacks = refl

-- what happens at a site of a name, where there is one
at : (P : Stepped → Type 0) (world : World) (name : List ℕ) (act : Site → Stepped)
    → ((fault : SiteFault) → P (refused_step world fault))
    → ((site : Site) → site_in world.sites name ≡ Some site → P (act site))
    → P (option_map_or act (site_in world.sites name) (refused_step world (NoSite name)))
at P world name act refused acts = by (site_in world.sites name) refl
  where
    by : (found : Option Site) → site_in world.sites name ≡ found → P (option_map_or act found (refused_step world (NoSite name)))
    by None is = refused (NoSite name)
    by (Some site) is = acts site is

-- the world after it is sound
abbrev Sounds : Stepped → Type 0
Sounds stepped = IsSound stepped.world

sound-makes : (world : World) (name : List ℕ) (change : Change) → IsSound world → IsSound (makes world name change).world
sound-makes world name change sound =
    at Sounds world name (λ (site : Site). unless_fault (change_fault site.name (trees_of site.known) change) world site change)
    (λ fault. sound)
    (λ site found. sound-made (change_fault site.name (trees_of site.known) change) world site name change sound found refl)

kept-none : (made : List Made) → kept [] made ≡ []
kept-none [] = refl
kept-none (m ∷ made) = ap (λ (b : Bool). cond b (m.operation ∷ kept [] made) (kept [] made)) (lacks m.operation.identity.number)
    ∙ kept-none made
  where
    lacks : (n : ℕ) → nat_lt 0 n && nat_le n 0 ≡ false
    lacks n = grind (arith, nat_tests)

knows-nothing : (made : List Made) → Knows made []
knows-nothing made = record {
  trees = sym (ap trees_of (kept-none made));
  are = tt;
  all = λ o is has. absurd (none o has);
  closed = λ o is has. absurd (none o has);
  within = λ site. omega arith;
  held = λ branch tree found. cc found;
}
  where
    none-by : (n : ℕ) → nat_lt 0 n && nat_le n 0 ≡ true → ⊥
    none-by n is = grind (arith, nat_tests)

    none : (o : Operation) → holds [] o.identity ≡ true → ⊥
    none o has = none-by o.identity.number has

none-push : (sites : List Site) (site : Site) (name : List ℕ) → site_in (sites ++ site ∷ []) name ≡ None
    → site_in sites name ≡ None
none-push [] site name none = refl
none-push (first ∷ sites) site name none = by (bytes_eq first.name name) none (none-push sites site name)
  where
    by : (b : Bool) → cond b (Some first) (site_in (sites ++ site ∷ []) name) ≡ None
        → (site_in (sites ++ site ∷ []) name ≡ None → site_in sites name ≡ None)
        → cond b (Some first) (site_in sites name) ≡ None
    by true none later = cc none
    by false none later = later none

sites-push : (made : List Made) (sites : List Site) (site : Site) → AreSites made sites → IsSite made site
    → AreSites made (sites ++ site ∷ [])
sites-push made [] site are is = (is, tt)
sites-push made (first ∷ sites) site are is = (are.0, sites-push made sites site are.1 is)

sound-new : (world : World) (name : List ℕ) → IsSound world → site_in world.sites name ≡ None
    → IsSound (record world { sites = world.sites ++ new_site name ∷ [] })
sound-new world name sound none = record {
  made = sound.made;
  is = record {
    so = sound.is.so;
    apart = apart-push world.sites (new_site name) sound.is.apart none;
    sites = sites-push sound.made world.sites (new_site name) sound.is.sites
        (record { knows = knows-nothing sound.made; own = sym (sound.is.none name none) });
    packets = sound.is.packets;
    none = λ other gone. sound.is.none other (none-push world.sites (new_site name) other gone);
  };
}

sound-site : (world : World) (name : List ℕ) → IsSound world → IsSound (step world (events.Site name)).world
sound-site world name sound = by (site_in world.sites name) refl
  where
    full : (b : Bool) → site_in world.sites name ≡ None → IsSound (cond b (refused_step world TooManySites)
        (record {
          world = record { sites = world.sites ++ new_site name ∷ []; packets = world.packets };
          answer = Done [];
        })).world
    full true none = sound
    full false none = sound-new world name sound none

    by : (found : Option Site) → site_in world.sites name ≡ found
        → IsSound (option_map_or (λ (_ : Site). refused_step world (SiteExists name)) found
        (cond (nat_lt 63 (length world.sites)) (refused_step world TooManySites)
        (record {
          world = record { sites = world.sites ++ new_site name ∷ []; packets = world.packets };
          answer = Done [];
        }))).world
    by None none = full (nat_lt 63 (length world.sites)) none
    by (Some site) found = sound

sound-thinking : (world : World) (site : Site) (name to : List ℕ) (table : List Identity) (sound : IsSound world)
    → site_in world.sites name ≡ Some site
    → IsWorldOf sound.made (record world { sites = with_site (thinking site to table) world.sites })
sound-thinking world site name to table sound found =
    let known = site-of sound.made world.sites name site sound.is.sites found in
    sound-same sound.made world (thinking site to table) sound.is (record { knows = known.knows; own = known.own })

sound-sends : (world : World) (site : Site) (name to packet : List ℕ) → IsSound world → site_in world.sites name ≡ Some site
    → IsSound (sends world site to packet).world
sound-sends world site name to packet sound found =
    let known = site-of sound.made world.sites name site sound.is.sites found in
    let same = sound-thinking world site name to (table_of site.known) sound found in
    record {
      made = sound.made;
      is = record {
        so = same.so;
        apart = same.apart;
        sites = same.sites;
        packets = packets-push sound.made world.packets (record { name = packet; packet = packet_for site to }) sound.is.packets
            (are-above (estimate_in site.estimates to) site.known sound.made known.knows.are);
        none = same.none;
      };
    }

sound-export : (world : World) (name to packet : List ℕ) → IsSound world
    → IsSound (step world (events.Export name to packet)).world
sound-export world name to packet sound =
    at Sounds world name (λ (site : Site). option_map_or (λ (_ : Site). option_map_or
    (λ (_ : Packet). refused_step world (PacketExists packet)) (packet_in world.packets packet) (sends world site to packet))
    (site_in world.sites to) (refused_step world (NoSite to))) (λ fault. sound)
    (λ site found. at Sounds world to (λ (_ : Site). option_map_or (λ (_ : Packet). refused_step world (PacketExists packet))
    (packet_in world.packets packet) (sends world site to packet)) (λ fault. sound)
    (λ _ _. by site found (packet_in world.packets packet)))
  where
    by : (site : Site) → site_in world.sites name ≡ Some site → (old : Option Packet)
        → IsSound (option_map_or (λ (_ : Packet). refused_step world (PacketExists packet)) old
        (sends world site to packet)).world
    by site found None = sound-sends world site name to packet sound found
    by site found (Some old) = sound

sound-takes : (taken : Result (List Operation) Identity) (world : World) (site : Site) (name : List ℕ) (contents : Packet)
    (sound : IsSound world) → site_in world.sites name ≡ Some site
    → AreMade contents.operations sound.made → operations_after_import site.known contents.operations ≡ taken
    → IsSound (takes world site contents taken).world
sound-takes (Err missing) world site name contents sound found are is = sound
sound-takes (Ok known) world site name contents sound found are is = record {
  made = sound.made;
  is = sound-same sound.made world (site_with site contents known) sound.is (record {
    knows = knows-import sound.made site.known contents.operations known here.knows sound.is.so.paired sound.is.so.next are is;
    own = own;
  });
}
  where
    here : IsSite sound.made site
    here = site-of sound.made world.sites name site sound.is.sites found

    knows-now : Knows sound.made known
    knows-now = knows-import sound.made site.known contents.operations known here.knows sound.is.so.paired sound.is.so.next are is

    own : number_in (table_of known) site.name ≡ number_in (table_behind sound.made) site.name
    own =
        let least = taken-rises site.known contents.operations known site.name is in
        let most = knows-now.within site.name in
        let before = here.own in
        omega (arith, least, most, before)

sound-import : (world : World) (name packet : List ℕ) → IsSound world → IsSound (step world (events.Import name packet)).world
sound-import world name packet sound =
    at Sounds world name
    (λ (site : Site). option_map_or (λ (contents : Packet). takes world site contents
    (operations_after_import site.known contents.operations)) (packet_in world.packets packet)
    (refused_step world (NoPacket packet)))
    (λ fault. sound) (λ site found. by site found (packet_in world.packets packet) refl)
  where
    by : (site : Site) → site_in world.sites name ≡ Some site → (contents : Option Packet)
        → packet_in world.packets packet ≡ contents
        → IsSound (option_map_or (λ (p : Packet). takes world site p (operations_after_import site.known p.operations)) contents
        (refused_step world (NoPacket packet))).world
    by site found None none = sound
    by site found (Some contents) is =
        sound-takes (operations_after_import site.known contents.operations) world site name contents sound found
        (packet-of sound.made world.packets packet contents sound.is.packets is) refl

sound-recover : (world : World) (name to : List ℕ) → IsSound world → IsSound (step world (events.Recover name to)).world
sound-recover world name to sound =
    at Sounds world name (λ (from : Site). option_map_or (λ (_ : Site). done_step world (thinking from to []) [])
    (site_in world.sites to) (refused_step world (NoSite to))) (λ fault. sound)
    (λ site found. at Sounds world to (λ (_ : Site). done_step world (thinking site to []) []) (λ fault. sound)
    (λ _ _. record { made = sound.made; is = sound-thinking world site name to [] sound found }))

sound-chmaster : (world : World) (name to : List ℕ) (branch : Identity) → IsSound world
    → IsSound (step world (events.Chmaster name branch to)).world
sound-chmaster world name to branch sound =
    at Sounds world name (λ (_ : Site). option_map_or (λ (_ : Site). makes world name (changes.Master branch to))
    (site_in world.sites to) (refused_step world (NoSite to))) (λ fault. sound)
    (λ _ _. at Sounds world to (λ (_ : Site). makes world name (changes.Master branch to)) (λ fault. sound)
    (λ _ _. sound-makes world name (changes.Master branch to) sound))

sound-show : (world : World) (name : List ℕ) → IsSound world → IsSound (step world (events.Show name)).world
sound-show world name sound = by (site_in world.sites name)
  where
    by : (found : Option Site) → IsSound (option_map_or (λ (from : Site). record {
      world = world;
      answer = Done (show_text from);
    }) found (refused_step world (NoSite name))).world
    by None = sound
    by (Some from) = sound

-- each event leaves a sound world
sound-step : (world : World) (event : Event) → IsSound world → IsSound (step world event).world
sound-step world (events.Site site) sound = sound-site world site sound
sound-step world (events.Mkelem site) sound = sound-makes world site changes.Element sound
sound-step world (events.Mkbranch site branch number name) sound = sound-makes world site (changes.Branch branch number name)
    sound
sound-step world (events.Checkin site branch word) sound = sound-makes world site (changes.Version branch word) sound
sound-step world (events.Chmaster site branch to) sound = sound-chmaster world site to branch sound
sound-step world (events.Export site to packet) sound = sound-export world site to packet sound
sound-step world (events.Import site packet) sound = sound-import world site packet sound
sound-step world (events.Recover site to) sound = sound-recover world site to sound
sound-step world (events.Show site) sound = sound-show world site sound

sound-behind : (world : World) (events : List Event) → IsSound world → IsSound (world_behind world events)
sound-behind world [] sound = sound
sound-behind world (event ∷ events) sound = sound-behind (step world event).world events (sound-step world event sound)

sound-none : IsSound no_sites
sound-none = record {
  made = [];
  is = record {
    so = record { paired = tt; legal = tt; next = λ o is. absurd is; held = tt };
    apart = tt;
    sites = tt;
    packets = tt;
    none = λ name none. refl;
  };
}

-- every world is sound
pub sound : (events : List Event) → IsSound (world_of events)
sound events = sound-behind no_sites events sound-none

-- what is known is held by its own table
number-from : (table : List Identity) (known : List Operation) (operation : Operation) → Ascends table → IsIn operation known
    → operation.identity.number ≤ number_in (fold with_operation table (map identity_of known)) operation.identity.site
number-from table [] operation ascends is = absurd is
number-from table (first ∷ known) operation ascends (inl here) =
    let own = own-number table first.identity in
    let later = number-within (with_operation table first.identity) known first.identity.site
    (Ascends-with_operation table first.identity ascends) in
    subst (λ (o : Operation). o.identity.number ≤ number_in (fold with_operation table (map identity_of (first ∷ known)))
    o.identity.site) (sym here) (omega (arith, own, later))
  where
    number-within : (table : List Identity) (known : List Operation) (site : List ℕ) → Ascends table
        → number_in table site ≤ number_in (fold with_operation table (map identity_of known)) site
    number-within table [] site ascends = omega arith
    number-within table (first ∷ known) site ascends =
        let one = more-within table first.identity ascends site in
        let two = number-within (with_operation table first.identity) known site
        (Ascends-with_operation table first.identity ascends) in
        omega (arith, one, two)
number-from table (first ∷ known) operation ascends (inr is) = number-from (with_operation table first.identity) known operation
    (Ascends-with_operation table first.identity ascends) is

pub are-in : (known : List Operation) (made : List Made) (operation : Operation) → AreMade known made → IsIn operation known
    → IsMade operation made
are-in [] made operation are is = absurd is
are-in (first ∷ known) made operation are (inl here) = subst (λ (o : Operation). IsMade o made) (sym here) are.0
are-in (first ∷ known) made operation are (inr is) = are-in known made operation are.1 is

also-known : (made : List Made) (here there : List Operation) → IsMadeSo made → Knows made here → Knows made there
    → table_of here ≡ table_of there
    → (operation : Operation) → IsIn operation here → IsIn operation there
also-known made here there so knows also same operation is =
    let was = are-in here made operation knows.are is in
    let next = so.next operation was in
    let within = number-from [] here operation tt is in
    let has : holds (table_of here) operation.identity ≡ true = holds-from (table_of here) operation.identity
    (omega (arith, next)) within in
    also.all operation was (ap (λ (t : List Identity). holds t operation.identity) (sym same) ∙ has)

-- sites with equal tables know the same and show the same
pub know-the-same : (events : List Event) (one other : List ℕ) (here there : Site)
    → site_in (world_of events).sites one ≡ Some here → site_in (world_of events).sites other ≡ Some there
    → table_of here.known ≡ table_of there.known → KnowTheSame here there
know-the-same events one other here there found also same =
    let all = sound events in
    let knows = site-of all.made (world_of events).sites one here all.is.sites found in
    let holds = site-of all.made (world_of events).sites other there all.is.sites also in
    let trees : trees_of here.known ≡ trees_of there.known =
    knows.knows.trees ∙ ap (λ (t : List Identity). trees_of (kept t all.made)) same ∙ sym holds.knows.trees in
    record {
      operations = λ operation. (
        also-known all.made here.known there.known all.is.so knows.knows holds.knows same operation,
        also-known all.made there.known here.known all.is.so holds.knows knows.knows (sym same) operation,
      );
      branches = trees;
      text = ap (λ (t : List Identity). known_lines t (trees_of here.known)) same ∙ ap (known_lines (table_of there.known)) trees;
    }

some-tree : {t u : Tree} → Some t ≡ Some u → t ≡ u
some-tree is = cc is

-- at most one site holds itself master of a branch
pub one-master : (events : List Event) (one other : List ℕ) (here there : Site) (branch : Identity) (tree also : Tree)
    → site_in (world_of events).sites one ≡ Some here
    → site_in (world_of events).sites other ≡ Some there → tree_at (trees_of here.known) branch ≡ Some tree
    → tree_at (trees_of there.known) branch ≡ Some also
    → master_of tree ≡ here.name → master_of also ≡ there.name → here.name ≡ there.name
one-master events one other here there branch tree also found too has had master owner =
    let all = sound events in
    let knows = site-of all.made (world_of events).sites one here all.is.sites found in
    let holds = site-of all.made (world_of events).sites other there all.is.sites too in
    let first = branch-is all.made here.known knows.knows all.is.so.next here.name knows.own branch tree has master
    all.is.so.paired all.is.so.legal in
    let second = branch-is all.made there.known holds.knows all.is.so.next there.name holds.own branch also had owner
    all.is.so.paired all.is.so.legal in
    sym master ∙ ap master_of (some-tree (sym first ∙ second)) ∙ owner

-- each number of a branch was made once
pub versions-once : (events : List Event) (one other : List ℕ) (here there : Site) (branch : Identity) (tree also : Tree)
    → site_in (world_of events).sites one ≡ Some here
    → site_in (world_of events).sites other ≡ Some there → tree_at (trees_of here.known) branch ≡ Some tree
    → tree_at (trees_of there.known) branch ≡ Some also
    → (version second : VersionMade) → HasVersion version tree.versions → HasVersion second also.versions
    → version.number ≡ second.number → version ≡ second
versions-once events one other here there branch tree also found too has had version second stands stood same =
    let all = sound events in
    let knows = site-of all.made (world_of events).sites one here all.is.sites found in
    let holds = site-of all.made (world_of events).sites other there all.is.sites too in
    let first = grown all.made here.known branch tree knows.knows all.is.so.paired has in
    let next = grown all.made there.known branch also holds.knows all.is.so.paired had in
    let is : next.now ≡ first.now = some-tree (sym next.found ∙ first.found) in
    version-once all.made all.is.so.legal branch first.now version second first.found (first.versions version stands)
    (subst (λ (t : Tree). HasVersion second t.versions) is (next.versions second stood)) same

-- each name on an element was made once
pub names-once : (events : List Event) (one other : List ℕ) (here there : Site) (branch second : Identity) (tree also : Tree)
    → site_in (world_of events).sites one ≡ Some here
    → site_in (world_of events).sites other ≡ Some there → tree_at (trees_of here.known) branch ≡ Some tree
    → tree_at (trees_of there.known) second ≡ Some also
    → tree.element ≡ also.element → tree.name ≡ also.name → branch ≡ second
names-once events one other here there branch second tree also found too has had same named =
    let all = sound events in
    let knows = site-of all.made (world_of events).sites one here all.is.sites found in
    let holds = site-of all.made (world_of events).sites other there all.is.sites too in
    let first = grown all.made here.known branch tree knows.knows all.is.so.paired has in
    let next = grown all.made there.known second also holds.knows all.is.so.paired had in
    name-once all.made all.is.so.legal branch second first.now next.now first.found next.found (first.element ∙ same
    ∙ sym next.element) (first.name ∙ named ∙ sym next.name)
