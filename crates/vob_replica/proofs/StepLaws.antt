-- What an event comes to, by what the call of its site comes to.
use Rattle.std.proofs.Common.{◌≡◌, ℕ, ◌<◌, Bool, true, false, cond, Option, Some, None, Result, Ok, Err, List, [], ◌∷◌, ◌++◌}
use Rattle.std.proofs.Common.{length, get_or, set, refl, sym, ap, ◌∙◌, subst}
use Rattle.std.specs.Prelude.{IfOk, OnOk, IfSome, IfNone, is_some, nat_lt}
use Rattle.std.specs.Option.{option_map_or}
use Rattle.std.specs.Fmt.{decimal}
use Rattle.std.specs.Str.{bytes_eq}
use Rattle.std.proofs.lemmas.Slice.Eq.{bytes_eq-Decides}
use Rattle.vob_replica.specs.declared.events.Identity.{Identity}
use Rattle.vob_replica.specs.declared.operations.Answer.{Answer}
use Rattle.vob_replica.specs.declared.operations.Answer.TheVariants.{Done, Refused}
use Rattle.vob_replica.specs.declared.operations.Change.{Change}
use Rattle.vob_replica.specs.declared.operations.Change.TheVariants as changes
use Rattle.vob_replica.specs.declared.operations.Operation.{Operation}
use Rattle.vob_replica.specs.declared.operations.SiteFault.{SiteFault}
use Rattle.vob_replica.specs.declared.operations.SiteFault.TheVariants.{NoSite, NoPacket, PacketExists, SiteExists, TooManySites}
use Rattle.vob_replica.specs.Replicas.{Site, Packet, new_site, made, made_unless, site_made, operation_by, change_fault}
use Rattle.vob_replica.specs.Replicas.{imported, imported_with, operations_after_import, site_with, packet_for, thinking}
use Rattle.vob_replica.specs.Sites.{place_in, identity_answer, number_answer}
use Rattle.vob_replica.specs.Showing.{identity_text, show_text}
use Rattle.vob_replica.specs.Tables.{table_of}
use Rattle.vob_replica.specs.Trees.{trees_of}
use Rattle.vob_replica.specs.World.{World, Sent, Stepped, site_in, packet_in, with_site, refused_step, done_step, unless_fault}
use Rattle.vob_replica.specs.World.{makes, takes, sends, export_step, import_step, recover_step, show_step, chmaster_step}
use Rattle.vob_replica.specs.World.{site_step}
use Rattle.vob_replica.proofs.SiteLaws.{site_in-there, with_site-there, set-same}

-- a site that was found has the name
found-by : (b : Bool) (first site : Site) (rest : Option Site) (name : List ℕ) → bytes_eq first.name name ≡ b
    → cond b (Some first) rest ≡ Some site
    → (rest ≡ Some site → site.name ≡ name) → site.name ≡ name
found-by true first site rest name same found later = let is : first ≡ site = cc found in
    subst (λ (s : Site). s.name ≡ name) is ((bytes_eq-Decides first.name name).0 same)
found-by false first site rest name same found later = later found

found-name : (sites : List Site) (name : List ℕ) (site : Site) → site_in sites name ≡ Some site → site.name ≡ name
found-name [] name site found = cc found
found-name (first ∷ sites) name site found = found-by (bytes_eq first.name name) first site (site_in sites name) name refl found
    (found-name sites name site)

module _ (sites : List Site) (packets : List Sent) (name : List ℕ) (place : ℕ) (d : Site) (at : place ≡ place_in name sites)
    (within : place < length sites) where
  abbrev world : World
  world = record { sites = sites; packets = packets }

  abbrev here : Site
  here = get_or sites place d

  abbrev after : List Site → Answer → Stepped
  after sites' answer = record { world = record { sites = sites'; packets = packets }; answer = answer }

  pub found-here : site_in sites name ≡ Some here
  found-here =
      site_in-there name sites d (subst (λ (p : ℕ). p < length sites) at within)
      ∙ ap (λ (p : ℕ). Some (get_or sites p d)) (sym at)

  pub name-here : here.name ≡ name
  name-here = found-name sites name here found-here

  -- the site in its place
  pub set-here : (site : Site) → site.name ≡ here.name → with_site site sites ≡ set sites place site
  set-here site same =
      with_site-there name site sites (same ∙ name-here) (subst (λ (p : ℕ). p < length sites) at within)
      ∙ ap (λ (p : ℕ). set sites p site) (sym at)

  made-by : (fault : Option SiteFault) (change : Change) (answer : Answer) (sites' : List Site)
      → answer ≡ identity_answer (made_unless fault here change).0
      → sites' ≡ set sites place (made_unless fault here change).1 → unless_fault fault world here change ≡ after sites' answer
  made-by (Some fault) change answer sites' answers leaves =
      ap (λ (l : List Site). after l (Refused fault)) (sym (leaves ∙ set-same sites place d)) ∙ ap (after sites') (sym answers)
  made-by None change answer sites' answers leaves =
      ap (λ (l : List Site). after l (Done (identity_text (operation_by here change).identity)))
      (set-here (site_made here change) refl ∙ sym leaves)
      ∙ ap (after sites') (sym answers)

  -- a site makes a change
  pub makes-here : (change : Change) (answer : Answer) (sites' : List Site) → answer ≡ identity_answer (made here change).0
      → sites' ≡ set sites place (made here change).1
      → makes world name change ≡ after sites' answer
  makes-here change answer sites' answers leaves =
      ap (λ (f : Option Site). option_map_or (λ (site : Site). unless_fault (change_fault site.name (trees_of site.known) change)
      world site change) f (refused_step world (NoSite name))) found-here
      ∙ made-by (change_fault here.name (trees_of here.known) change) change answer sites' answers leaves

  taken-by : (taken : Result (List Operation) Identity) (packet : Packet) (answer : Answer) (sites' : List Site)
      → answer ≡ number_answer (imported_with taken here packet).0
      → sites' ≡ set sites place (imported_with taken here packet).1 → takes world here packet taken ≡ after sites' answer
  taken-by (Err missing) packet answer sites' answers leaves =
      ap (λ (l : List Site). after l (number_answer (imported_with (Err missing) here packet).0)) (sym (leaves
      ∙ set-same sites place d)) ∙ ap (after sites') (sym answers)
  taken-by (Ok known) packet answer sites' answers leaves =
      ap (λ (l : List Site). after l (number_answer (imported_with (Ok known) here packet).0))
      (set-here (site_with here packet known) refl ∙ sym leaves)
      ∙ ap (after sites') (sym answers)

  -- a site takes a packet in
  pub imports-here : (packet : List ℕ) (contents : Packet) (answer : Answer) (sites' : List Site)
      → packet_in packets packet ≡ Some contents
      → answer ≡ number_answer (imported here contents).0 → sites' ≡ set sites place (imported here contents).1
      → import_step world name packet ≡ after sites' answer
  imports-here packet contents answer sites' found answers leaves =
      ap (λ (f : Option Site). option_map_or (λ (site : Site). option_map_or
      (λ (p : Packet). takes world site p (operations_after_import site.known p.operations)) (packet_in packets packet)
      (refused_step world (NoPacket packet))) f (refused_step world (NoSite name))) found-here
      ∙ ap (λ (f : Option Packet). option_map_or (λ (p : Packet). takes world here p
      (operations_after_import here.known p.operations)) f (refused_step world (NoPacket packet))) found
      ∙ taken-by (operations_after_import here.known contents.operations) contents answer sites' answers leaves

  -- a site makes a packet for another
  pub exports-here : (to packet : List ℕ) (there : Site) (count : List ℕ) (sites' : List Site) (packets' : List Sent)
      → site_in sites to ≡ Some there → packet_in packets packet ≡ None
      → count ≡ decimal (length (packet_for here to).operations) → sites'
      ≡ set sites place (thinking here to (table_of here.known))
      → packets' ≡ packets ++ record { name = packet; packet = packet_for here to } ∷ []
      → export_step world name to packet ≡ record { world = record { sites = sites'; packets = packets' }; answer = Done count }
  exports-here to packet there count sites' packets' other new counts leaves more =
      ap (λ (f : Option Site). option_map_or (λ (site : Site). option_map_or
      (λ (_ : Site). option_map_or (λ (_ : Packet). refused_step world (PacketExists packet)) (packet_in packets packet)
      (sends world site to packet)) (site_in sites to) (refused_step world (NoSite to))) f (refused_step world (NoSite name)))
      found-here
      ∙ ap (λ (f : Option Site). option_map_or (λ (_ : Site). option_map_or
      (λ (_ : Packet). refused_step world (PacketExists packet)) (packet_in packets packet) (sends world here to packet)) f
      (refused_step world (NoSite to))) other
      ∙ ap (λ (f : Option Packet). option_map_or (λ (_ : Packet). refused_step world (PacketExists packet)) f
      (sends world here to packet)) new
      ∙ ap (λ (l : List Site). record {
        world = record {
          sites = l;
          packets = packets
              ++ record { name = packet; packet = packet_for here to } ∷ [];
        };
        answer = Done (decimal (length (packet_for here to).operations));
      })
      (set-here (thinking here to (table_of here.known)) refl ∙ sym leaves)
      ∙ ap (λ (l : List Sent). record {
        world = record { sites = sites'; packets = l };
        answer = Done (decimal (length (packet_for here to).operations));
      }) (sym more)
      ∙ ap (λ (t : List ℕ). record { world = record { sites = sites'; packets = packets' }; answer = Done t }) (sym counts)

  -- or there is one of its name
  pub exports-there : (to packet : List ℕ) (there : Site) (old : Packet) → site_in sites to ≡ Some there
      → packet_in packets packet ≡ Some old
      → export_step world name to packet ≡ refused_step world (PacketExists packet)
  exports-there to packet there old other found =
      ap (λ (f : Option Site). option_map_or (λ (site : Site). option_map_or
      (λ (_ : Site). option_map_or (λ (_ : Packet). refused_step world (PacketExists packet)) (packet_in packets packet)
      (sends world site to packet)) (site_in sites to) (refused_step world (NoSite to))) f (refused_step world (NoSite name)))
      found-here
      ∙ ap (λ (f : Option Site). option_map_or (λ (_ : Site). option_map_or
      (λ (_ : Packet). refused_step world (PacketExists packet)) (packet_in packets packet) (sends world here to packet)) f
      (refused_step world (NoSite to))) other
      ∙ ap (λ (f : Option Packet). option_map_or (λ (_ : Packet). refused_step world (PacketExists packet)) f
      (sends world here to packet)) found

  -- or no site of the other's name
  pub exports-nowhere : (to packet : List ℕ) → site_in sites to ≡ None
      → export_step world name to packet ≡ refused_step world (NoSite to)
  exports-nowhere to packet none =
      ap (λ (f : Option Site). option_map_or (λ (site : Site). option_map_or
      (λ (_ : Site). option_map_or (λ (_ : Packet). refused_step world (PacketExists packet)) (packet_in packets packet)
      (sends world site to packet)) (site_in sites to) (refused_step world (NoSite to))) f (refused_step world (NoSite name)))
      found-here
      ∙ ap (λ (f : Option Site). option_map_or (λ (_ : Site). option_map_or
      (λ (_ : Packet). refused_step world (PacketExists packet)) (packet_in packets packet) (sends world here to packet)) f
      (refused_step world (NoSite to))) none

  -- there is no such packet
  pub imports-nothing : (packet : List ℕ) → packet_in packets packet ≡ None
      → import_step world name packet ≡ refused_step world (NoPacket packet)
  imports-nothing packet none =
      ap (λ (f : Option Site). option_map_or (λ (site : Site). option_map_or
      (λ (p : Packet). takes world site p (operations_after_import site.known p.operations)) (packet_in packets packet)
      (refused_step world (NoPacket packet))) f (refused_step world (NoSite name))) found-here
      ∙ ap (λ (f : Option Packet). option_map_or (λ (p : Packet). takes world here p
      (operations_after_import here.known p.operations)) f (refused_step world (NoPacket packet))) none

  -- a site forgets what it thinks that another knows
  pub recovers-here : (to : List ℕ) (there : Site) (sites' : List Site) → site_in sites to ≡ Some there
      → sites' ≡ set sites place (thinking here to [])
      → recover_step world name to ≡ after sites' (Done [])
  recovers-here to there sites' other leaves =
      ap (λ (f : Option Site). option_map_or (λ (from : Site). option_map_or
      (λ (_ : Site). done_step world (thinking from to []) []) (site_in sites to) (refused_step world (NoSite to))) f
      (refused_step world (NoSite name))) found-here
      ∙ ap (λ (f : Option Site). option_map_or (λ (_ : Site). done_step world (thinking here to []) []) f
      (refused_step world (NoSite to))) other
      ∙ ap (λ (l : List Site). after l (Done [])) (set-here (thinking here to []) refl ∙ sym leaves)

  pub recovers-nowhere : (to : List ℕ) → site_in sites to ≡ None → recover_step world name to ≡ refused_step world (NoSite to)
  recovers-nowhere to none =
      ap (λ (f : Option Site). option_map_or (λ (from : Site). option_map_or
      (λ (_ : Site). done_step world (thinking from to []) []) (site_in sites to) (refused_step world (NoSite to))) f
      (refused_step world (NoSite name))) found-here
      ∙ ap (λ (f : Option Site). option_map_or (λ (_ : Site). done_step world (thinking here to []) []) f
      (refused_step world (NoSite to))) none

  -- what a site shows
  pub shows-here : (text : List ℕ) → text ≡ show_text here → show_step world name ≡ record { world = world; answer = Done text }
  shows-here text is =
      ap (λ (f : Option Site). option_map_or (λ (from : Site). record { world = world; answer = Done (show_text from) }) f
      (refused_step world (NoSite name))) found-here
      ∙ ap (λ (t : List ℕ). record { world = world; answer = Done t }) (sym is)

  -- mastership is given to a site
  pub masters-here : (branch : Identity) (to : List ℕ) (there : Site) → site_in sites to ≡ Some there
      → chmaster_step world name branch to ≡ makes world name (changes.Master branch to)
  masters-here branch to there other =
      ap (λ (f : Option Site). option_map_or (λ (_ : Site). option_map_or
      (λ (_ : Site). makes world name (changes.Master branch to)) (site_in sites to) (refused_step world (NoSite to))) f
      (refused_step world (NoSite name))) found-here
      ∙ ap (λ (f : Option Site). option_map_or (λ (_ : Site). makes world name (changes.Master branch to)) f
      (refused_step world (NoSite to))) other

  pub masters-nowhere : (branch : Identity) (to : List ℕ) → site_in sites to ≡ None
      → chmaster_step world name branch to ≡ refused_step world (NoSite to)
  masters-nowhere branch to none =
      ap (λ (f : Option Site). option_map_or (λ (_ : Site). option_map_or
      (λ (_ : Site). makes world name (changes.Master branch to)) (site_in sites to) (refused_step world (NoSite to))) f
      (refused_step world (NoSite name))) found-here
      ∙ ap (λ (f : Option Site). option_map_or (λ (_ : Site). makes world name (changes.Master branch to)) f
      (refused_step world (NoSite to))) none

-- a site's call made a change, unless memory ran out
pub makes-ok : {E : Type 0} (r : Result Answer E) (sites sites' : List Site) (packets : List Sent) (name : List ℕ) (place : ℕ)
    (change : Change)
    → place ≡ place_in name sites → place < length sites → IfOk r (λ (answer : Answer). (d : Site)
    → answer ≡ identity_answer (made (get_or sites place d) change).0)
    → OnOk r ((d : Site) → sites' ≡ set sites place (made (get_or sites place d) change).1)
    → IfOk r (λ (answer : Answer). makes (record { sites = sites; packets = packets }) name change
    ≡ record { world = record { sites = sites'; packets = packets }; answer = answer })
makes-ok (Ok answer) sites sites' packets name place change at within answers leaves =
    let d = new_site name in
    makes-here sites packets name place d at within change answer sites' (answers d) (leaves d)
makes-ok (Err e) sites sites' packets name place change at within answers leaves = tt

-- the same of a packet that a site adds
pub imports-ok : {E : Type 0} (r : Result Answer E) (sites sites' : List Site) (packets : List Sent) (name : List ℕ) (place : ℕ)
    (packet : List ℕ) (contents : Packet)
    → place ≡ place_in name sites → place < length sites → packet_in packets packet ≡ Some contents
    → IfOk r (λ (answer : Answer). (d : Site) → answer ≡ number_answer (imported (get_or sites place d) contents).0)
    → OnOk r ((d : Site) → sites' ≡ set sites place (imported (get_or sites place d) contents).1)
    → IfOk r (λ (answer : Answer). import_step (record { sites = sites; packets = packets }) name packet
    ≡ record { world = record { sites = sites'; packets = packets }; answer = answer })
imports-ok (Ok answer) sites sites' packets name place packet contents at within found answers leaves =
    let d = new_site name in
    imports-here sites packets name place d at within packet contents answer sites' found (answers d) (leaves d)
imports-ok (Err e) sites sites' packets name place packet contents at within found answers leaves = tt

-- a refusal, unless memory ran out
pub refused-ok : {E : Type 0} (r : Result Answer E) (world : World) (fault : SiteFault) (stepped : Stepped)
    → IfOk r (λ (answer : Answer). answer ≡ Refused fault)
    → stepped ≡ refused_step world fault → IfOk r (λ (answer : Answer). stepped ≡ record { world = world; answer = answer })
refused-ok (Ok answer) world fault stepped is steps = steps ∙ ap (λ (a : Answer). record { world = world; answer = a }) (sym is)
refused-ok (Err e) world fault stepped is steps = tt

-- the same step by another name
pub along-ok : {E : Type 0} (r : Result Answer E) (world : World) (one other : Stepped)
    → IfOk r (λ (answer : Answer). one ≡ record { world = world; answer = answer })
    → other ≡ one → IfOk r (λ (answer : Answer). other ≡ record { world = world; answer = answer })
along-ok (Ok answer) world one other is same = same ∙ is
along-ok (Err e) world one other is same = tt

-- no site was found
pub nobody : (found : Option ℕ) (name : List ℕ) (sites here : List Site) → is_some found ≡ false
    → IfNone found (site_in here name ≡ None) → here ≡ sites → site_in sites name ≡ None
nobody None name sites here none is same = ap (λ (l : List Site). site_in l name) (sym same) ∙ is
nobody (Some place) name sites here none is same = cc none

-- one was
pub standing : (found : Option ℕ) (name : List ℕ) (sites here : List Site) → is_some found ≡ true
    → IfSome found (λ (place : ℕ). place ≡ place_in name here)
    → IfSome found (λ (place : ℕ). place < length here) → here ≡ sites → place_in name sites < length sites
standing None name sites here some at within same = cc some
standing (Some place) name sites here some at within same =
    subst (λ (l : List Site). place_in name l < length l) same (subst (λ (p : ℕ). p < length here) at within)

pub somebody : (found : Option ℕ) (name : List ℕ) (sites here : List Site) (d : Site) → is_some found ≡ true
    → IfSome found (λ (place : ℕ). place ≡ place_in name here)
    → IfSome found (λ (place : ℕ). place < length here) → here ≡ sites
    → site_in sites name ≡ Some (get_or sites (place_in name sites) d)
somebody found name sites here d some at within same = site_in-there name sites d
    (standing found name sites here some at within same)

-- there is a site of the name
pub sites-there : (world : World) (name : List ℕ) (there : Site) → site_in world.sites name ≡ Some there
    → site_step world name ≡ refused_step world (SiteExists name)
sites-there world name there found =
    ap (λ (f : Option Site). option_map_or (λ (_ : Site). refused_step world (SiteExists name)) f
    (cond (nat_lt 63 (length world.sites)) (refused_step world TooManySites)
    (record { world = record { sites = world.sites ++ new_site name ∷ []; packets = world.packets }; answer = Done [] })))
    found

-- a packet was found, or not
pub some-packet : {P : Type 0} (found : Option Packet) → is_some found ≡ true → ((packet : Packet) → found ≡ Some packet → P) → P
some-packet None some then = cc some
some-packet (Some packet) some then = then packet refl

pub no-packet : (found : Option Packet) → is_some found ≡ false → found ≡ None
no-packet None none = refl
no-packet (Some packet) none = cc none
