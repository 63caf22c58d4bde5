-- Sites by their names, and what an event does where its site stands.
use Rattle.std.proofs.Common.{◌≡◌, ℕ, zero, suc, ◌<◌, ◌≤◌, Bool, true, false, cond, Option, Some, None, List, [], ◌∷◌, ◌++◌}
use Rattle.std.proofs.Common.{length, get_or, set, refl, ap, ◌∙◌, arith}
use Rattle.std.specs.Map.{lookup}
use Rattle.std.specs.Str.{bytes_eq}
use Rattle.cc_names.proofs.Common.{bytes_swapped}
use Rattle.vob_replica.specs.Replicas.{Site, Packet}
use Rattle.vob_replica.specs.Sites.{sent_as, sents_of, place_in}
use Rattle.vob_replica.specs.World.{Sent, site_in, with_site, packet_in}

abbrev place_by : Bool → List ℕ → List Site → ℕ
place_by b name sites = cond b 0 (suc (place_in name sites))

abbrev found_by : Bool → Site → Option Site → Option Site
found_by b site found = cond b (Some site) found

there-by : (b : Bool) (name : List ℕ) (site : Site) (sites : List Site) (d : Site) → place_by b name sites < length (site ∷ sites)
    → (place_in name sites < length sites → site_in sites name ≡ Some (get_or sites (place_in name sites) d))
    → found_by b site (site_in sites name) ≡ Some (get_or (site ∷ sites) (place_by b name sites) d)
there-by true name site sites d within later = refl
there-by false name site sites d within later = later (omega arith)

-- a site is found where it stands
pub site_in-there : (name : List ℕ) (sites : List Site) (d : Site) → place_in name sites < length sites
    → site_in sites name ≡ Some (get_or sites (place_in name sites) d)
site_in-there name [] d within = absurd (omega arith)
site_in-there name (site ∷ sites) d within = there-by (bytes_eq site.name name) name site sites d within
    (site_in-there name sites d)

none-by : (b : Bool) (name : List ℕ) (site : Site) (sites : List Site) → length (site ∷ sites) ≤ place_by b name sites
    → (length sites ≤ place_in name sites → site_in sites name ≡ None) → found_by b site (site_in sites name) ≡ None
none-by true name site sites past later = absurd (omega arith)
none-by false name site sites past later = later (omega arith)

-- or there is none
pub site_in-none : (name : List ℕ) (sites : List Site) → length sites ≤ place_in name sites → site_in sites name ≡ None
site_in-none name [] past = refl
site_in-none name (site ∷ sites) past = none-by (bytes_eq site.name name) name site sites past (site_in-none name sites)

set-by : (b : Bool) (name : List ℕ) (site first : Site) (sites : List Site) → bytes_eq first.name name ≡ b → site.name ≡ name
    → place_by b name sites < length (first ∷ sites)
    → (place_in name sites < length sites → with_site site sites ≡ set sites (place_in name sites) site)
    → with_site site (first ∷ sites) ≡ set (first ∷ sites) (place_by b name sites) site
set-by true name site first sites same is within later =
    ap (λ (b : Bool). cond b (site ∷ sites) (first ∷ with_site site sites)) (ap (bytes_eq first.name) is ∙ same)
set-by false name site first sites same is within later =
    ap (λ (b : Bool). cond b (site ∷ sites) (first ∷ with_site site sites)) (ap (bytes_eq first.name) is ∙ same)
    ∙ ap (λ (l : List Site). first ∷ l) (later (omega arith))

-- a site takes the place of the one of its name
pub with_site-there : (name : List ℕ) (site : Site) (sites : List Site) → site.name ≡ name → place_in name sites < length sites
    → with_site site sites ≡ set sites (place_in name sites) site
with_site-there name site [] is within = absurd (omega arith)
with_site-there name site (first ∷ sites) is within =
    set-by (bytes_eq first.name name) name site first sites refl is within (with_site-there name site sites is)

-- a site that stays
pub set-same : (sites : List Site) (place : ℕ) (d : Site) → set sites place (get_or sites place d) ≡ sites
set-same [] place d = refl
set-same (site ∷ sites) zero d = refl
set-same (site ∷ sites) (suc place) d = ap (λ (l : List Site). site ∷ l) (set-same sites place d)

-- a packet by its name
pub packet-found : (entries : List (List ℕ × Packet)) (name : List ℕ) → lookup (bytes_eq name) entries
    ≡ packet_in (sents_of entries) name
packet-found [] name = refl
packet-found (entry ∷ entries) name =
    ap (λ (b : Bool). cond b (Some entry.1) (lookup (bytes_eq name) entries))
    (bytes_swapped entry.0 name (bytes_eq entry.0 name) refl)
    ∙ ap (λ (found : Option Packet). cond (bytes_eq entry.0 name) (Some entry.1) found) (packet-found entries name)

-- one packet more
pub sents-push : (entries : List (List ℕ × Packet)) (name : List ℕ) (packet : Packet)
    → sents_of (entries ++ (name, packet) ∷ []) ≡ sents_of entries ++ record { name = name; packet = packet } ∷ []
sents-push [] name packet = refl
sents-push (entry ∷ entries) name packet = ap (λ (l : List Sent). sent_as entry ∷ l) (sents-push entries name packet)
