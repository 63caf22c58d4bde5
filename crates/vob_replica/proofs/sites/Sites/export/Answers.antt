use Rattle.std.proofs.Common.{◌≡◌, ◌<◌, ◌++◌, ◌∷◌, [], ◌∙◌, Some, None, true, ℕ, List, length, get_or, set, ap, sym, subst, rules}
use Rattle.vob_replica.specs.declared.operations.SiteFault.TheVariants as faults
use Rattle.std.specs.Prelude.{is_some}
use Rattle.std.specs.Fmt.{decimal}
use Rattle.vob_replica.specs.declared.operations.Answer.TheVariants as answers
use Rattle.vob_replica.specs.Replicas.{new_site, packet_for, thinking}
use Rattle.vob_replica.specs.Tables.{table_of}
use Rattle.vob_replica.specs.Sites.{place_in, sents_of}
use Rattle.vob_replica.specs.World.{World, refused_step, site_in, packet_in, export_step}
use Rattle.vob_replica.proofs.StepLaws.{exports-here, exports-there, exports-nowhere, refused-ok, nobody, somebody, some-packet}
use Rattle.vob_replica.proofs.StepLaws.{no-packet}
use Rattle.vob_replica.proofs.sites.Sites.export.Goals as goal

-- there is no other site
pub returns-then-is_none : goal.returns-then-is_none
returns-then-is_none c =
    let sites = c.self.inside.sites.items in
    let packets = sents_of c.self.inside.packets.entries in
    let at : c.in-Some.place ≡ place_in c.args.name.now sites = c.in-Some.ensures.place
    ∙ ap (place_in c.args.name.now) c.deref.ensures.value in
    let within : c.in-Some.place < length sites = search rules in
    let none : site_in sites c.args.to.now ≡ None =
    nobody c.find-2.result c.args.to.now sites c.deref-2.result.now c.if-is_none.ensures c.find-2.ensures.none
    c.deref-2.ensures.value in
    refused-ok c.no_site-then-is_none.result c.args.self.now (faults.NoSite c.args.to.now)
    (export_step c.args.self.now c.args.name.now c.args.to.now c.args.packet.now) c.no_site-then-is_none.ensures
    (subst (λ (w : World). export_step w c.args.name.now c.args.to.now c.args.packet.now
    ≡ refused_step w (faults.NoSite c.args.to.now)) c.self.view_is
    (exports-nowhere sites packets c.args.name.now c.in-Some.place (new_site []) at within c.args.to.now c.args.packet.now none))

-- there is a packet of the name
pub returns-then-is_some : goal.returns-then-is_some
returns-then-is_some c =
    let sites = c.self.inside.sites.items in
    let packets = sents_of c.self.inside.packets.entries in
    let at : c.in-Some.place ≡ place_in c.args.name.now sites = c.in-Some.ensures.place
    ∙ ap (place_in c.args.name.now) c.deref.ensures.value in
    let within : c.in-Some.place < length sites = search rules in
    let other : site_in sites c.args.to.now ≡ Some (get_or sites (place_in c.args.to.now sites) (new_site [])) =
    somebody c.find-2.result c.args.to.now sites c.deref-2.result.now (new_site []) c.if-is_none.ensures c.find-2.ensures.place
    c.find-2.ensures.within c.deref-2.ensures.value in
    let there : is_some (packet_in packets c.args.packet.now) ≡ true = search rules in
    some-packet (packet_in packets c.args.packet.now) there (λ old found.
    subst (λ (w : World). export_step w c.args.name.now c.args.to.now c.args.packet.now
    ≡ refused_step w (faults.PacketExists c.args.packet.now)) c.self.view_is
    (exports-there sites packets c.args.name.now c.in-Some.place (new_site []) at within c.args.to.now c.args.packet.now
    (get_or sites (place_in c.args.to.now sites) (new_site [])) old other found)
    ∙ ap (λ (n : List ℕ). refused_step c.args.self.now (faults.PacketExists n)) (sym c.in_ok-packet.ensures.copy))

-- the packet is made
pub returns : goal.returns
returns c =
    let sites = c.self.inside.sites.items in
    let packets = sents_of c.self.inside.packets.entries in
    let at : c.in-Some.place ≡ place_in c.args.name.now sites = c.in-Some.ensures.place
    ∙ ap (place_in c.args.name.now) c.deref.ensures.value in
    let within : c.in-Some.place < length sites = search rules in
    let other : site_in sites c.args.to.now ≡ Some (get_or sites (place_in c.args.to.now sites) (new_site [])) =
    somebody c.find-2.result c.args.to.now sites c.deref-2.result.now (new_site []) c.if-is_none.ensures c.find-2.ensures.place
    c.find-2.ensures.within c.deref-2.ensures.value in
    let new : packet_in packets c.args.packet.now ≡ None = no-packet (packet_in packets c.args.packet.now) (search rules) in
    let view = sym c.self.view_is in
    let leaves : c.send.new.all.sites ≡ set sites c.in-Some.place (thinking (get_or sites c.in-Some.place (new_site []))
    c.args.to.now (table_of (get_or sites c.in-Some.place (new_site [])).known)) =
    subst (λ (w : World). c.send.new.all.sites ≡ set w.sites c.in-Some.place
    (thinking (get_or w.sites c.in-Some.place (new_site [])) c.args.to.now
    (table_of (get_or w.sites c.in-Some.place (new_site [])).known))) view
    (c.in_ok-send.ensures.sites (new_site [])) in
    let more : c.send.new.all.packets ≡ packets ++ record {
      name = c.args.packet.now;
      packet = packet_for (get_or sites c.in-Some.place (new_site [])) c.args.to.now;
    } ∷ [] =
    subst (λ (w : World). c.send.new.all.packets ≡ w.packets ++ record {
      name = c.args.packet.now;
      packet = packet_for (get_or w.sites c.in-Some.place (new_site [])) c.args.to.now;
    } ∷ []) view
    (c.in_ok-send.ensures.packets (new_site [])) in
    let count : c.in_ok-send.field-0 ≡ decimal (length (packet_for (get_or sites c.in-Some.place (new_site []))
    c.args.to.now).operations) =
    subst (λ (w : World). c.in_ok-send.field-0 ≡ decimal (length (packet_for (get_or w.sites c.in-Some.place (new_site []))
    c.args.to.now).operations)) view (c.in_ok-send.ensures.count (new_site [])) in
    subst (λ (w : World). export_step w c.args.name.now c.args.to.now c.args.packet.now
    ≡ record { world = c.send.new.all; answer = answers.Done c.in_ok-send.field-0 }) c.self.view_is
    (exports-here sites packets c.args.name.now c.in-Some.place (new_site []) at within c.args.to.now c.args.packet.now
    (get_or sites (place_in c.args.to.now sites) (new_site [])) c.in_ok-send.field-0 c.send.new.all.sites
    c.send.new.all.packets
    other new count leaves more)
