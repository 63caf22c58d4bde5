use Rattle.std.proofs.Common.{◌≡◌, ◌<◌, ◌∙◌, Some, None, ℕ, List, [], length, ap, sym, subst, rules}
use Rattle.std.specs.Prelude.{IfOk}
use Rattle.vob_replica.specs.declared.operations.Answer.{Answer}
use Rattle.vob_replica.specs.declared.operations.SiteFault.TheVariants as faults
use Rattle.vob_replica.specs.Replicas.{new_site}
use Rattle.vob_replica.specs.Sites.{place_in, sents_of}
use Rattle.vob_replica.specs.World.{World, refused_step, import_step, packet_in}
use Rattle.vob_replica.proofs.StepLaws.{imports-ok, imports-nothing}
use Rattle.vob_replica.proofs.sites.Sites.import.Goals as goal

-- there is no such packet
pub returns-in_ok-packet-in-None : goal.returns-in_ok-packet-in-None
returns-in_ok-packet-in-None c =
    let sites = c.self.inside.sites.items in
    let packets = sents_of c.self.inside.packets.entries in
    let at : c.in-Some.place ≡ place_in c.args.name.now sites = c.in-Some.ensures.place
    ∙ ap (place_in c.args.name.now) c.deref.ensures.value in
    let within : c.in-Some.place < length sites = search rules in
    let none : packet_in packets c.args.packet.now ≡ None = search rules in
    subst (λ (w : World). import_step w c.args.name.now c.args.packet.now ≡ refused_step w (faults.NoPacket c.args.packet.now))
    c.self.view_is
    (imports-nothing sites packets c.args.name.now c.in-Some.place (new_site []) at within c.args.packet.now none)
    ∙ ap (λ (n : List ℕ). refused_step c.args.self.now (faults.NoPacket n)) (sym c.in_ok-packet-in-None.ensures.copy)

-- the site took the packet in
pub returns-in-Some-packet_in : goal.returns-in-Some-packet_in
returns-in-Some-packet_in c =
    let sites = c.self.inside.sites.items in
    let packets = sents_of c.self.inside.packets.entries in
    let at : c.in-Some.place ≡ place_in c.args.name.now sites = c.in-Some.ensures.place
    ∙ ap (place_in c.args.name.now) c.deref.ensures.value in
    let within : c.in-Some.place < length sites = search rules in
    let found : packet_in packets c.args.packet.now ≡ Some c.in-Some-packet_in.contents.now = search rules in
    subst (λ (w : World). IfOk c.import_at.result (λ (answer : Answer). import_step w c.args.name.now c.args.packet.now
    ≡ record { world = record { sites = c.import_at.new.sites.items; packets = packets }; answer = answer }))
    c.self.view_is
    (imports-ok c.import_at.result sites c.import_at.new.sites.items packets c.args.name.now c.in-Some.place c.args.packet.now
    c.in-Some-packet_in.contents.now at within found
    c.import_at.ensures.answer c.import_at.ensures.sites)
