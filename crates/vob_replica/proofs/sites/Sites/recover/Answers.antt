use Rattle.std.proofs.Common.{◌≡◌, ◌<◌, [], ◌∙◌, Some, None, ℕ, List, length, get_or, ap, sym, subst, rules}
use Rattle.vob_replica.specs.declared.operations.Answer.TheVariants as answers
use Rattle.vob_replica.specs.declared.operations.SiteFault.TheVariants as faults
use Rattle.vob_replica.specs.Replicas.{new_site}
use Rattle.vob_replica.specs.Sites.{place_in, sents_of}
use Rattle.vob_replica.specs.World.{World, refused_step, site_in, recover_step}
use Rattle.vob_replica.proofs.StepLaws.{recovers-here, recovers-nowhere, refused-ok, nobody, somebody}
use Rattle.vob_replica.proofs.sites.Sites.recover.Goals as goal

-- there is no other site
pub returns-then-is_none : goal.returns-then-is_none
returns-then-is_none c =
    let sites = c.self.inside.sites.items in
    let packets = sents_of c.self.inside.packets.entries in
    let at : c.in-Some.place ≡ place_in c.args.name.now sites = c.in-Some.ensures.place
    ∙ ap (place_in c.args.name.now) c.deref.ensures.value in
    let within : c.in-Some.place < length sites = search rules in
    let none : site_in sites c.args.to.now ≡ None =
    nobody c.find-2.result c.args.to.now sites c.deref-2.result.now c.if-is_none.ensures c.find-2.ensures.none
    c.deref-2.ensures.value in
    refused-ok c.no_site-then-is_none.result c.args.self.now (faults.NoSite c.args.to.now)
    (recover_step c.args.self.now c.args.name.now c.args.to.now) c.no_site-then-is_none.ensures
    (subst (λ (w : World). recover_step w c.args.name.now c.args.to.now ≡ refused_step w (faults.NoSite c.args.to.now))
    c.self.view_is
    (recovers-nowhere sites packets c.args.name.now c.in-Some.place (new_site []) at within c.args.to.now none))

-- the site forgot what it thought
pub returns : goal.returns
returns c =
    let sites = c.self.inside.sites.items in
    let packets = sents_of c.self.inside.packets.entries in
    let at : c.in-Some.place ≡ place_in c.args.name.now sites = c.in-Some.ensures.place
    ∙ ap (place_in c.args.name.now) c.deref.ensures.value in
    let within : c.in-Some.place < length sites = search rules in
    let other : site_in sites c.args.to.now ≡ Some (get_or sites (place_in c.args.to.now sites) (new_site [])) =
    somebody c.find-2.result c.args.to.now sites c.deref-2.result.now (new_site []) c.if-is_none.ensures c.find-2.ensures.place
    c.find-2.ensures.within c.deref-2.ensures.value in
    let text : c.of.result ≡ [] = c.of.ensures ∙ c.new.ensures.items in
    subst (λ (w : World). recover_step w c.args.name.now c.args.to.now
    ≡ record {
      world = record { sites = c.recover_at.new.sites.items; packets = packets };
      answer = answers.Done c.of.result;
    }) c.self.view_is
    (recovers-here sites packets c.args.name.now c.in-Some.place (new_site []) at within c.args.to.now
    (get_or sites (place_in c.args.to.now sites) (new_site [])) c.recover_at.new.sites.items other
    (c.in_ok-recover_at.ensures (new_site []))
    ∙ ap (λ (t : List ℕ). record {
      world = record { sites = c.recover_at.new.sites.items; packets = packets };
      answer = answers.Done t;
    }) (sym text))
