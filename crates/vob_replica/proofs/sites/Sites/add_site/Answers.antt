use Rattle.std.proofs.Common.{◌≡◌, [], ◌∙◌, Some, ℕ, List, get_or, ap, sym, subst}
use Rattle.vob_replica.specs.declared.operations.SiteFault.TheVariants as faults
use Rattle.vob_replica.specs.Replicas.{new_site}
use Rattle.vob_replica.specs.Sites.{place_in, sents_of}
use Rattle.vob_replica.specs.World.{World, refused_step, site_in, site_step}
use Rattle.vob_replica.proofs.StepLaws.{sites-there, somebody}
use Rattle.vob_replica.proofs.sites.Sites.add_site.Goals as goal

-- there is a site of the name
pub returns-then-is_some : goal.returns-then-is_some
returns-then-is_some c =
    let sites = c.self.inside.sites.items in
    let packets = sents_of c.self.inside.packets.entries in
    let other : site_in sites c.args.name.now ≡ Some (get_or sites (place_in c.args.name.now sites) (new_site [])) =
    somebody c.find.result c.args.name.now sites c.deref.result.now (new_site []) (sym c.if-is_some.ensures) c.find.ensures.place
    c.find.ensures.within c.deref.ensures.value in
    subst (λ (w : World). site_step w c.args.name.now ≡ refused_step w (faults.SiteExists c.args.name.now)) c.self.view_is
    (sites-there (record { sites = sites; packets = packets }) c.args.name.now
    (get_or sites (place_in c.args.name.now sites) (new_site [])) other)
    ∙ ap (λ (n : List ℕ). refused_step c.args.self.now (faults.SiteExists n)) (sym c.in_ok-name.ensures.copy)
