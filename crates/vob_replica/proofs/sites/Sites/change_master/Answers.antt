use Rattle.std.proofs.Common.{◌≡◌, ◌<◌, [], ◌∙◌, Some, None, ℕ, List, length, get_or, refl, ap, sym, subst}
use Rattle.vob_replica.specs.declared.events.Identity.{Identity}
use Rattle.vob_replica.specs.declared.operations.Change.TheVariants as changes
use Rattle.vob_replica.specs.declared.operations.SiteFault.TheVariants as faults
use Rattle.vob_replica.specs.Replicas.{new_site}
use Rattle.vob_replica.specs.Sites.{place_in, sents_of}
use Rattle.vob_replica.specs.World.{World, refused_step, site_in, makes, chmaster_step}
use Rattle.vob_replica.proofs.StepLaws.{masters-here, masters-nowhere, refused-ok, along-ok, nobody, somebody, standing}
use Rattle.vob_replica.proofs.sites.Sites.change_master.Goals as goal

-- there is no other site
pub returns-then-is_none-2 : goal.returns-then-is_none-2
returns-then-is_none-2 c =
    let sites = c.self.inside.sites.items in
    let packets = sents_of c.self.inside.packets.entries in
    let within : place_in c.args.name.now sites < length sites =
    standing c.find.result c.args.name.now sites c.deref.result.now c.if-is_none.ensures c.find.ensures.place
    c.find.ensures.within c.deref.ensures.value in
    let none : site_in sites c.args.to.now ≡ None =
    nobody c.find-2.result c.args.to.now sites c.deref-2.result.now c.if-is_none-2.ensures c.find-2.ensures.none
    c.deref-2.ensures.value in
    refused-ok c.no_site-then-is_none-2.result c.args.self.now (faults.NoSite c.args.to.now)
    (chmaster_step c.args.self.now c.args.name.now c.args.branch.now c.args.to.now) c.no_site-then-is_none-2.ensures
    (subst (λ (w : World). chmaster_step w c.args.name.now c.args.branch.now c.args.to.now
    ≡ refused_step w (faults.NoSite c.args.to.now)) c.self.view_is
    (masters-nowhere sites packets c.args.name.now (place_in c.args.name.now sites) (new_site []) refl within c.args.branch.now
    c.args.to.now none))

-- the site makes the change
pub returns : goal.returns
returns c =
    let sites = c.self.inside.sites.items in
    let packets = sents_of c.self.inside.packets.entries in
    let within : place_in c.args.name.now sites < length sites =
    standing c.find.result c.args.name.now sites c.deref.result.now c.if-is_none.ensures c.find.ensures.place
    c.find.ensures.within c.deref.ensures.value in
    let other : site_in sites c.args.to.now ≡ Some (get_or sites (place_in c.args.to.now sites) (new_site [])) =
    somebody c.find-2.result c.args.to.now sites c.deref-2.result.now (new_site []) c.if-is_none-2.ensures c.find-2.ensures.place
    c.find-2.ensures.within c.deref-2.ensures.value in
    let steps : chmaster_step c.args.self.now c.args.name.now c.args.branch.now c.args.to.now
    ≡ makes c.args.self.now c.args.name.now (changes.Master c.args.branch.now c.args.to.now) =
    subst (λ (w : World). chmaster_step w c.args.name.now c.args.branch.now c.args.to.now
    ≡ makes w c.args.name.now (changes.Master c.args.branch.now c.args.to.now)) c.self.view_is
    (masters-here sites packets c.args.name.now (place_in c.args.name.now sites) (new_site []) refl within c.args.branch.now
    c.args.to.now (get_or sites (place_in c.args.to.now sites) (new_site [])) other) in
    along-ok c.make.result c.make.new.self (makes c.args.self.now c.args.name.now
    (changes.Master c.in_ok-branch.branch c.in_ok-to.to)) (chmaster_step c.args.self.now c.args.name.now c.args.branch.now
    c.args.to.now) c.make.ensures
    (steps ∙ ap (λ (b : Identity). makes c.args.self.now c.args.name.now (changes.Master b c.args.to.now))
    (sym c.in_ok-branch.ensures)
    ∙ ap (λ (t : List ℕ). makes c.args.self.now c.args.name.now (changes.Master c.in_ok-branch.branch t))
    (sym c.in_ok-to.ensures.copy))
