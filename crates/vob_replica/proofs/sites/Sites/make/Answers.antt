use Rattle.std.proofs.Common.{◌≡◌, ◌<◌, ◌∙◌, length, ap, subst, rules}
use Rattle.std.specs.Prelude.{IfOk}
use Rattle.vob_replica.specs.declared.operations.Answer.{Answer}
use Rattle.vob_replica.specs.Sites.{place_in, sents_of}
use Rattle.vob_replica.specs.World.{World, makes}
use Rattle.vob_replica.proofs.StepLaws.{makes-ok}
use Rattle.vob_replica.proofs.sites.Sites.make.Goals as goal

-- the site made the change
pub returns-in-Some : goal.returns-in-Some
returns-in-Some c =
    let sites = c.self.inside.sites.items in
    let packets = sents_of c.self.inside.packets.entries in
    let at : c.in-Some.place ≡ place_in c.args.name.now sites = c.in-Some.ensures.place
    ∙ ap (place_in c.args.name.now) c.deref.ensures.value in
    let within : c.in-Some.place < length sites = search rules in
    subst (λ (w : World). IfOk c.make_at.result (λ (answer : Answer). makes w c.args.name.now c.args.change.now
    ≡ record { world = record { sites = c.make_at.new.sites.items; packets = packets }; answer = answer }))
    c.self.view_is
    (makes-ok c.make_at.result sites c.make_at.new.sites.items packets c.args.name.now c.in-Some.place c.args.change.now at within
    c.make_at.ensures.answer c.make_at.ensures.sites)
