use Rattle.std.proofs.Common.{List, ◌≡◌, ◌<◌, [], ◌∙◌, length, get_or, ap, subst, rules}
use Rattle.vob_replica.specs.declared.operations.Answer.TheVariants as answers
use Rattle.vob_replica.specs.Replicas.{Site, new_site}
use Rattle.vob_replica.specs.Showing.{show_text}
use Rattle.vob_replica.specs.Sites.{place_in, sents_of}
use Rattle.vob_replica.specs.World.{World, show_step}
use Rattle.vob_replica.proofs.StepLaws.{shows-here}
use Rattle.vob_replica.proofs.sites.Sites.show.Goals as goal

-- what the site shows
pub returns-in_ok-show_at-in-Some : goal.returns-in_ok-show_at-in-Some
returns-in_ok-show_at-in-Some c =
    let sites = c.self.inside.sites.items in
    let packets = sents_of c.self.inside.packets.entries in
    let at : c.in-Some.place ≡ place_in c.args.name.now sites = c.in-Some.ensures.place
    ∙ ap (place_in c.args.name.now) c.deref.ensures.value in
    let within : c.in-Some.place < length sites = search rules in
    let text : c.in_ok-show_at-in-Some.field-0 ≡ show_text (get_or sites c.in-Some.place (new_site [])) =
    c.in_ok-show_at-in-Some.ensures (new_site []) ∙ ap (λ (l : List Site). show_text (get_or l c.in-Some.place (new_site [])))
    c.deref-in-Some.ensures.value in
    subst (λ (w : World). show_step w c.args.name.now ≡ record {
      world = w;
      answer = answers.Done c.in_ok-show_at-in-Some.field-0;
    }) c.self.view_is
    (shows-here sites packets c.args.name.now c.in-Some.place (new_site []) at within c.in_ok-show_at-in-Some.field-0 text)
