use Rattle.std.proofs.Common.{◌≡◌, ℕ, get_or, true, sym, ap, ◌∙◌, subst}
use Rattle.vob_replica.specs.Tables.{is_entry_at}
use Rattle.vob_replica.proofs.PlaceLaws.{number-there, place-of}
use Rattle.vob_replica.proofs.tables.number_there.Goals as goal

-- the entry of the site is at no other place
pub returns : goal.returns
returns c =
    let entries = c.args.entries.now in
    let site = c.args.site.now in
    let place = c.args.place in
    let at = place-of site entries place c.requires.order c.requires.there in
    let d = c.index-entries-place.result in
    ap (λ (p : ℕ). (get_or entries p d).number) at
    ∙ sym (number-there site entries d (subst (λ (p : ℕ). is_entry_at entries p site ≡ true) at c.requires.there))
