use Rattle.std.proofs.Common.{◌≡◌, ℕ, false, sym, subst}
use Rattle.vob_replica.specs.Tables.{is_entry_at}
use Rattle.vob_replica.proofs.PlaceLaws.{number-missing, place-of}
use Rattle.vob_replica.proofs.tables.number_near.Goals as goal

-- the site has an entry, which is at no other place
pub returns-in-Ok-clause-place : goal.returns-in-Ok-clause-place
returns-in-Ok-clause-place c = place-of c.args.site.now c.args.entries.now c.in-Ok.place c.requires c.in-Ok.ensures.1

-- it has none
pub returns-in-Err-clause-number : goal.returns-in-Err-clause-number
returns-in-Err-clause-number c =
    let entries = c.args.entries.now in
    let site = c.args.site.now in
    sym (number-missing site entries c.requires
    (subst (λ (p : ℕ). is_entry_at entries p site ≡ false) c.in-Err.ensures.0 c.in-Err.ensures.1))
