use Rattle.vob_replica.proofs.PlaceLaws.{place-of}
use Rattle.vob_replica.proofs.tables.place_near.Goals as goal

-- the entry of the site is at no other place
pub returns-in-Ok-clause-place : goal.returns-in-Ok-clause-place
returns-in-Ok-clause-place c = place-of c.args.site.now c.args.entries.now c.in-Ok.place c.requires c.in-Ok.ensures.1
