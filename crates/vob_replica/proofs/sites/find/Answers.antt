use Rattle.std.proofs.Common.{arith}
use Rattle.vob_replica.proofs.SiteLaws.{site_in-none}
use Rattle.vob_replica.proofs.sites.find.Goals as goal

-- no site has the name
pub returns-else-place-sites-clause-none : goal.returns-else-place-sites-clause-none
returns-else-place-sites-clause-none c =
    site_in-none c.args.name.now c.args.sites.now (omega (
      arith,
      c.if-place-sites.false,
      c.place_of-place.ensures.place,
      c.place_of-place.ensures.within,
    ))
