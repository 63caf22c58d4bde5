use Rattle.std.proofs.Common.{◌≡◌, ◌+◌, drop}
use Rattle.vob_replica.specs.Sites.{place_in}
use Rattle.vob_replica.proofs.sites.place_of.Given as goal

abbrev pub invariant-loop-site : goal.invariant-loop-site
invariant-loop-site l = record {
  at : l.place ≡ l.site-index;
  same : l.place + place_in l.name (drop l.site-index l.sites) ≡ place_in l.name l.sites;
}
