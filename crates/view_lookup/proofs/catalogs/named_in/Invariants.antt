use Rattle.std.proofs.Common.{◌≡◌, length}
use Rattle.base_model.specs.Catalogs.{element_named}
use Rattle.view_lookup.specs.Resolving.{catalog_in}
use Rattle.view_lookup.proofs.catalogs.named_in.Given as goal

-- the name that is looked for stands for what the first one did
abbrev pub invariant-loop-found : goal.invariant-loop-found
invariant-loop-found l = element_named l.name (catalog_in l.rows l.catalog)
    ≡ element_named l.fn.name (catalog_in l.fn.rows l.fn.catalog)

abbrev pub decreases-loop-found : goal.decreases-loop-found
decreases-loop-found l = length l.rows
