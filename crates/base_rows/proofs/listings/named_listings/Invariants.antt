use Rattle.std.specs.List.{AllByRecursion}
use Rattle.cc_names.specs.declared.rows.Deed.{Deed}
use Rattle.base_rows.specs.Listings.{IsMadeWith}
use Rattle.base_rows.proofs.listings.named_listings.Given as goal

abbrev pub invariant-loop-object : goal.invariant-loop-object
invariant-loop-object l = (deed : Deed) → AllByRecursion (IsMadeWith l.rows deed) l.made.items
