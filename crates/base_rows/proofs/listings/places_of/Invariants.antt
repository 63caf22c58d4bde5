use Rattle.std.proofs.Common.{◌≡◌, ◌++◌, map}
use Rattle.base_model.specs.Closures.{as_placed}
use Rattle.base_rows.proofs.listings.places_of.Given as goal

abbrev pub invariant-loop-element : goal.invariant-loop-element
invariant-loop-element l = l.placed.items ++ map as_placed l.element-iterator ≡ map as_placed l.versions.entries
