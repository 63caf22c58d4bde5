-- Each extent so far has a byte.
use Rattle.std.proofs.Common.{◌≤◌}
use Rattle.std.specs.Prelude.{All}
use Rattle.cc_names.specs.declared.rows.Extent.{Extent}
use Rattle.container_store_tests.proofs.tests.extents_of.Given as goal

abbrev pub invariant-loop-text : goal.invariant-loop-text
invariant-loop-text l = All (λ (e : Extent). 1 ≤ e.length) l.extents.items
