use Rattle.std.proofs.Common.{◌≡◌, Some, drop}
use Rattle.cc_names.specs.declared.units.Unit as units
use Rattle.legal_history.specs.Builds.Active.{unit_at}
use Rattle.legal_history.specs.Builds.Choices.{in_order, visible}
use Rattle.build_core.proofs.publishes.rows_seen.Given as goal

abbrev pub invariant-loop-index : goal.invariant-loop-index
invariant-loop-index l = (it : units.Unit) → unit_at l.build l.unit ≡ Some it
    → l.found.entries ≡ in_order (visible l.rows l.build l.unit it) (drop l.index l.reads)
