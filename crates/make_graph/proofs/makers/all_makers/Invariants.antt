use Rattle.std.proofs.Common.{◌≡◌, take}
use Rattle.std.specs.HashMap.{get}
use Rattle.std.specs.List.{filter_map}
use Rattle.std.specs.Prelude.{map}
use Rattle.std.specs.Str.{bytes_eq}
use Rattle.cc_names.specs.declared.units.Unit.{Unit}
use Rattle.make_graph.proofs.makers.all_makers.Given as goal

abbrev pub invariant-loop-unit : goal.invariant-loop-unit
invariant-loop-unit l =
    l.all.items ≡ map (λ (unit : Unit). filter_map (get bytes_eq l.numbers) unit.prerequisites) (take l.unit-index l.units)
