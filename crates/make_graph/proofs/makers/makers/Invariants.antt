use Rattle.std.proofs.Common.{◌≡◌, ◌++◌, drop}
use Rattle.std.specs.HashMap.{get}
use Rattle.std.specs.List.{filter_map}
use Rattle.std.specs.Str.{bytes_eq}
use Rattle.make_graph.proofs.makers.makers.Given as goal

abbrev pub invariant-loop-path : goal.invariant-loop-path
invariant-loop-path l =
    l.made.items ++ filter_map (get bytes_eq l.numbers) (drop l.path-index l.paths) ≡ filter_map (get bytes_eq l.numbers) l.paths
