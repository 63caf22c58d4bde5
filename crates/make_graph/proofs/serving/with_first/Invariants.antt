use Rattle.std.proofs.Common.{◌≡◌, ◌∷◌, ◌++◌, drop, filter, not}
use Rattle.std.specs.Str.{bytes_eq}
use Rattle.make_graph.proofs.serving.with_first.Given as goal

abbrev pub invariant-loop-path : goal.invariant-loop-path
invariant-loop-path l =
    l.all.items ++ filter (λ other. not (bytes_eq l.first other)) (drop l.path-index l.paths) ≡ l.first
    ∷ filter (λ other. not (bytes_eq l.first other)) l.paths
