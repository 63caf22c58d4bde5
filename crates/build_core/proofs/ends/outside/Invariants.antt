use Rattle.std.proofs.Common.{◌≡◌, drop}
use Rattle.legal_history.specs.Builds.Fresh.{sees_directory}
use Rattle.legal_history.specs.Builds.Serials.{outside}
use Rattle.build_core.proofs.ends.outside.Given as goal

abbrev pub invariant-loop-path : goal.invariant-loop-path
invariant-loop-path l = outside (sees_directory l.rows l.build.view) (drop l.path-index l.paths)
    ≡ outside (sees_directory l.rows l.build.view) l.paths
