use Rattle.std.proofs.Common.{◌≡◌, drop}
use Rattle.std.specs.Prelude.{find}
use Rattle.legal_history.specs.Builds.Fresh.{sees_file}
use Rattle.legal_history.specs.Builds.Serials.{is_missing, standing_or_file}
use Rattle.legal_history.specs.Builds.Turns.{standing_of_unit}
use Rattle.build_core.proofs.ends.first_missing.Given as goal

abbrev pub invariant-loop-path : goal.invariant-loop-path
invariant-loop-path l =
    find (λ path. is_missing (standing_or_file (sees_file l.rows l.build.view path) (standing_of_unit l.build path)))
    (drop l.path-index l.paths) ≡
    find (λ path. is_missing (standing_or_file (sees_file l.rows l.build.view path) (standing_of_unit l.build path))) l.paths
