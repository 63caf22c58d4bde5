use Rattle.std.proofs.Common.{◌≡◌, ◌++◌, drop}
use Rattle.std.specs.Prelude.{flat_map}
use Rattle.vob_replica.specs.Showing.{version_line}
use Rattle.vob_replica.proofs.showing.push_versions.Given as goal

abbrev pub invariant-loop-version : goal.invariant-loop-version
invariant-loop-version l = l.text.items ++ flat_map version_line (drop l.version-index l.versions) ≡ l.initial.text.items
    ++ flat_map version_line l.versions
