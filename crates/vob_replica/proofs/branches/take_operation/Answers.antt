use Rattle.std.proofs.Common.{refl}
use Rattle.std.specs.Map.{values_of}
use Rattle.vob_replica.specs.Branches.{with_master, with_version_by}
use Rattle.vob_replica.specs.Trees.{Tree}
use Rattle.vob_replica.proofs.KeptLaws.{err-values}
use Rattle.vob_replica.proofs.NameLaws.{kept-changed}
use Rattle.vob_replica.proofs.branches.take_operation.Goals as goal

-- a version or a master changes no name
pub returns-in-Version-clause-names : goal.returns-in-Version-clause-names
returns-in-Version-clause-names c =
    kept-changed c.put_version.result c.args.names.now (values_of c.args.branches.now.entries)
    (values_of c.put_version.new.branches.entries)
    c.in-Version.branch (λ (tree : Tree). with_version_by tree c.in-Version.number c.in_ok-made.made) (λ tree. refl)
    c.requires.names c.put_version.ensures.ok
    (err-values c.put_version.result c.args.branches.now.entries c.put_version.new.branches.entries c.put_version.ensures.err)

pub returns-in-Master-clause-names : goal.returns-in-Master-clause-names
returns-in-Master-clause-names c =
    kept-changed c.push_master.result c.args.names.now (values_of c.args.branches.now.entries)
    (values_of c.push_master.new.branches.entries)
    c.in-Master.branch (λ (tree : Tree). with_master tree c.in_ok-made.made) (λ tree. refl)
    c.requires.names c.push_master.ensures.ok
    (err-values c.push_master.result c.args.branches.now.entries c.push_master.new.branches.entries c.push_master.ensures.err)
