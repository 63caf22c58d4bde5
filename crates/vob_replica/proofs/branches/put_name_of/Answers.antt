use Rattle.std.proofs.Common.{sym, ◌∙◌}
use Rattle.std.specs.Map.{values_of}
use Rattle.vob_replica.proofs.KeptLaws.{missing-key}
use Rattle.vob_replica.proofs.NameLaws.{put-ok, put-err}
use Rattle.vob_replica.proofs.branches.put_name_of.Goals as goal

-- no branch has the identity
pub returns-clause-ok : goal.returns-clause-ok
returns-clause-ok c =
    put-ok c.put_name.result c.args.names.now c.put_name.new.names (values_of c.args.branches.now.entries) c.args.tree.now
    c.requires.names
    (missing-key c.identity.result.now c.args.tree.now c.args.branches.now.entries c.requires.kept.keyed c.identity.ensures
    (sym c.contains_key.ensures ∙ c.if-contains_key.false))
    c.put_name.ensures.ok

pub returns-clause-err : goal.returns-clause-err
returns-clause-err c =
    put-err c.put_name.result c.args.names.now c.put_name.new.names (values_of c.args.branches.now.entries) c.requires.names
    c.put_name.ensures.err
