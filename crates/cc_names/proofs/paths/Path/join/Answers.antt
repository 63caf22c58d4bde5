use Rattle.std.proofs.Common.{sym, subst}
use Rattle.cc_names.specs.Paths.{IsPath}
use Rattle.cc_names.proofs.Joins.{join-at_root}
use Rattle.cc_names.proofs.paths.Path.join.Goals as goal

pub of-requires : goal.of-requires
of-requires c =
    subst IsPath (sym c.as_bytes.ensures.bytes) (join-at_root c.args.name.now c.as_bytes.ensures.name).1
