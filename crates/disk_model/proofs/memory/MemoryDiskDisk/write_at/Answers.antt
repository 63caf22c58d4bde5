use Rattle.std.proofs.Common.{arith, length-take}
use Rattle.disk_model.proofs.Pictures.{tears_prefix}
use Rattle.disk_model.proofs.memory.MemoryDiskDisk.write_at.Goals as goal

pub returns-clause-modeled : goal.returns-clause-modeled
returns-clause-modeled c =
    tears_prefix c.args.file c.args.place _ c.args.piece.now _ _ _ (simp length-take (omega arith)) c.tear.ensures.modeled
