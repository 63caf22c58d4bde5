use Rattle.std.proofs.Common.{◌≤◌, arith}
use Rattle.vob_replica.proofs.VersionLaws.{behind-all}
use Rattle.vob_replica.proofs.branch.version_place.Goals as goal

-- no number is greater
pub returns-in_default-clause-place : goal.returns-in_default-clause-place
returns-in_default-clause-place c =
    let le : c.in-Some.last.now.number ≤ c.args.number = let same = c.number.ensures in let fits = c.if-number.false in
    omega arith in
    behind-all c.args.number c.args.versions.now c.in-Some.last.now c.requires c.in-Some.ensures.value le
