-- the build of a lane is kept
use Rattle.std.proofs.Common.{ap}
use Rattle.base_core.proofs.Building.FoundBuilds.{build_preserved}
use Rattle.base_core.proofs.core_value.Core.find_build.Goals as goal

pub returns-clause-kept : goal.returns-clause-kept
returns-clause-kept g c = λ build is. build_preserved c.self.inside.log c.self.inside.lanes c.self.inside.moment
    c.args.self.now.story c.args.lane build (ap (λ v. v.story) c.self.view_is) c.self.invariant is
