-- a build begins in its lane's place
use Rattle.std.proofs.Common.{◌-◌, get_or, set, Some, ap, ◌∙◌}
use Rattle.base_core.proofs.Keeping.LaneSets.{put_is}
use Rattle.base_core.proofs.lanes.Lanes.open.Goals as goal

pub returns : goal.returns
returns c =
    ap (λ lanes. set lanes (c.args.lane - 1) c.set_build.new.self) c.self.view_is
    ∙ put_is c.args.self.now c.args.lane c.index_mut.result.now c.set_build.new.self (Some c.args.build) c.requires.from
    c.requires.upto
    (c.index_mut.ensures.value ∙ ap (λ lanes. get_or lanes (c.args.lane - 1) c.index_mut.result.now) c.self.view_is)
    c.set_build.ensures.commands c.set_build.ensures.replies c.set_build.ensures.room c.set_build.ensures.build
