-- a unit whose script was run is finished, unless it has its outcome already
use Rattle.std.proofs.Common.{sym, ◌∙◌}
use Rattle.build_script.specs.Ended.{ran_of}
use Rattle.legal_history.specs.Stories.Steps.{state_of}
use Rattle.base_core.proofs.Building.FoundBuilds.{has_run}
use Rattle.base_core.proofs.core_value.Core.finish_unit.Goals as goal

pub finish_run-requires : goal.finish_run-requires
finish_run-requires g c = has_run (state_of c.args.self.now.story) c.args.lane c.args.unit (ran_of c.args.ended)
    c.build_at.result.now c.requires c.build_at.ensures.active c.build_at.ensures.kept (sym c.has_outcome.ensures
    ∙ c.if-has_outcome.false)
