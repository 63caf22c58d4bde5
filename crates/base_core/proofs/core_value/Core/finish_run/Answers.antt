-- a unit whose script was run is finished
use Rattle.std.proofs.Common.{ap}
use Rattle.build_script.specs.Ended.{ran_of, outputs_in}
use Rattle.legal_history.specs.Stories.Steps.{state_of}
use Rattle.base_core.proofs.Building.FoundBuilds.{fails_so}
use Rattle.base_core.proofs.core_value.Core.finish_run.Goals as goal

pub conclude-requires : goal.conclude-requires
conclude-requires g c = fails_so (state_of c.args.self.now.story) c.args.lane c.args.unit (ran_of c.args.ended) c.in-Err.fault
    c.requires (ap outputs_in c.in-Err.is)
