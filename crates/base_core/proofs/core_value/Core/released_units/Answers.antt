-- the units that a unit of the kept build has released are those of its lane
use Rattle.legal_history.specs.Stories.Steps.{state_of}
use Rattle.base_core.proofs.Building.BuilderCalls.{building_within}
use Rattle.base_core.proofs.core_value.Core.released_units.Goals as goal

pub released_units-requires : goal.released_units-requires
released_units-requires g c = building_within (state_of c.args.self.now.story) c.args.lane c.requires.0 c.args.unit
    c.build_at.result.now c.build_at.ensures.active c.requires.1 c.requires.2
