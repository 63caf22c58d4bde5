-- a unit is concluded without a row
use Rattle.legal_history.specs.Stories.States.{next_tag}
use Rattle.legal_history.specs.Stories.Steps.{state_of}
use Rattle.base_core.proofs.Building.UnitCalls.{builds_waits}
use Rattle.base_core.proofs.core_value.Core.conclude.Goals as goal

pub tag-tag-requires : goal.tag-tag-requires
tag-tag-requires g c = builds_waits (state_of c.args.self.now.story) c.args.lane
    (next_tag (state_of c.args.self.now.story) c.args.lane) c.requires.kept.waits
