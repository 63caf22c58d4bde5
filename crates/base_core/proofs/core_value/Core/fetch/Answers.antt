-- what a unit that was started finds
use Rattle.legal_history.specs.Stories.Steps.{state_of}
use Rattle.base_core.proofs.Building.BuilderCalls.{fetched_so, started_within}
use Rattle.base_core.proofs.core_value.Core.fetch.Goals as goal

pub fetch_for_unit-requires : goal.fetch_for_unit-requires
fetch_for_unit-requires g c = record {
  unit = started_within (state_of c.args.self.now.story) c.args.lane c.args.unit
      c.build_at.result.now c.build_at.ensures.active c.requires;
}

pub returns : goal.returns
returns g c =
    fetched_so (state_of c.args.self.now.story) c.args.lane c.args.unit c.args.path.now c.rows.result c.build_at.result.now
    c.fetch_for_unit.result c.build_at.ensures.active c.rows.ensures c.fetch_for_unit.ensures
