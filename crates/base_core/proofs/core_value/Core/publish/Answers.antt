-- what a unit's run gave is published
use Rattle.std.proofs.Common.{ap, ◌∙◌}
use Rattle.base_model.specs.Rows.{size}
use Rattle.base_core.specs.Calls.BuildCalls.{Published}
use Rattle.base_core.proofs.core_value.Core.publish.Goals as goal

pub commit_unit_row-requires : goal.commit_unit_row-requires
commit_unit_row-requires g c = Published c.in_ok-row.ensures (c.size-object.ensures.size ∙ ap size c.rows.ensures)
