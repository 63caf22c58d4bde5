-- an object is winked in
use Rattle.base_core.specs.Calls.BuildCalls.{WinkedIn}
use Rattle.base_core.proofs.core_value.Core.wink.Goals as goal

pub commit_unit_row-requires : goal.commit_unit_row-requires
commit_unit_row-requires g c = WinkedIn c.in_ok-row.ensures
