-- the last place has the last phase
use Rattle.std.proofs.Common.{sym, ◌∙◌}
use Rattle.base_core.proofs.Keeping.Phases.{last_phase-get_or}
use Rattle.base_core.proofs.phases.last_phase.Goals as goal

pub returns : goal.returns
returns c = sym (last_phase-get_or c.args.phases.now _ c.requires ∙ sym c.index-phases-phases.is)
