use Rattle.legal_history.proofs.laws.outputs.outputs_change_nothing.Goals as goal
use Rattle.legal_history.proofs.Outputs.Alike.{fits_alike, base_alike, live_alike, targets_alike, text_alike, rerun_alike}

pub returns-clause-fits : goal.returns-clause-fits
returns-clause-fits c = fits_alike

pub returns-clause-base : goal.returns-clause-base
returns-clause-base c = base_alike

pub returns-clause-live : goal.returns-clause-live
returns-clause-live c = live_alike

pub returns-clause-targets : goal.returns-clause-targets
returns-clause-targets c = targets_alike

pub returns-clause-text : goal.returns-clause-text
returns-clause-text c = text_alike

pub returns-clause-rerun : goal.returns-clause-rerun
returns-clause-rerun c = rerun_alike
