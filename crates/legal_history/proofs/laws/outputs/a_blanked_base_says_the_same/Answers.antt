use Rattle.legal_history.proofs.laws.outputs.a_blanked_base_says_the_same.Goals as goal
use Rattle.legal_history.proofs.Outputs.Fitting.{fits_same, base_same}
use Rattle.legal_history.proofs.Outputs.Reruns.{text_same, rerun_same}
use Rattle.legal_history.proofs.Outputs.States.{live_same, targets_same}

pub returns-clause-fits : goal.returns-clause-fits
returns-clause-fits c = fits_same

pub returns-clause-base : goal.returns-clause-base
returns-clause-base c = base_same

pub returns-clause-live : goal.returns-clause-live
returns-clause-live c = live_same

pub returns-clause-targets : goal.returns-clause-targets
returns-clause-targets c = targets_same

pub returns-clause-text : goal.returns-clause-text
returns-clause-text c = text_same

pub returns-clause-rerun : goal.returns-clause-rerun
returns-clause-rerun c = rerun_same
