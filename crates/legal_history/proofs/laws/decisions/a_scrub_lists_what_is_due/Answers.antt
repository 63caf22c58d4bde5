use Rattle.legal_history.proofs.laws.decisions.a_scrub_lists_what_is_due.Goals as goal
use Rattle.legal_history.proofs.Decisions.DueObjects.{scrub_lists}

pub returns : goal.returns
returns c = scrub_lists
