use Rattle.legal_history.proofs.laws.reuse.a_matching_entry_is_seen.Goals as goal
use Rattle.legal_history.proofs.Reuse.MatchedEntries.{absent_is_unseen, entry_is_seen}

pub returns-clause-row : goal.returns-clause-row
returns-clause-row c = entry_is_seen

pub returns-clause-absent : goal.returns-clause-absent
returns-clause-absent c = absent_is_unseen
