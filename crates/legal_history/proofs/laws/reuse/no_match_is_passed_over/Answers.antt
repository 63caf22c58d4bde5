use Rattle.legal_history.proofs.laws.reuse.no_match_is_passed_over.Goals as goal
use Rattle.legal_history.proofs.Reuse.OwnRecords.{no_second_record}
use Rattle.legal_history.proofs.Reuse.PassedOver.{nothing_passed_over}

pub returns-clause-live : goal.returns-clause-live
returns-clause-live c = nothing_passed_over

pub returns-clause-record_is_new : goal.returns-clause-record_is_new
returns-clause-record_is_new c = no_second_record
