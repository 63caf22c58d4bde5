use Rattle.legal_history.proofs.laws.reuse.a_match_is_the_run.Goals as goal
use Rattle.legal_history.proofs.Reuse.Matched.{match_is_run}
use Rattle.legal_history.proofs.Reuse.Reusables.{first_are_base}

pub returns : goal.returns
returns c = λ b build n unit id base sound gives is match. match_is_run b build n unit id base (first_are_base b build.rows base)
    sound gives is match
