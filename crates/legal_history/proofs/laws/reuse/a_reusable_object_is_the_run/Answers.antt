use Rattle.legal_history.proofs.laws.reuse.a_reusable_object_is_the_run.Goals as goal
use Rattle.legal_history.proofs.Reuse.Matched.{match_is_run}
use Rattle.legal_history.proofs.Reuse.Reusables.{first_are_base, reusable_matches}
use Rattle.legal_history.proofs.Reuse.TrueObjects.{live_is_true}

pub returns : goal.returns
returns c = λ b build n unit id base sound gives is.
    let m = reusable_matches b build n unit id base is in
    match_is_run b build n unit id base (first_are_base b build.rows base) sound gives (live_is_true b id sound m.lives)
    m.matches_unit
