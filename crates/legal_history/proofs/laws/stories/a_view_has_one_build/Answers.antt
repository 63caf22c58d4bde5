use Rattle.legal_history.proofs.laws.stories.a_view_has_one_build.Goals as goal
use Rattle.legal_history.proofs.Reuse.SoundBases.{one_build}

pub returns : goal.returns
returns c = one_build
