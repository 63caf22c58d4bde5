use Rattle.legal_history.proofs.laws.reuse.a_published_object_is_true.Goals as goal
use Rattle.legal_history.proofs.Builds.Published.{is_publish}
use Rattle.legal_history.proofs.Reuse.PublishedTrue.{published_is_true}
use Rattle.legal_history.proofs.Reuse.Reusables.{first_are_base}

pub returns : goal.returns
returns c = λ row b build n unit base sound gives is.
    published_is_true row b build n unit (first_are_base b build.rows base) sound gives (is_publish b build n unit row.deed is)
