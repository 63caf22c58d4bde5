use Rattle.std.proofs.Common.{List, ℕ, subst}
use Rattle.disk_model.specs.Devices.{LeavesNow}
use Rattle.disk_model.specs.DiskStates.{IfModeled}
use Rattle.vob_journal.specs.Moves.{Stands}
use Rattle.vob_journal.proofs.Journals.{unchanged_now}
use Rattle.vob_journal.proofs.journal.Journal.counts.Goals as goal

pub returns-clause-now : goal.returns-clause-now
returns-clause-now g c =
    subst (λ s. IfModeled (g.D.Disk.ghost_state s.disk).modeled (λ d. (image : List ℕ) → LeavesNow 0 d image
    → Stands s.list s.leftover image)) c.self.view_is
    (unchanged_now _ _ _ _ _ _ c.self.invariant)
