use Rattle.std.proofs.Common.{subst}
use Rattle.disk_model.specs.DiskStates.{Both}
use Rattle.vob_journal.specs.Added.{WritesOn}
use Rattle.vob_journal.specs.Calls.{CommitsFrame}
use Rattle.vob_journal.proofs.Adding.{commits_writes}
use Rattle.vob_journal.proofs.Telling.{both_map}
use Rattle.vob_journal.proofs.journal.Journal.append.Goals as goal

pub returns-in-Ok-clause-writes : goal.returns-in-Ok-clause-writes
returns-in-Ok-clause-writes g c =
    let journal = c.self.inside in
    subst (λ s. Both WritesOn (g.D.Disk.ghost_state s.disk).modeled (g.D.Disk.ghost_state c.commit.new.disk).modeled)
    c.self.view_is
    (both_map (CommitsFrame journal.settled journal.tail c.args.frame.now) WritesOn _ _
    (commits_writes journal.settled journal.tail c.args.frame.now) c.in-Ok.ensures.modeled)
