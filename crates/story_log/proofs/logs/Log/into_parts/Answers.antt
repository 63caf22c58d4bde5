-- what the disk keeps of the history, and the rows that it names
use Rattle.std.proofs.Common.{subst, sym, ◌∙◌}
use Rattle.legal_history.specs.Stories.Steps.{state_of}
use Rattle.story_log.specs.Stopping.Backed.{IsAccounted}
use Rattle.story_log.specs.Stopping.Journals.{journal_state}
use Rattle.story_log.proofs.Stopping.Settled.{accounted}
use Rattle.story_log.proofs.logs.Log.into_parts.Goals as goal

pub of-requires : goal.of-requires
of-requires g c = c.self.invariant.named ∙ sym c.into_vec.ensures

pub returns-clause-backed : goal.returns-clause-backed
returns-clause-backed g c = subst (λ log. IsAccounted (state_of log.story) log.ghost_state) c.self.view_is
    (accounted _ (g.D.Disk.ghost_state c.self.inside.journal.disk) (journal_state c.self.inside.journal) c.self.invariant.backed
    (g.met.D.Disk.counted c.self.inside.journal.disk))
