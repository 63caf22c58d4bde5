-- the opening step names all rows
use Rattle.story_log.specs.Stopping.Journals.{journal_state}
use Rattle.story_log.specs.Stopping.Tails.{tail_of}
use Rattle.story_log.specs.Story.Handed.{handed_disk}
use Rattle.story_log.proofs.Logging.Appended.{log_of}
use Rattle.story_log.proofs.Logging.Logged.{logged_opening}
use Rattle.story_log.proofs.logs.Log.open.Goals as goal

pub invariant_of-result : goal.invariant_of-result
invariant_of-result g c =
    logged_opening (handed_disk c.args.handed g.D.Disk.tells) c.args.rows.base c.opening-steps.result.items
    (g.D.Disk.ghost_state c.args.journal.disk) (journal_state c.args.journal) c.opening-steps.ensures c.requires

pub returns : goal.returns
returns g c =
    λ i. log_of (c.opening-steps.ensures i) c.args.rows.base (c.new.ensures.items i) (g.D.Disk.ghost_state c.args.journal.disk)
    (tail_of c.args.journal)
