-- a step is told after the story
use Rattle.std.proofs.Common.{ap, ◌∙◌}
use Rattle.story_log.specs.Logging.Logs.{with_step}
use Rattle.story_log.specs.Stopping.Journals.{journal_state}
use Rattle.story_log.specs.Stopping.Tails.{tail_of}
use Rattle.story_log.specs.Story.Telling.{told}
use Rattle.story_log.proofs.Logging.Appended.{log_of}
use Rattle.story_log.proofs.Logging.Logged.{logged_quiet}
use Rattle.story_log.proofs.logs.Log.tell.Goals as goal

pub invariant_of-self : goal.invariant_of-self
invariant_of-self g c =
    let log = c.self.inside in
    logged_quiet log.steps.items log.rows.base (g.D.Disk.ghost_state log.journal.disk) (journal_state log.journal)
    c.self.invariant c.tell.new.self.items (told c.args.step.now) c.tell.ensures c.requires.quiet

pub returns : goal.returns
returns g c =
    let log = c.self.inside in
    (λ i. log_of (c.tell.ensures i) log.rows.base log.phases.items (g.D.Disk.ghost_state log.journal.disk) (tail_of log.journal))
    ∙ ap (λ log. with_step log (told c.args.step.now)) c.self.view_is
