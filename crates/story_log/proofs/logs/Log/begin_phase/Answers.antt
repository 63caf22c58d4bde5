-- a phase is told after the story
use Rattle.std.proofs.Common.{◌≡◌, ◌∷◌, [], ◌++◌, refl, ap, ◌∙◌}
use Rattle.cc_names.specs.declared.commands.Phase.{Phase}
use Rattle.cc_names.specs.declared.steps.StoryStep.TheVariants as story_steps
use Rattle.story_log.specs.Logging.Logs.{with_phase}
use Rattle.story_log.specs.Stopping.Journals.{journal_state}
use Rattle.story_log.specs.Stopping.Tails.{tail_of}
use Rattle.story_log.proofs.Logging.Appended.{log_of}
use Rattle.story_log.proofs.Logging.Logged.{logged_beside}
use Rattle.story_log.proofs.logs.Log.begin_phase.Goals as goal

pub invariant_of-self-2 : goal.invariant_of-self-2
invariant_of-self-2 g c =
    let log = c.self.inside in
    logged_beside log.steps.items log.rows.base (g.D.Disk.ghost_state log.journal.disk) (journal_state log.journal)
    c.self.invariant c.tell.new.self.items (story_steps.PhaseBegun c.of.result.value c.args.moment) c.tell.ensures
    (record { opened = refl; base = refl; ends = refl }) refl

pub returns-clause-ok : goal.returns-clause-ok
returns-clause-ok g c =
    let log = c.self.inside in
    let phases : c.push_reserved.new.self.items ≡ log.phases.items ++ c.args.phase ∷ [] = c.push_reserved.ensures.items
    ∙ ap (λ xs. xs ++ c.args.phase ∷ []) c.reserve.ensures.items in
    let told : c.tell.new.self.items ≡ log.steps.items ++ story_steps.PhaseBegun c.args.phase c.args.moment ∷ [] = c.tell.ensures
    ∙ ap (λ (p : Phase). log.steps.items ++ story_steps.PhaseBegun p c.args.moment ∷ []) c.of.ensures in
    (λ i. log_of (told i) log.rows.base (phases i) (g.D.Disk.ghost_state log.journal.disk) (tail_of log.journal))
    ∙ ap (λ log. with_phase log c.args.phase c.args.moment) c.self.view_is
