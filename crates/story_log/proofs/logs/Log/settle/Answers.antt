-- the tail is settled where a fault left it open
use Rattle.std.proofs.Common.{◌≡◌, ◌≤◌, ◌+◌, ◌∙◌, true, sym, subst}
use Rattle.std.specs.Prelude.{is_ok}
use Rattle.disk_model.specs.DiskStates.{Both}
use Rattle.vob_journal.specs.Added.{WritesOn}
use Rattle.legal_history.specs.Stories.Steps.{state_of}
use Rattle.story_log.specs.Logging.Appending.{SettlesTail}
use Rattle.story_log.specs.Logging.Logs.{IsLogged}
use Rattle.story_log.specs.Stopping.Backed.{IsSettled}
use Rattle.story_log.specs.Stopping.Journals.{journal_state}
use Rattle.story_log.specs.Stopping.Tails.{tail_after_settling, tail_of}
use Rattle.story_log.proofs.Logging.Appended.{ajar_if_something, few_calls, settled_if_nothing, settles_no_tail, settles_tail}
use Rattle.story_log.proofs.Logging.Appended.{tail_rests, tail_settled, writes_none}
use Rattle.story_log.proofs.Stopping.Settled.{logged_settled, settled_before, settled_so}
use Rattle.story_log.proofs.logs.Log.settle.Goals as goal

pub invariant_of-self : goal.invariant_of-self
invariant_of-self g c =
    let log = c.self.inside in
    logged_settled log.steps.items log.rows.base
    (g.D.Disk.ghost_state log.journal.disk) (g.D.Disk.ghost_state c.settle.new.self.disk) (journal_state log.journal)
    (journal_state c.settle.new.self) c.self.invariant c.settle.ensures.moves c.settle.ensures.list c.settle.ensures.ended
    (g.met.D.Disk.counted log.journal.disk) (λ e. c.in_default.not-Nothing (c.left_by_last_call.ensures ∙ e))
    c.settle.ensures.settled _ c.settle.result c.settle.ensures.leftover c.settle.ensures.left c.settle.ensures.costs

pub returns-in_default-clause-writes : goal.returns-in_default-clause-writes
returns-in_default-clause-writes g c =
    subst (λ log. Both WritesOn log.ghost_state.modeled (g.D.Disk.ghost_state c.settle.new.self.disk).modeled) c.self.view_is
    c.settle.ensures.writes

pub returns-in-Nothing-clause-writes : goal.returns-in-Nothing-clause-writes
returns-in-Nothing-clause-writes g c =
    subst (λ log. Both WritesOn log.ghost_state.modeled log.ghost_state.modeled) c.self.view_is
    (writes_none (g.D.Disk.ghost_state c.self.inside.journal.disk).modeled)

pub returns-in_default-clause-few : goal.returns-in_default-clause-few
returns-in_default-clause-few g c =
    subst (λ log. (g.D.Disk.ghost_state c.settle.new.self.disk).ticks ≤ log.ghost_state.ticks + 2) c.self.view_is
    (few_calls c.self.inside.journal.settled c.settle.result (g.D.Disk.ghost_state c.self.inside.journal.disk)
    (g.D.Disk.ghost_state c.settle.new.self.disk) c.settle.ensures.costs)

pub returns-in-Nothing-clause-ok : goal.returns-in-Nothing-clause-ok
returns-in-Nothing-clause-ok g c =
    let log = c.self.inside in
    subst (λ l. IsSettled (state_of l.story) l.ghost_state) c.self.view_is
    (settled_before (state_of log.steps.items) (g.D.Disk.ghost_state log.journal.disk) (journal_state log.journal)
    c.self.invariant.backed (sym c.left_by_last_call.ensures ∙ c.in-Nothing.is))

pub returns-in_default-clause-ok : goal.returns-in_default-clause-ok
returns-in_default-clause-ok g c =
    let log = c.self.inside in
    let logged : IsLogged log.steps.items log.rows.base (g.D.Disk.ghost_state c.settle.new.self.disk)
    (journal_state c.settle.new.self) = invariant_of-self g c in
    settled_so (state_of log.steps.items) (g.D.Disk.ghost_state c.settle.new.self.disk) log.journal.leftover
    (journal_state c.settle.new.self) c.settle.result logged.backed c.settle.ensures.leftover

pub returns-in-Nothing-clause-calls : goal.returns-in-Nothing-clause-calls
returns-in-Nothing-clause-calls g c =
    let log = c.self.inside in
    let ends = (state_of log.steps.items).ends in
    subst (λ l. SettlesTail (state_of l.story).ends l.tail l.ghost_state l.ghost_state) c.self.view_is
    (settles_no_tail ends (tail_of log.journal) (g.D.Disk.ghost_state log.journal.disk)
    (settled_if_nothing ends log.journal.settled log.journal.left c.self.invariant.backed.settled
    (sym c.left_by_last_call.ensures ∙ c.in-Nothing.is)))

pub returns-in-Nothing-clause-tail : goal.returns-in-Nothing-clause-tail
returns-in-Nothing-clause-tail g c =
    let log = c.self.inside in
    let ends = (state_of log.steps.items).ends in
    subst (λ l. l.tail ≡ tail_after_settling (state_of l.story).ends true l.tail) c.self.view_is
    (tail_rests ends (tail_of log.journal) (settled_if_nothing ends log.journal.settled log.journal.left
    c.self.invariant.backed.settled (sym c.left_by_last_call.ensures ∙ c.in-Nothing.is)))

pub returns-in_default-clause-calls : goal.returns-in_default-clause-calls
returns-in_default-clause-calls g c =
    let log = c.self.inside in
    let ends = (state_of log.steps.items).ends in
    let backed = c.self.invariant.backed in
    let ajar = ajar_if_something ends log.journal.settled log.journal.left backed.settled backed.calm
    (λ e. c.in_default.not-Nothing (c.left_by_last_call.ensures ∙ e)) in
    subst (λ l. SettlesTail (state_of l.story).ends l.tail l.ghost_state (g.D.Disk.ghost_state c.settle.new.self.disk))
    c.self.view_is
    (settles_tail _ c.settle.result ends (tail_of log.journal) _ _ ajar.0 ajar.1 c.settle.ensures.costs c.settle.ensures.calls)

pub returns-in_default-clause-tail : goal.returns-in_default-clause-tail
returns-in_default-clause-tail g c =
    let log = c.self.inside in
    let ends = (state_of log.steps.items).ends in
    let backed = c.self.invariant.backed in
    let ajar = ajar_if_something ends log.journal.settled log.journal.left backed.settled backed.calm
    (λ e. c.in_default.not-Nothing (c.left_by_last_call.ensures ∙ e)) in
    subst (λ l. tail_of c.settle.new.self ≡ tail_after_settling (state_of l.story).ends (is_ok c.settle.result) l.tail)
    c.self.view_is
    (tail_settled c.settle.result ends (tail_of log.journal) (tail_of c.settle.new.self) c.settle.new.self.left ajar.0
    c.settle.ensures.tail c.settle.ensures.settled c.settle.ensures.left)
