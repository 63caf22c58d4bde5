-- a row is appended to the journal, and what became of it is told
use Rattle.std.proofs.Common.{◌≡◌, true, ◌∷◌, [], ◌++◌, Option, List, refl, ap, ap₂, sym, subst, ◌∙◌}
use Rattle.std.specs.Option.{option_to_list}
use Rattle.std.specs.Prelude.{option_map}
use Rattle.cc_names.specs.Formed.{Plain}
use Rattle.cc_names.specs.declared.steps.StoryStep.{StoryStep}
use Rattle.cc_names.specs.declared.steps.StoryStep.TheVariants as story_steps
use Rattle.disk_model.specs.DiskStates.{IfModeled}
use Rattle.base_model.specs.Fits.{fits}
use Rattle.legal_history.specs.Stories.States.{hanging}
use Rattle.legal_history.specs.Stories.Steps.{state_of}
use Rattle.vob_journal.specs.Lefts.{leftover_after, settled_after}
use Rattle.story_log.specs.Logging.Appending.{IsCommitted, IsFaulted}
use Rattle.story_log.specs.Logging.Leaving.{LeftSo, left_row}
use Rattle.story_log.specs.Logging.Logs.{IsLogged}
use Rattle.story_log.specs.Stopping.Journals.{journal_state}
use Rattle.story_log.specs.Stopping.Tails.{Tail, tail_after_fault, tail_of}
use Rattle.story_log.proofs.Logging.Appended.{earlier_unsettled, is_committed, is_faulted, log_of, logged_faulted, quiet_ending}
use Rattle.story_log.proofs.Logging.Logged.{logged_row}
use Rattle.story_log.proofs.Logging.Logging.{MissesRow, TakesRow}
use Rattle.story_log.proofs.logs.Log.append.Goals as goal

pub invariant_of-self-in-Ok : goal.invariant_of-self-in-Ok
invariant_of-self-in-Ok g c =
    let ghost_state = g.D.Disk.ghost_state in
    let log = c.self.inside in
    let rows : c.add_committed.new.rows.base ≡ c.args.row ∷ log.rows.base = c.add_committed.ensures.rows
    ∙ ap (λ b. c.args.row ∷ b) c.make_ready.ensures.same in
    let took : TakesRow c.args.row (ghost_state log.journal.disk) (ghost_state c.append.new.self.disk)
    (journal_state log.journal) (journal_state c.append.new.self) = record {
      moves = c.in-Ok.ensures.moves;
      grown = subst (λ f. IfModeled (ghost_state log.journal.disk).modeled
          (λ _. (c.append.new.self.list ≡ log.journal.list ++ f ∷ []) × (c.append.new.self.leftover ≡ [])))
          c.in_ok-frame.ensures.frame c.in-Ok.ensures.ok;
      faults = c.in-Ok.ensures.costs.1;
      was = g.met.D.Disk.counted log.journal.disk;
      counted = g.met.D.Disk.counted c.append.new.self.disk;
      ended = c.in-Ok.ensures.ended;
      left = c.in-Ok.ensures.left;
      settled = c.in-Ok.ensures.settled;
    } in
    logged_row log.steps.items log.rows.base
    (ghost_state log.journal.disk) (journal_state log.journal) c.self.invariant c.add_committed.new.steps.items
    c.add_committed.new.rows.base c.in-Ok.tick c.args.row (ghost_state c.append.new.self.disk)
    (journal_state c.append.new.self) c.add_committed.ensures.steps rows took c.in-Ok.ensures.tick
    (subst (λ b. fits b c.args.row.deed ≡ true) (ap (λ l. l.base) (sym c.self.view_is)) c.requires.fits) c.in_ok-frame.ensures.formed

pub returns-in-Ok-clause-ok : goal.returns-in-Ok-clause-ok
returns-in-Ok-clause-ok g c =
    let ghost_state = g.D.Disk.ghost_state in
    let log = c.self.inside in
    let rows : c.add_committed.new.rows.base ≡ c.args.row ∷ log.rows.base = c.add_committed.ensures.rows
    ∙ ap (λ b. c.args.row ∷ b) c.make_ready.ensures.same in
    subst (λ old. IsCommitted old (log_of c.add_committed.new.steps.items c.add_committed.new.rows.base log.phases.items
    (ghost_state c.append.new.self.disk) (tail_of c.append.new.self)) c.args.row) c.self.view_is
    (is_committed log.steps.items log.rows.base log.phases.items (ghost_state log.journal.disk)
    (ghost_state c.append.new.self.disk) (tail_of log.journal) (journal_state log.journal) c.self.invariant
    c.add_committed.new.steps.items c.add_committed.new.rows.base (tail_of c.append.new.self) c.in_ok-frame.frame c.in-Ok.tick c.args.row
    c.add_committed.ensures.steps rows (λ i. record {
      place = c.in-Ok.ensures.tail i;
      settled = (c.in-Ok.ensures.settled ∙ ap settled_after c.in-Ok.ensures.left) i;
    })
    c.in_ok-frame.ensures.frame c.in-Ok.ensures.tick c.in-Ok.ensures.costs.0
    c.in-Ok.ensures.costs.1 c.in_ok-frame.ensures.formed (g.met.D.Disk.counted c.append.new.self.disk) c.in-Ok.ensures.writes
    c.in-Ok.ensures.calls)

pub invariant_of-self : goal.invariant_of-self
invariant_of-self g c =
    let log = c.self.inside in
    subst (λ rows. IsLogged log.steps.items rows (g.D.Disk.ghost_state log.journal.disk) (journal_state log.journal))
    (sym c.make_ready.ensures.same) c.self.invariant

pub invariant_of-self-2 : goal.invariant_of-self-2
invariant_of-self-2 g c =
    let ghost_state = g.D.Disk.ghost_state in
    let log = c.self.inside in
    let hung = hanging (state_of log.steps.items).ends in
    let found = left_row hung c.args.row c.left_by_last_call-left.result in
    let ending = option_map story_steps.End c.args.building in
    let left : LeftSo hung c.args.row c.append.new.self.left found =
    ap (left_row hung c.args.row) c.left_by_last_call-left.ensures in
    let missed : MissesRow c.args.row (ghost_state log.journal.disk) (ghost_state c.append.new.self.disk)
    (journal_state log.journal) (journal_state c.append.new.self) = record {
      moves = c.in_default.ensures.moves;
      stays = subst (λ f. IfModeled (ghost_state log.journal.disk).modeled
          (λ _. (c.append.new.self.list ≡ log.journal.list) × (c.append.new.self.leftover
          ≡ leftover_after c.append.new.self.left log.journal.leftover f))) c.in_ok-frame.ensures.frame c.in_default.ensures.err;
      was = g.met.D.Disk.counted log.journal.disk;
      counted = g.met.D.Disk.counted c.append.new.self.disk;
      ended = c.in_default.ensures.ended;
      settled = c.in_default.ensures.settled;
      ajar = earlier_unsettled log.journal.settled c.append.new.self.left _ _ c.in_default.ensures.fails;
    } in
    subst (λ rows. IsLogged c.tell_fault.new.self.items rows (ghost_state c.append.new.self.disk)
    (journal_state c.append.new.self)) (sym c.make_ready.ensures.same)
    (logged_faulted log.steps.items log.rows.base log.phases.items (ghost_state log.journal.disk)
    (ghost_state c.append.new.self.disk) (tail_of log.journal) (journal_state log.journal) c.self.invariant
    c.tell_fault.new.self.items c.args.row found _ _ _ ending (journal_state c.append.new.self)
    (quiet_ending c.args.building) c.tell_fault.ensures missed left c.counts-after.ensures.ticks
    c.counts-after.ensures.faults
    (subst (λ b. fits b c.args.row.deed ≡ true) (ap (λ l. l.base) (sym c.self.view_is)) c.requires.fits)
    c.in_ok-frame.ensures.formed)

pub returns-clause-ok : goal.returns-clause-ok
returns-clause-ok g c =
    let ghost_state = g.D.Disk.ghost_state in
    let log = c.self.inside in
    let hung = hanging (state_of log.steps.items).ends in
    let found = left_row hung c.args.row c.left_by_last_call-left.result in
    let ending = option_map story_steps.End c.args.building in
    let left : LeftSo hung c.args.row c.append.new.self.left found =
    ap (left_row hung c.args.row) c.left_by_last_call-left.ensures in
    let tail : tail_of c.append.new.self ≡ tail_after_fault (tail_of log.journal) c.append.new.self.left = λ i. record {
      place = c.in_default.ensures.tail i;
      settled = c.in_default.ensures.settled i;
    } in
    subst (λ old. IsFaulted old (log_of c.tell_fault.new.self.items c.make_ready.new.rows.base log.phases.items
    (ghost_state c.append.new.self.disk) (tail_of c.append.new.self)) c.args.row ending) c.self.view_is
    (subst (λ rows. IsFaulted (log_of log.steps.items log.rows.base log.phases.items (ghost_state log.journal.disk)
    (tail_of log.journal)) (log_of c.tell_fault.new.self.items rows log.phases.items (ghost_state c.append.new.self.disk)
    (tail_of c.append.new.self)) c.args.row ending) (sym c.make_ready.ensures.same)
    (is_faulted log.steps.items log.rows.base log.phases.items (ghost_state log.journal.disk)
    (ghost_state c.append.new.self.disk) (tail_of log.journal) (journal_state log.journal) c.self.invariant
    c.tell_fault.new.self.items (tail_of c.append.new.self) c.args.row found _ _ _ ending c.append.new.self.left c.tell_fault.ensures tail left
    c.counts-after.ensures.ticks c.counts-after.ensures.faults c.counts-before.ensures.faults c.in_default.ensures.costs.0
    c.in_default.ensures.costs.2 (g.met.D.Disk.counted log.journal.disk) (g.met.D.Disk.counted c.append.new.self.disk)
    c.in_ok-frame.ensures.formed c.in_default.ensures.writes c.in_default.ensures.fails c.in_ok-frame.frame c.in_ok-frame.ensures.frame
    c.in_default.ensures.calls))

pub add_committed-requires-clause-room : goal.add_committed-requires-clause-room
add_committed-requires-clause-room g c = c.in_ok-frame.ensures.room

pub add_committed-requires-clause-fits : goal.add_committed-requires-clause-fits
add_committed-requires-clause-fits g c =
    subst (λ b. fits b c.args.row.deed ≡ true) (ap (λ log. log.base) (sym c.self.view_is)
    ∙ sym c.make_ready.ensures.same) c.requires.fits
