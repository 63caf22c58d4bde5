-- What a log keeps after each kind of step.
use Rattle.std.proofs.Common.{◌≡◌, ℕ, ◌≤◌, ◌⊎◌, inl, inr, Bool, true, false, not, Option, Some, None, List, [], ◌∷◌, ◌++◌, length, refl, ap}
use Rattle.std.proofs.Common.{sym, subst, ◌∙◌, arith}
use Rattle.cc_names.specs.Formed.{IsFormed, Plain}
use Rattle.cc_names.specs.declared.steps.StoryStep.TheVariants as story_steps
use Rattle.disk_model.specs.Devices.{Device}
use Rattle.disk_model.specs.DiskStates.{DiskState, IfModeled, Both, IsCounted}
use Rattle.base_model.specs.Fits.{fits}
use Rattle.legal_history.specs.Stories.States.{State, Opening, End, Committed, Faulted, ticks_of, faults_of, hanging}
use Rattle.legal_history.specs.Stories.Steps.{after}
use Rattle.row_form.specs.Spelled.{spelling_of}
use Rattle.vob_journal.specs.Lefts.{leftover_after, settled_after}
use Rattle.vob_journal.specs.declared.left.Left.{Left}
use Rattle.vob_journal.specs.declared.left.Left.TheVariants as lefts
use Rattle.story_log.specs.Stopping.Journals.{JournalState}
use Rattle.story_log.specs.Stopping.Backed.{IsMirrored, IsBacked, has_row, may_be_open}
use Rattle.story_log.specs.Logging.Leaving.{LeftSo}
use Rattle.story_log.specs.Stopping.Standing.{base_by}
use Rattle.story_log.proofs.Stopping.Backing.{MovesTo, still_modeled, commit_covered, fault_covered}

-- what holds where a device is modeled
pub if_modeled : (modeled : Option Device) (P Q : Device → Type 0) → ((d : Device) → P d → Q d) → IfModeled modeled P
    → IfModeled modeled Q
if_modeled None P Q f h = tt
if_modeled (Some d) P Q f h = f d h

-- the disk's ticks are the calls so far
calls_counted : (ghost_state : DiskState) (tick : ℕ) → IsCounted ghost_state → tick ≡ ghost_state.ticks
    → IfModeled ghost_state.modeled (λ d. tick ≡ length d.calls)
calls_counted ghost_state tick counted at =
    if_modeled ghost_state.modeled (λ d. ghost_state.ticks ≡ length d.calls) (λ d. tick ≡ length d.calls)
    (λ d modeled. at ∙ modeled) counted.modeled

-- the ticks at the newest end are at most the calls so far
pub ticks_counted : (opening : Opening) (s : State) (ghost_state : DiskState) → s.opened ≡ Some opening
    → ticks_of s.opened s.ends ≤ ghost_state.ticks → IsCounted ghost_state
    → IfModeled ghost_state.modeled (λ d. ticks_of (Some opening) s.ends ≤ length d.calls)
ticks_counted opening s ghost_state opened ticks counted =
    if_modeled ghost_state.modeled (λ d. ghost_state.ticks ≡ length d.calls)
    (λ d. ticks_of (Some opening) s.ends ≤ length d.calls)
    (λ d e. omega (arith, ticks, e, ap (λ o. ticks_of o s.ends) opened)) counted.modeled

-- the same of the state after a step that is neither a commit nor a fault
pub backed_same : (s t : State) (ghost_state : DiskState) (journal : JournalState) → t.opened ≡ s.opened → t.base ≡ s.base
    → t.ends ≡ s.ends → IsBacked s ghost_state journal → IsBacked t ghost_state journal
backed_same s t ghost_state journal opened base ends h = record {
  opening = h.opening;
  opened = opened ∙ h.opened;
  tells = h.tells;
  at_end = h.at_end;
  calm = λ e. h.calm (ap may_be_open (sym ends) ∙ e);
  settled = subst (λ e. (e ≡ []) ⊎ (journal.settled ≡ settled_after journal.left)) (sym ends) h.settled;
  base = base ∙ h.base ∙ ap (base_by h.opening) (sym ends);
  ticks = omega (arith, h.ticks, ap (λ o. ticks_of o t.ends) opened, ap (ticks_of s.opened) ends);
  faults = omega (arith, h.faults, ap (λ o. faults_of o t.ends) opened, ap (faults_of s.opened) ends);
  covered = subst (λ e. IfModeled ghost_state.modeled (IsMirrored h.opening e journal [] [])) (sym ends) h.covered;
}

-- the journal took a row
pub record TakesRow (row : Plain) (old new : DiskState) (journal journal' : JournalState) : Type 0 where
  pub moves : Both (MovesTo journal journal') old.modeled new.modeled
  pub grown : IfModeled old.modeled (λ _. (journal'.list ≡ journal.list ++ spelling_of row ∷ []) × (journal'.leftover ≡ []))
  pub faults : new.faults ≡ old.faults
  pub was : IsCounted old
  pub counted : IsCounted new
  pub ended : journal'.ended ≡ true
  pub left : journal'.left ≡ lefts.Nothing
  pub settled : journal'.settled ≡ settled_after journal'.left

-- the disk failed as the journal was to take a row
pub record MissesRow (row : Plain) (old new : DiskState) (journal journal' : JournalState) : Type 0 where
  pub moves : Both (MovesTo journal journal') old.modeled new.modeled
  pub stays : IfModeled old.modeled (λ _. (journal'.list ≡ journal.list)
      × (journal'.leftover ≡ leftover_after journal'.left journal.leftover (spelling_of row)))
  pub was : IsCounted old
  pub counted : IsCounted new
  pub ended : journal'.ended ≡ true
  pub settled : journal'.settled ≡ settled_after journal'.left
  pub ajar : journal'.left ≡ lefts.Earlier → journal.settled ≡ false

-- a row was committed
pub backed_commit : (s : State) (row : Plain) (tick : ℕ) (old new : DiskState) (journal journal' : JournalState)
    → IsBacked s old journal → TakesRow row old new journal journal' → tick ≡ new.ticks → fits s.base row.deed ≡ true
    → IsFormed row → IsBacked (after s (story_steps.Commit row tick)) new journal'
backed_commit s row tick old new journal journal' h took at fit formed = record {
  opening = h.opening;
  opened = h.opened;
  tells = h.tells ∙ sym (still_modeled (MovesTo journal journal') old.modeled new.modeled took.moves);
  at_end = took.ended;
  calm = λ e. took.left;
  settled = inr took.settled;
  base = ap (λ b. row ∷ b) h.base;
  ticks = omega (arith, at);
  faults = omega (arith, h.faults, took.faults);
  covered = commit_covered h.opening s.ends journal journal' row tick old.modeled new.modeled h.covered
      (ticks_counted h.opening s old h.opened h.ticks took.was) took.moves
      (calls_counted new tick took.counted at) took.grown (subst (λ b. fits b row.deed ≡ true) h.base fit) formed;
}

-- where nothing hangs after a row, no fault may have left the tail open
shut_behind : (ends : List End) → hanging ends ≡ None → has_row ends ≡ true → may_be_open ends ≡ false
shut_behind [] none some = refl
shut_behind (Committed row tick ∷ ends) none some = refl
shut_behind (Faulted None faults tick ∷ ends) none some = ap not some
shut_behind (Faulted (Some row) faults tick ∷ ends) none some = absurd (cc)

not_false : (b : Bool) → not b ≡ false → b ≡ true
not_false true e = refl
not_false false e = absurd (cc)

-- a fault leaves nothing, or it may have left the tail open
fault_shut : (ends : List End) (row : Plain) (left : Left) (found : Option Plain) (faults tick : ℕ) (settled : Bool)
    → (may_be_open ends ≡ false → has_row ends ≡ true → settled ≡ true) → LeftSo (hanging ends) row left found
    → (left ≡ lefts.Earlier → settled ≡ false) → may_be_open (Faulted found faults tick ∷ ends) ≡ false → left ≡ lefts.Nothing
fault_shut ends row lefts.Nothing found faults tick settled shut so ajar e = refl
fault_shut ends row lefts.Earlier None faults tick settled shut so ajar e =
    let some : has_row ends ≡ true = not_false (has_row ends) e in
    let is : settled ≡ true = shut (shut_behind ends (sym so) some) some in
    let was : settled ≡ false = ajar refl in
    absurd (cc)
fault_shut ends row lefts.Earlier (Some left) faults tick settled shut so ajar e = absurd (cc)
fault_shut ends row lefts.InFlight None faults tick settled shut so ajar e = absurd (cc)
fault_shut ends row lefts.InFlight (Some left) faults tick settled shut so ajar e = absurd (cc)

-- where no fault may have left the tail open, and a row was committed or left, it is settled
shut_so : (ends : List End) (journal : JournalState) → (may_be_open ends ≡ false → journal.left ≡ lefts.Nothing)
    → (ends ≡ []) ⊎ (journal.settled ≡ settled_after journal.left) → may_be_open ends ≡ false → has_row ends ≡ true
    → journal.settled ≡ true
shut_so ends journal calm (inl none) shut some = let no_row = ap has_row (sym none) ∙ some in absurd (cc no_row)
shut_so ends journal calm (inr settled) shut some = settled ∙ ap settled_after (calm shut)

-- the disk failed
pub backed_fault : (s : State) (row : Plain) (found : Option Plain) (before faults tick : ℕ) (old new : DiskState)
    (journal journal' : JournalState) → IsBacked s old journal → MissesRow row old new journal journal'
    → LeftSo (hanging s.ends) row journal'.left found → tick ≡ new.ticks → faults ≡ new.faults → fits s.base row.deed ≡ true
    → IsFormed row → IsBacked (after s (story_steps.Fault row.tag found before faults tick)) new journal'
backed_fault s row found before faults tick old new journal journal' h missed so at counts fit formed = record {
  opening = h.opening;
  opened = h.opened;
  tells = h.tells ∙ sym (still_modeled (MovesTo journal journal') old.modeled new.modeled missed.moves);
  at_end = missed.ended;
  calm = fault_shut s.ends row journal'.left found faults tick journal.settled (shut_so s.ends journal h.calm h.settled) so
      missed.ajar;
  settled = inr missed.settled;
  base = h.base;
  ticks = omega (arith, at);
  faults = omega (arith, counts);
  covered = fault_covered h.opening s.ends journal journal' row found faults tick old.modeled new.modeled
      h.covered (ticks_counted h.opening s old h.opened h.ticks missed.was) missed.moves
      (calls_counted new tick missed.counted at) missed.stays so (subst (λ b. fits b row.deed ≡ true) h.base fit) formed;
}
