-- What a log keeps after its tail was settled, and what it says of stops.
use Rattle.std.proofs.Common.{◌≡◌, ◌≢◌, ℕ, ◌<◌, ◌≤◌, ◌^◌, ◌⊎◌, inl, inr, true, Option, Some, None, List, [], ◌++◌, length}
use Rattle.std.proofs.Common.{ap, sym, subst, ◌∙◌, arith}
use Rattle.std.proofs.lemmas.List.{append-nil}
use Rattle.std.specs.Prelude.{Result, Ok, Err, MatchResult, OnOk}
use Rattle.cc_names.specs.Formed.{Plain}
use Rattle.cc_names.specs.declared.steps.StoryStep.{StoryStep}
use Rattle.disk_model.specs.Counting.{next_count}
use Rattle.disk_model.specs.Devices.{Device, MayLeave, file_of}
use Rattle.disk_model.specs.DiskStates.{DiskState, IfModeled, Both, IsCounted}
use Rattle.base_model.specs.Rows.{Base}
use Rattle.legal_history.specs.Stories.States.{State, Opening, End, ticks_of, hanging}
use Rattle.legal_history.specs.Stories.Steps.{state_of}
use Rattle.vob_journal.specs.Frames.{frames}
use Rattle.vob_journal.specs.Lefts.{settled_after}
use Rattle.vob_journal.specs.Moves.{Stands}
use Rattle.vob_journal.specs.Phases.{Spends}
use Rattle.vob_journal.specs.declared.left.Left.TheVariants as lefts
use Rattle.story_log.specs.Stopping.Backed.{IsMirrored, IsBacked, IsSettled, IsAccounted}
use Rattle.story_log.specs.Stopping.Journals.{JournalState}
use Rattle.story_log.specs.Logging.Logs.{IsLogged}
use Rattle.story_log.specs.Stored.Founds.{Represents}
use Rattle.story_log.specs.Stored.Stops.{OfEachStop, OfStopNow, found_in}
use Rattle.story_log.specs.Stopping.Standing.{base_by, StandsFor, MayBeFound}
use Rattle.story_log.proofs.Stored.Holding.{held_in_image}
use Rattle.story_log.proofs.Stopping.Backing.{MovesTo, after_all, settle_covered, stands_so, still_modeled, within_calls}
use Rattle.story_log.proofs.Logging.Logging.{ticks_counted}

-- a count that was raised is no less
no_less : (old new : ℕ) → next_count old ≤ new → old < 2 ^ 64 → old ≤ new
no_less old new rose small = omega (arith, rose, small)

-- the tail was settled, or this failed
pub backed_settle : (s : State) (old new : DiskState) (journal journal' : JournalState) → IsBacked s old journal
    → Both (MovesTo journal journal') old.modeled new.modeled → journal'.list ≡ journal.list
    → (journal'.leftover ≡ []) ⊎ (journal'.leftover ≡ journal.leftover) → (journal'.left ≡ lefts.Nothing → journal'.leftover ≡ [])
    → old.ticks ≤ new.ticks → old.faults ≤ new.faults → IsCounted old → journal'.ended ≡ true → journal.left ≢ lefts.Nothing
    → journal'.settled ≡ settled_after journal'.left → IsBacked s new journal'
backed_settle s old new journal journal' h moves same less nothing ticks faults counted end ajar shut = record {
  opening = h.opening;
  opened = h.opened;
  tells = h.tells ∙ sym (still_modeled (MovesTo journal journal') old.modeled new.modeled moves);
  at_end = end;
  calm = λ e. absurd (ajar (h.calm e));
  settled = inr shut;
  base = h.base;
  ticks = omega (arith, h.ticks, ticks);
  faults = omega (arith, h.faults, faults);
  covered = settle_covered h.opening s.ends journal journal' old.modeled new.modeled h.covered
      (ticks_counted h.opening s old h.opened h.ticks counted) moves same less nothing;
}

-- what is kept by the log, whether the tail was settled or not
module _ (story : List StoryStep) (base : Base) (old new : DiskState) (journal journal' : JournalState)
    (h : IsLogged story base old journal) (moves : Both (MovesTo journal journal') old.modeled new.modeled)
    (same : journal'.list ≡ journal.list) (end : journal'.ended ≡ true) (counted : IsCounted old)
    (ajar : journal.left ≢ lefts.Nothing) (shut : journal'.settled ≡ settled_after journal'.left) where
  pub logged_settled : {E : Type 0} → (calls : ℕ) (r : Result (Unit {0}) E)
      → MatchResult r (λ _. journal'.leftover ≡ []) (λ _. journal'.leftover ≡ journal.leftover)
      → MatchResult r (λ _. journal'.left ≡ lefts.Nothing) (λ _. journal'.left ≡ lefts.Earlier) → Spends calls r old new
      → IsLogged story base new journal'
  logged_settled calls (Ok u) less went cost = record {
    named = h.named;
    leads = h.leads;
    backed = backed_settle (state_of story) old new journal journal' h.backed moves same (inl less) (λ e. less)
        (omega (arith, cost.0)) (omega (arith, cost.1)) counted end ajar shut;
  }
  logged_settled calls (Err fault) less went cost = record {
    named = h.named;
    leads = h.leads;
    backed = backed_settle (state_of story) old new journal journal' h.backed moves same (inr less)
        (λ e. absurd (cc)) (no_less old.ticks new.ticks cost.0 counted.ticks) (omega (
          arith,
          cost.2,
          no_less old.faults (next_count old.faults) (omega arith) counted.faults,
        )) counted end ajar shut;
  }

-- no stop finds more than the base where nothing is left over
settled_modeled : (s : State) (opening : Opening) (journal : JournalState) (modeled : Option Device)
    → s.base ≡ base_by opening s.ends → IfModeled modeled (IsMirrored opening s.ends journal [] [])
    → ((d : Device) → IsMirrored opening s.ends journal [] [] d → journal.leftover ≡ [])
    → IfModeled modeled (λ d. OfStopNow d (λ found. Represents found s.base))
settled_modeled s opening journal None base h none = tt
settled_modeled s opening journal (Some d) base h none = λ image objects j o.
    subst (Represents (found_in image objects)) (sym base)
    (held_in_image (file_of 1 d) h.stored (base_by opening s.ends) (frames image) objects h.held h.formed
    (by image (h.now image j) ∙ h.list_is) o)
  where
    by : (image : List ℕ) → Stands journal.list journal.leftover image → frames image ≡ journal.list
    by image (inl e) = e
    by image (inr e) = e ∙ ap (λ l. journal.list ++ l) (none d h) ∙ append-nil journal.list

pub settled_before : (s : State) (ghost_state : DiskState) (journal : JournalState) → IsBacked s ghost_state journal
    → journal.left ≡ lefts.Nothing → IsSettled s ghost_state
settled_before s ghost_state journal h is = settled_modeled s h.opening journal ghost_state.modeled h.base h.covered
    (λ d mirrored. mirrored.nothing is)

pub settled_so : {E : Type 0} → (s : State) (ghost_state : DiskState) (leftover : List (List ℕ)) (journal : JournalState)
    (r : Result (Unit {0}) E) → IsBacked s ghost_state journal
    → MatchResult r (λ _. journal.leftover ≡ []) (λ _. journal.leftover ≡ leftover) → OnOk r (IsSettled s ghost_state)
settled_so s ghost_state leftover journal (Ok u) h less = settled_modeled s h.opening journal ghost_state.modeled h.base
    h.covered (λ d mirrored. less)
settled_so s ghost_state leftover journal (Err fault) h less = tt

-- each stop finds what the history says
stops_so : (opening : Opening) (ends : List End) (journal : JournalState) (d : Device) → IsMirrored opening ends journal [] [] d
    → ticks_of (Some opening) ends ≤ length d.calls
    → (k : ℕ) (image objects : List ℕ) → opening.counts.ticks < k → MayLeave 0 d k image → MayLeave 1 d k objects
    → MayBeFound opening ends k (found_in image objects)
stops_so opening ends journal d h ticked k image objects later (inl j) (inl o) = h.stops k image objects later j o
stops_so opening ends journal d h ticked k image objects later (inl j) (inr o) =
    let within = within_calls 0 d k image j in absurd (omega (arith, within, o.0))
stops_so opening ends journal d h ticked k image objects later (inr j) (inl o) =
    let within = within_calls 1 d k objects o in absurd (omega (arith, within, j.0))
stops_so opening ends journal d h ticked k image objects later (inr j) (inr o) =
    after_all opening ends k (found_in image objects) (omega (arith, ticked, j.0))
    (stands_so opening ends journal [] [] d image objects h (h.now image j.1) o.1)

stops_modeled : (opening : Opening) (ends : List End) (journal : JournalState) (modeled : Option Device)
    → IfModeled modeled (IsMirrored opening ends journal [] []) → IfModeled modeled
    (λ d. ticks_of (Some opening) ends ≤ length d.calls) → IfModeled modeled (λ d. (k : ℕ) → opening.counts.ticks < k
    → OfEachStop d k (MayBeFound opening ends k))
stops_modeled opening ends journal None h ticked = tt
stops_modeled opening ends journal (Some d) h ticked = λ k later image objects j o.
    stops_so opening ends journal d h ticked k image objects later j o

-- where the newest end left nothing, a stop now finds the base
at_rest : (s : State) (opening : Opening) (journal : JournalState) (modeled : Option Device)
    → s.base ≡ base_by opening s.ends → hanging s.ends ≡ None
    → IfModeled modeled (IsMirrored opening s.ends journal [] [])
    → IfModeled modeled (λ d. OfStopNow d (λ found. Represents found s.base))
at_rest s opening journal None base none h = tt
at_rest s opening journal (Some d) base none h = λ image objects j o.
    subst (Represents (found_in image objects)) (sym base) (by image objects
    (subst (λ row. StandsFor (base_by opening s.ends) row (found_in image objects)) none
    (stands_so opening s.ends journal [] [] d image objects h (h.now image j) o)))
  where
    by : (image objects : List ℕ) → StandsFor (base_by opening s.ends) None (found_in image objects)
        → Represents (found_in image objects) (base_by opening s.ends)
    by image objects (inl e) = e
    by image objects (inr e) = e

pub accounted : (s : State) (ghost_state : DiskState) (journal : JournalState) → IsBacked s ghost_state journal
    → IsCounted ghost_state → IsAccounted s ghost_state
accounted s ghost_state journal h counted = record {
  opening = h.opening;
  opened = h.opened;
  tells = h.tells;
  ticks = h.ticks;
  faults = h.faults;
  stops = stops_modeled h.opening s.ends journal ghost_state.modeled h.covered
      (ticks_counted h.opening s ghost_state h.opened h.ticks counted);
  settled = λ none. at_rest s h.opening journal ghost_state.modeled h.base none h.covered;
}
