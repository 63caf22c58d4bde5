-- What became of a row that was to be committed, and of a tail that was to be settled.
use Rattle.std.proofs.Common.{◌≡◌, ℕ, ◌+◌, ◌≤◌, ◌⊎◌, inl, inr, Bool, true, false, Option, Some, None, List, [], ◌∷◌, ◌++◌, refl, ap}
use Rattle.std.proofs.Common.{sym, subst, ◌∙◌, arith, append_assoc}
use Rattle.std.specs.Option.{option_to_list}
use Rattle.std.specs.Prelude.{IfSome, MatchResult, Result, Ok, Err, if◌then◌else◌, is_ok, option_map}
use Rattle.cc_names.specs.Formed.{Plain, IsFormed}
use Rattle.cc_names.specs.declared.commands.Phase.{Phase}
use Rattle.cc_names.specs.declared.rows.Tag.{Tag}
use Rattle.cc_names.specs.declared.steps.StoryStep.{StoryStep}
use Rattle.cc_names.specs.declared.steps.StoryStep.TheVariants as story_steps
use Rattle.disk_model.specs.Counting.{next_count}
use Rattle.disk_model.specs.Devices.{Device}
use Rattle.disk_model.specs.DiskStates.{DiskState, Both, IsCounted}
use Rattle.base_model.specs.Fits.{fits}
use Rattle.base_model.specs.Rows.{Base}
use Rattle.legal_history.specs.Stories.Quiet.{is_quiet}
use Rattle.legal_history.specs.Stories.States.{State, End, hanging}
use Rattle.legal_history.specs.Stories.Steps.{state_of}
use Rattle.row_form.specs.Spelled.{spelling_of}
use Rattle.vob_journal.specs.Lefts.{FailsInPhase, settled_after}
use Rattle.vob_journal.specs.Phases.{Spends, calls_of}
use Rattle.vob_journal.specs.Added.{WritesOn, may_write}
use Rattle.vob_journal.specs.Calls.{FailsToCommit, FailsToPut, device_after_commit, settled_first}
use Rattle.vob_journal.specs.declared.left.Left.{Left}
use Rattle.vob_journal.specs.declared.left.Left.TheVariants as lefts
use Rattle.story_log.specs.Logging.Appending.{MayLeaveRow, IsCommitted, IsFaulted, SettlesTail, with_ending}
use Rattle.story_log.specs.Logging.Leaving.{LeftSo}
use Rattle.story_log.specs.Logging.Logs.{IsLogged, Logged, with_fault}
use Rattle.story_log.specs.Stopping.Backed.{may_be_open}
use Rattle.story_log.specs.Stopping.Journals.{JournalState}
use Rattle.story_log.specs.Stopping.Tails.{Tail, tail_after_fault, tail_after_frame, tail_after_settling}
use Rattle.vob_journal.proofs.Adding.{adds_none}
use Rattle.story_log.proofs.Logging.Logged.{logged_fault, logged_quiet}
use Rattle.story_log.proofs.Logging.Logging.{MissesRow}
use Rattle.story_log.proofs.Logging.Rising.{rises_more, rises_raised}

-- what was left is what a fault may leave
may_leave_so : (s : State) (row : Plain) (left : Left) (found : Option Plain) → LeftSo (hanging s.ends) row left found
    → MayLeaveRow s row found
may_leave_so s row lefts.Nothing found so = subst (MayLeaveRow s row) (sym so) tt
may_leave_so s row lefts.Earlier found so = subst (MayLeaveRow s row) (sym so) (by (hanging s.ends) refl)
  where
    by : (o : Option Plain) → hanging s.ends ≡ o → MayLeaveRow s row o
    by None e = tt
    by (Some left) e = inr e
may_leave_so s row lefts.InFlight found so = subst (MayLeaveRow s row) (sym so) (inl refl)

-- a commit takes a call at least
some_calls : (settled : Bool) → 1 ≤ calls_of settled
some_calls true = omega arith
some_calls false = omega arith

-- what was left over is so still only after a tail that is not settled
pub earlier_unsettled : (settled : Bool) (left : Left) (old new : ℕ) → FailsInPhase settled left old new → left ≡ lefts.Earlier
    → settled ≡ false
earlier_unsettled settled lefts.Nothing old new h is = absurd (cc)
earlier_unsettled settled lefts.Earlier old new h is = h.0
earlier_unsettled settled lefts.InFlight old new h is = absurd (cc)

-- the end of a build, which a fault brings with it, is quiet
pub quiet_ending : (building : Option Tag) → IfSome (option_map story_steps.End building) (λ step. is_quiet step ≡ true)
quiet_ending None = tt
quiet_ending (Some tag) = refl

-- a log of these parts
abbrev pub log_of : List StoryStep → Base → List Phase → DiskState → Tail → Logged
log_of story base phases ghost_state tail =
    record { story = story; base = base; phases = phases; ghost_state = ghost_state; tail = tail }

-- with a fault, and the step that it brings with it
with_both : (story : List StoryStep) (base : Base) (phases : List Phase) (old new : DiskState) (tail : Tail) (fault : StoryStep)
    (left : Left) (ending : Option StoryStep)
    → log_of (story ++ fault ∷ option_to_list ending) base phases new (tail_after_fault tail left)
    ≡ with_ending (with_fault (log_of story base phases old tail) fault new left) ending
with_both story base phases old new tail fault left None = refl
with_both story base phases old new tail fault left (Some step) =
    ap (λ more. log_of more base phases new (tail_after_fault tail left)) (sym (append_assoc story (fault ∷ []) (step ∷ [])))

-- what a log is after an append, and keeps
module _ (story : List StoryStep) (base : Base) (phases : List Phase) (old new : DiskState) (tail : Tail) (journal : JournalState)
    (h : IsLogged story base old journal) where
  -- the row was committed
  pub is_committed : (more : List StoryStep) (grown : Base) (tail' : Tail) (frame : List ℕ) (tick : ℕ) (row : Plain)
      → more ≡ story ++ story_steps.Commit row tick ∷ [] → grown ≡ row ∷ base → tail' ≡ tail_after_frame tail frame
      → frame ≡ spelling_of row → tick ≡ new.ticks → new.ticks ≡ old.ticks + calls_of tail.settled → new.faults ≡ old.faults
      → IsFormed row → IsCounted new → Both WritesOn old.modeled new.modeled
      → Both (λ d e. e ≡ device_after_commit tail.settled tail.place frame d) old.modeled new.modeled
      → IsCommitted (log_of story base phases old tail) (log_of more grown phases new tail') row
  is_committed more grown tail' frame tick row e g t is at spent same formed fit writes calls = record {
    tick = tick;
    ghost_state = new;
    formed = formed;
    grows = λ i. log_of (e i) (g i) phases new ((t ∙ ap (tail_after_frame tail) is) i);
    ticked = rises_more _ tick (omega (arith, h.backed.ticks, at, spent, some_calls tail.settled));
    at = at;
    spent = spent;
    faults = same;
    fit = fit;
    writes = writes;
    calls = subst (λ payload. Both (λ d e. e ≡ device_after_commit tail.settled tail.place payload d) old.modeled new.modeled) is
        calls;
  }

  -- the disk failed: what is kept after the fault and the step that it brings with it
  pub logged_faulted : (more : List StoryStep) (row : Plain) (found : Option Plain) (before faults tick : ℕ)
      (ending : Option StoryStep) (journal' : JournalState)
      → IfSome ending (λ step. is_quiet step ≡ true)
      → more ≡ story ++ story_steps.Fault row.tag found before faults tick ∷ option_to_list ending
      → MissesRow row old new journal journal' → LeftSo (hanging (state_of story).ends) row journal'.left found → tick ≡ new.ticks → faults ≡ new.faults
      → fits base row.deed ≡ true → IsFormed row → IsLogged more base new journal'
  logged_faulted more row found before faults tick None journal' quiet e missed so at counts fit formed =
      logged_fault story base old journal h more row found before faults tick new journal' e missed so at counts fit formed
  logged_faulted more row found before faults tick (Some step) journal' quiet e missed so at counts fit formed =
      let fault = story_steps.Fault row.tag found before faults tick in
      logged_quiet (story ++ fault ∷ []) base new journal'
      (logged_fault story base old journal h (story ++ fault ∷ []) row found before faults tick new journal' refl missed so
      at counts fit formed)
      more step (e ∙ sym (append_assoc story (fault ∷ []) (step ∷ []))) quiet

  -- and what became of the row
  pub is_faulted : (more : List StoryStep) (tail' : Tail) (row : Plain) (found : Option Plain) (before faults tick : ℕ)
      (ending : Option StoryStep) (how : Left)
      → more ≡ story ++ story_steps.Fault row.tag found before faults tick ∷ option_to_list ending
      → tail' ≡ tail_after_fault tail how → LeftSo (hanging (state_of story).ends) row how found → tick ≡ new.ticks → faults ≡ new.faults
      → before ≡ old.faults → next_count old.ticks ≤ new.ticks → new.faults ≡ next_count old.faults → IsCounted old
      → IsCounted new → IsFormed row → Both WritesOn old.modeled new.modeled
      → FailsInPhase tail.settled how old.ticks new.ticks → (frame : List ℕ) → frame ≡ spelling_of row
      → Both (FailsToCommit tail.settled tail.place frame how) old.modeled new.modeled
      → IsFaulted (log_of story base phases old tail) (log_of more base phases new tail') row ending
  is_faulted more tail' row found before faults tick ending how e t so at counts was spent rose counted counted' formed writes
      fails frame is calls =
      let s = state_of story in
      record {
        found = found;
        left = how;
        before = before;
        faults = faults;
        tick = tick;
        ghost_state = new;
        formed = formed;
        grows = (λ i. log_of (e i) base phases new (t i))
            ∙ with_both story base phases old new tail (story_steps.Fault row.tag found before faults tick) how ending;
        rose = rises_raised before old.faults faults (omega (arith, was)) counted.faults (omega (arith, counts, rose))
            (omega (arith, counts, counted'.faults));
        later = omega (arith, h.backed.faults, was);
        leaves = may_leave_so s row how found so;
        calls = record {
          leaves = so;
          fails = fails;
          calls = subst (λ payload. Both (FailsToCommit tail.settled tail.place payload how) old.modeled new.modeled) is calls;
        };
        ticked = rises_raised _ old.ticks tick h.backed.ticks counted.ticks (omega (arith, at, spent))
            (omega (arith, at, counted'.ticks));
        counted = was;
        one = counts ∙ rose ∙ ap next_count (sym was);
        modeled = counts;
        at = at;
        spent = rises_raised old.ticks old.ticks tick (omega arith) counted.ticks (omega (arith, at, spent))
            (omega (arith, at, counted'.ticks));
        fit = counted';
        writes = writes;
      }

-- settling takes two calls at most
pub few_calls : {T E : Type 0} (settled : Bool) (result : Result T E) (old new : DiskState)
    → Spends (if settled then 0 else 2) result old new → new.ticks ≤ old.ticks + 2
few_calls true (Ok value) old new h = omega (arith, h.0)
few_calls false (Ok value) old new h = omega (arith, h.0)
few_calls true (Err fault) old new h = omega (arith, h.1)
few_calls false (Err fault) old new h = omega (arith, h.1)

-- where no call was made
pub writes_none : (modeled : Option Device) → Both WritesOn modeled modeled
writes_none None = tt
writes_none (Some d) = record { adds = adds_none may_write d; objects = refl }

-- how a tail stands by what the newest commit or fault left: settled where that is nothing, unless it stands as it was opened
pub settled_if_nothing : (ends : List End) (settled : Bool) (left : Left) → (ends ≡ []) ⊎ (settled ≡ settled_after left)
    → left ≡ lefts.Nothing → (ends ≡ []) ⊎ (settled ≡ true)
settled_if_nothing ends settled left (inl none) is = inl none
settled_if_nothing ends settled left (inr so) is = inr (so ∙ ap settled_after is)

pub ajar_if_something : (ends : List End) (settled : Bool) (left : Left) → (ends ≡ []) ⊎ (settled ≡ settled_after left)
    → (may_be_open ends ≡ false → left ≡ lefts.Nothing) → (left ≡ lefts.Nothing → ⊥) → (ends ≡ [] → ⊥) × (settled ≡ false)
ajar_if_something ends settled left so calm some = (began, by left so some)
  where
    began : ends ≡ [] → ⊥
    began none = some (calm (ap may_be_open none))

    by : (l : Left) → (ends ≡ []) ⊎ (settled ≡ settled_after l) → (l ≡ lefts.Nothing → ⊥) → settled ≡ false
    by l (inl none) some = absurd (began none)
    by lefts.Nothing (inr so) some = absurd (some refl)
    by lefts.Earlier (inr so) some = so
    by lefts.InFlight (inr so) some = so

-- a journal whose newest commit or fault left nothing rests
same_device : (modeled : Option Device) (settled : Bool) (place : ℕ) → settled ≡ true
    → Both (λ d e. e ≡ settled_first settled place d) modeled modeled
same_device None settled place shut = tt
same_device (Some d) settled place shut = ap (λ b. settled_first b place d) (sym shut)

pub settles_no_tail : (ends : List End) (tail : Tail) (disk : DiskState) → (ends ≡ []) ⊎ (tail.settled ≡ true)
    → SettlesTail ends tail disk disk
settles_no_tail [] tail disk settled = refl
settles_no_tail (newest ∷ earlier) tail disk (inl none) = absurd (cc)
settles_no_tail (newest ∷ earlier) tail disk (inr shut) = inl (refl, same_device disk.modeled tail.settled tail.place shut)

pub tail_rests : (ends : List End) (tail : Tail) → (ends ≡ []) ⊎ (tail.settled ≡ true)
    → tail ≡ tail_after_settling ends true tail
tail_rests [] tail settled = refl
tail_rests (newest ∷ earlier) tail (inl none) = absurd (cc)
tail_rests (newest ∷ earlier) tail (inr shut) = λ i. record { place = tail.place; settled = shut i }

-- and one that a fault left open is settled
settles_at : (ends : List End) (tail : Tail) (old new : DiskState) → (ends ≡ [] → ⊥)
    → ((new.faults ≡ old.faults) × Both (λ d e. e ≡ settled_first tail.settled tail.place d) old.modeled new.modeled)
    ⊎ ((tail.settled ≡ false) × (new.faults ≡ next_count old.faults)
    × Both (FailsToPut tail.place (0 ∷ [])) old.modeled new.modeled)
    → SettlesTail ends tail old new
settles_at [] tail old new some h = absurd (some refl)
settles_at (newest ∷ earlier) tail old new some h = h

pub settles_tail : {T E : Type 0} (calls : ℕ) (r : Result T E) (ends : List End) (tail : Tail) (old new : DiskState)
    → (ends ≡ [] → ⊥) → tail.settled ≡ false → Spends calls r old new
    → MatchResult r (λ _. Both (λ d e. e ≡ settled_first tail.settled tail.place d) old.modeled new.modeled)
    (λ _. Both (FailsToPut tail.place (0 ∷ [])) old.modeled new.modeled)
    → SettlesTail ends tail old new
settles_tail calls (Ok x) ends tail old new some ajar spends made = settles_at ends tail old new some (inl (spends.1, made))
settles_tail calls (Err fault) ends tail old new some ajar spends made =
    settles_at ends tail old new some (inr (ajar, spends.2, made))

pub tail_settled : {T E : Type 0} (r : Result T E) (ends : List End) (tail tail' : Tail) (left : Left) → (ends ≡ [] → ⊥)
    → tail'.place ≡ tail.place → tail'.settled ≡ settled_after left
    → MatchResult r (λ _. left ≡ lefts.Nothing) (λ _. left ≡ lefts.Earlier)
    → tail' ≡ tail_after_settling ends (is_ok r) tail
tail_settled r [] tail tail' left some place settled went = absurd (some refl)
tail_settled (Ok x) (newest ∷ earlier) tail tail' left some place settled went =
    λ i. record { place = place i; settled = (settled ∙ ap settled_after went) i }
tail_settled (Err fault) (newest ∷ earlier) tail tail' left some place settled went =
    λ i. record { place = place i; settled = (settled ∙ ap settled_after went) i }
