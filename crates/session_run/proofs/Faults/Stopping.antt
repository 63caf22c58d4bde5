-- What a stop finds, from what the core and the disk tell.
use Rattle.std.proofs.Common.{◌≡◌, ℕ, ◌-◌, ◌^◌, ◌<◌, ◌≤◌, inl, inr, Bool, true, false, Option, Some, None, Result, Ok, Err, List}
use Rattle.std.proofs.Common.{[], ◌∷◌, length, reverse, refl, ap, sym, subst, ◌∙◌, arith}
use Rattle.std.specs.Prelude.{is_some, OnOk, OnErr}
use Rattle.std.proofs.lemmas.Bool.Decides.{nat_tests}
use Rattle.cc_names.specs.Formed.{Plain}
use Rattle.cc_names.specs.declared.steps.Counts.{Counts}
use Rattle.cc_names.specs.declared.steps.StoryStep.{StoryStep}
use Rattle.cc_names.specs.declared.steps.StoryStep.TheVariants as story_steps
use Rattle.disk_model.specs.Devices.{Device, MayLeave, bytes_now, file_of}
use Rattle.disk_model.specs.Files.{IsImage, stable}
use Rattle.disk_model.specs.DiskStates.{DiskState, Both, IfModeled, IsCounted}
use Rattle.legal_history.specs.Stories.States.{State, Opening, start, faults_of, hanging}
use Rattle.legal_history.specs.Stories.Steps.{after, state_from, state_of}
use Rattle.cc_names.specs.Counts.{rises}
use Rattle.legal_history.specs.Stories.Lawful.{Legal, LegalFrom}
use Rattle.vob_journal.specs.Frames.{frames}
use Rattle.vob_journal.specs.Reads.{SameFiles}
use Rattle.vob_journal.proofs.Journals.{stable_image}
use Rattle.vob_journal.specs.Pieces.{ReadsOnce}
use Rattle.vob_journal.proofs.Pieces.{modeled_once_none}
use Rattle.vob_journal.proofs.Staying.{modeled_stay}
use Rattle.story_log.specs.Bases.Opening.{AreSynced}
use Rattle.story_log.specs.Stored.Stops.{OfEachStop, found_in, found_on}
use Rattle.story_log.specs.Stopping.Backed.{IsAccounted, IsSettled}
use Rattle.story_log.specs.Stopping.StopLaws.{OpensAgain}
use Rattle.story_log.specs.Stopping.Standing.{MayBeFound}
use Rattle.base_rows.specs.Order.{oldest_first}
use Rattle.story_log.proofs.Stopping.Backing.{within_calls}
use Rattle.story_log.proofs.Cases.{some_same}
use Rattle.session_run.specs.Faults.Stopped.{AllOpenAgain, AreApart, IsHandedIn, IsMended, IsStopped, StopKeepsFound, rises_of}
use Rattle.session_run.specs.Promises.Headline.{BeginsOn}
use Rattle.session_run.specs.Story.Begun.{first_step, is_opened}
use Rattle.legal_history.proofs.Stories.Along.{along}
use Rattle.legal_history.proofs.Stories.Grows.{opened_after, stays_opened}

-- each fault of a story has a rise of its own
apart_from : (s : State) (story : List StoryStep) → is_some s.opened ≡ true → LegalFrom s story
    → AreApart (faults_of s.opened s.ends) (rises_of story) (faults_of (state_from s story).opened (state_from s story).ends)
apart_from s [] opened legal = omega arith
apart_from s (story_steps.Opened rows counts tells ∷ story) opened legal = let first = legal.0.first in absurd (cc)
apart_from s (story_steps.Fault tag left before faults tick ∷ story) opened legal = (
  legal.0.later,
  legal.0.rose,
  apart_from (after s (story_steps.Fault tag left before faults tick)) story opened legal.1,
)
apart_from s (step ∷ story) opened legal = apart_from (after s step) story opened legal.1

apart_wider : (low : ℕ) (rs : List (ℕ × ℕ)) (high most : ℕ) → AreApart low rs high → high ≤ most → AreApart low rs most
apart_wider low [] high most h le = omega arith
apart_wider low (rise ∷ rs) high most h le = (h.0, h.1, apart_wider rise.1 rs high most h.2 le)

-- the base stays the one that was opened
opened_stays : (s : State) (story : List StoryStep) → is_some s.opened ≡ true → LegalFrom s story
    → (state_from s story).opened ≡ s.opened
opened_stays s story opened legal = (along (λ t. (is_some t.opened ≡ true) × (t.opened ≡ s.opened)) (λ t x lawful so. (
  stays_opened t x so.0,
  opened_after t x so.0 lawful ∙ so.1,
)) s story legal (opened, refl)).1

-- a story without a fault leaves no row after
none_hangs : (s : State) (story : List StoryStep) → hanging s.ends ≡ None → rises_of story ≡ []
    → hanging (state_from s story).ends ≡ None
none_hangs s [] none faultless = none
none_hangs s (story_steps.Commit row tick ∷ story) none faultless = none_hangs (after s (story_steps.Commit row tick)) story refl
    faultless
none_hangs s (story_steps.Fault tag left before faults tick ∷ story) none faultless = absurd (cc)
none_hangs s (step ∷ story) none faultless = none_hangs (after s step) story none faultless

-- what a story that begins with this opening came from
abbrev pub opening_of : List Plain → Counts → Bool → Opening
opening_of rows counts tells = record { base = reverse rows; counts = counts; tells = tells }

-- of a legal story that begins with an opening
pub record IsBegun (story : List StoryStep) (rows : List Plain) (counts : Counts) (tells : Bool) : Type 0 where
  pub opened : (state_of story).opened ≡ Some (opening_of rows counts tells)
  apart : AreApart counts.faults (rises_of story) (faults_of (state_of story).opened (state_of story).ends)

pub is_begun : (story : List StoryStep) (rows : List Plain) (counts : Counts) (tells : Bool)
    → first_step story ≡ Some (story_steps.Opened rows counts tells) → Legal story → IsBegun story rows counts tells
is_begun [] rows counts tells first legal = absurd (cc)
is_begun (x ∷ story) rows counts tells first legal = subst (λ y. IsBegun (y ∷ story) rows counts tells) (sym same)
    (begun (subst (λ y. Legal (y ∷ story)) same legal))
  where
    same : x ≡ story_steps.Opened rows counts tells
    same = cc

    begun : Legal (story_steps.Opened rows counts tells ∷ story) → IsBegun (story_steps.Opened rows counts tells ∷ story) rows
        counts tells
    begun legal = record {
      opened = opened_stays (after start (story_steps.Opened rows counts tells)) story refl legal.1;
      apart = apart_from (after start (story_steps.Opened rows counts tells)) story refl legal.1;
    }

none_without : (story : List StoryStep) → rises_of story ≡ [] → hanging (state_of story).ends ≡ None
none_without story faultless = none_hangs start story refl faultless

same_counts : (one : Opening) (rows : List Plain) (counts : Counts) (tells : Bool) (found : Option Opening) → found ≡ Some one
    → found ≡ Some (opening_of rows counts tells) → (one.counts ≡ counts) × (one.tells ≡ tells)
same_counts one rows counts tells found is begun =
    let same : one ≡ opening_of rows counts tells = some_same one (opening_of rows counts tells) (sym is ∙ begun) in
    (ap (λ o. o.counts) same, ap (λ o. o.tells) same)

-- what is known of a disk
modeled_map : (modeled : Option Device) (P Q : Device → Type 0) → IfModeled modeled P → ((d : Device) → P d → Q d)
    → IfModeled modeled Q
modeled_map None P Q h f = tt
modeled_map (Some d) P Q h f = f d h

-- A stop finds a prefix of what was committed, where the base of the disk was opened
pub keeps_prefix : (before now : DiskState) (story : List StoryStep) → BeginsOn before story → Legal story
    → IsAccounted (state_of story) now → IsMended (state_of story) now → AllOpenAgain story → IsStopped before now story
keeps_prefix before now story begins legal accounted mended again = record {
  tells = sym accounted.tells ∙ counts.1 ∙ begins.on.tells;
  on_base = λ opened. record {
    opening = accounted.opening;
    opened = accounted.opened;
    ticks = accounted.ticks;
    stops =
        modeled_map now.modeled _ (λ d. (k : ℕ) → before.ticks < k
        → OfEachStop d k (MayBeFound accounted.opening (state_of story).ends k)) accounted.stops
        (λ d h k later. h k (omega (arith, later, ap (λ c. c.ticks) counts.0, begins.on.ticks)));
    again =
        modeled_map now.modeled _ (λ d. (k : ℕ) → before.ticks < k → OfEachStop d k (OpensAgain accounted.opening.base))
        accounted.stops
        (λ d h k later journal objects j o. again accounted.opening k (found_in journal objects) accounted.opened
        (h k (omega (arith, later, ap (λ c. c.ticks) counts.0, begins.on.ticks)) journal objects j o));
    settled = λ none. accounted.settled (none_without story none);
    mended = mended;
    apart =
        apart_wider before.faults (rises_of story) (faults_of (state_of story).opened (state_of story).ends) now.faults
        (subst (λ n. AreApart n (rises_of story) (faults_of (state_of story).opened (state_of story).ends)) begins.on.faults
        begun.apart) accounted.faults;
  };
  on_none = λ closed. absurd (not_closed story begins.first closed);
  files = λ closed. absurd (not_closed story begins.first closed);
  once = λ closed. absurd (not_closed story begins.first closed);
}
  where
    begun : IsBegun story (oldest_first begins.base) begins.handed.counts begins.handed.tells
    begun = is_begun story (oldest_first begins.base) begins.handed.counts begins.handed.tells begins.first legal

    counts : (accounted.opening.counts ≡ begins.handed.counts) × (accounted.opening.tells ≡ begins.handed.tells)
    counts = same_counts accounted.opening (oldest_first begins.base) begins.handed.counts begins.handed.tells
        (state_of story).opened accounted.opened begun.opened

    not_closed : (xs : List StoryStep) → first_step xs ≡ Some (story_steps.Opened (oldest_first begins.base) begins.handed.counts
        begins.handed.tells) → is_opened xs ≡ false → ⊥
    not_closed [] first closed = cc
    not_closed (x ∷ xs) first closed = cc

-- a disk on which no call was made
found_stays : (modeled : Option Device) (ticks : ℕ) → IfModeled modeled (λ d. ticks ≡ length d.calls)
    → IfModeled modeled AreSynced
    → IfModeled modeled (λ d. IfModeled modeled (λ e. (k : ℕ) → ticks < k → OfEachStop e k (λ found. found ≡ found_on d)))
found_stays None ticks counted synced = tt
found_stays (Some d) ticks counted synced = λ k later journal objects j o i. record {
  frames = frames (by 0 k journal synced.0 later j i);
  objects = by 1 k objects synced.1 later o i;
}
  where
    by : (file k : ℕ) (image : List ℕ) → file_of file d ≡ stable (bytes_now file d) → ticks < k → MayLeave file d k image
        → image ≡ bytes_now file d
    by file k image handed later (inl earlier) = let within = within_calls file d k image earlier in
        absurd (omega (arith, within, later, counted))
    by file k image handed later (inr now) = stable_image (bytes_now file d) image (subst (λ s. IsImage s image) handed now.1)

pub stays_untouched : (disk : DiskState) → IsCounted disk → IsHandedIn disk → IsStopped disk disk []
stays_untouched disk counted handed = record {
  tells = refl;
  on_base = λ opened. absurd (cc);
  on_none = λ closed. found_stays disk.modeled disk.ticks counted.modeled handed;
  files = λ closed. modeled_stay disk.modeled;
  once = λ closed. modeled_once_none disk.modeled;
}

pub stays_closed : (before now : DiskState) (story : List StoryStep) → story ≡ [] → is_some now.modeled ≡ is_some before.modeled
    → StopKeepsFound before now → Both ReadsOnce before.modeled now.modeled → Both SameFiles before.modeled now.modeled
    → IsStopped before now story
stays_closed before now story empty tells same once files = record {
  tells = tells;
  on_base = λ opened. absurd (not_opened story empty opened);
  on_none = λ closed. same;
  files = λ closed. files;
  once = λ closed. once;
}
  where
    not_opened : (xs : List StoryStep) → xs ≡ [] → is_opened xs ≡ true → ⊥
    not_opened [] e opened = cc
    not_opened (x ∷ xs) e opened = cc

-- a count that rose is not the one that it was, unless it stands at its last number
no_rise : (low high : ℕ) → low ≡ high → high < 2 ^ 64 - 1 → rises low high ≡ true → ⊥
no_rise low high same below rose = grind (arith, nat_tests)

pub mended_by : {A E : Type 0} (result : Result A E) (s : State) (ghost_state : DiskState) → OnOk result (IsSettled s ghost_state)
    → OnErr result (rises (faults_of s.opened s.ends) ghost_state.faults ≡ true) → IsMended s ghost_state
mended_by (Ok a) s ghost_state settled rose = λ same below. settled
mended_by (Err fault) s ghost_state settled rose = λ same below. absurd
    (no_rise (faults_of s.opened s.ends) ghost_state.faults same below rose)
