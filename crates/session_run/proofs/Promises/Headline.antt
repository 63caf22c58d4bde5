-- The promises of the headline, from what a run left, or a session that was not started.
use Rattle.std.proofs.Common.{◌≡◌, ℕ, inl, inr, option_map, Bool, true, false, Option, Some, None, Result, Ok, Err, List, []}
use Rattle.std.proofs.Common.{◌+◌, ◌<◌, ◌++◌, length, refl, ap, sym, subst, ◌∙◌, arith}
use Rattle.std.specs.Prelude.{◌&&◌, ◌⊎◌, if◌then◌else◌, option_and_then, IfSome, IfOk, IfErr}
use Rattle.std.specs.Io.KnownBytes.{Appends}
use Rattle.std.proofs.lemmas.List.{append-nil}
use Rattle.cc_names.specs.declared.commands.Phase.{Phase}
use Rattle.cc_names.specs.declared.memory.Or.{Or}
use Rattle.cc_names.specs.declared.memory.Or.TheVariants.{NoMemory, Is}
use Rattle.cc_names.specs.declared.steps.StoryStep.{StoryStep}
use Rattle.cc_names.specs.declared.steps.StoryStep.TheVariants as story_steps
use Rattle.cc_names.specs.Counts.{Rose, raised_count, rises}
use Rattle.cc_names.proofs.Common.{and_false}
use Rattle.cc_outside.specs.Feeds.{AppendsPrefix}
use Rattle.cc_outside.specs.declared.sinks.WriteFault.{WriteFault}
use Rattle.disk_model.specs.DiskStates.{DiskState, Both, IsCounted}
use Rattle.story_log.specs.Bases.Reading.{ReadsOnceBy}
use Rattle.story_log.specs.Logging.Appending.{SettlesTail}
use Rattle.story_log.specs.Stopping.Tails.{Tail}
use Rattle.story_log.proofs.Bases.ReadFrames.{once_of}
use Rattle.vob_journal.specs.Reads.{SameFiles}
use Rattle.vob_journal.proofs.Staying.{modeled_stay}
use Rattle.story_log.specs.Stopping.Backed.{IsAccounted, may_be_open}
use Rattle.base_core.specs.Story.Counted.{CountsSteps, KeepsCount, disk_of}
use Rattle.story_log.specs.Bases.Opening.{FailsToOpen, OpensCore, StopsBy}
use Rattle.story_log.specs.Stored.Stops.{found_on}
use Rattle.base_core.specs.Story.Shown.{Shown}
use Rattle.base_rows.specs.Order.{oldest_first}
use Rattle.story_log.specs.declared.opening.OpenCause.{OpenCause}
use Rattle.story_log.specs.declared.opening.OpenCause.TheVariants as opens
use Rattle.legal_history.specs.Stories.States.{all_done}
use Rattle.legal_history.specs.Stories.Steps.{state_of}
use Rattle.legal_history.specs.Stories.Lawful.{Legal}
use Rattle.vob_replica.specs.Runs.{run_of}
use Rattle.vob_replica.specs.declared.events.SiteError.{SiteError}
use Rattle.vob_replica.specs.declared.runs.Replies.{Replies}
use Rattle.session_run.specs.Calls.Asked.{is_session, phases_spelled, session_text_of, writes_behind}
use Rattle.session_run.specs.Calls.Causes.{Change, DiskUndamaged, Intake, IsAsked, IsIntakeRead, IsUntouched, IsWholeRun}
use Rattle.session_run.specs.Calls.Causes.{HasCause, KeepsSink, disk_rose}
use Rattle.session_run.specs.Calls.Causes.{session_text}
use Rattle.session_run.specs.Calls.Sites.{sites_status, sites_text, status_of_sites, text_of_sites, text_unopened}
use Rattle.session_run.specs.Calls.Statuses.{is_cut}
use Rattle.session_run.specs.Faults.Accounted.{CountsFrom, SettlesJournal}
use Rattle.session_run.specs.Faults.Stopped.{AllOpenAgain, IsHandedIn, IsMended, IsStopped}
use Rattle.session_run.specs.Promises.Promised.{Promised, readings_of}
use Rattle.session_run.specs.Promises.Headline.{BeginsOn, EndsAtTranscript, IsCutAtLast, IsSession, ReadsClock, IsOneHistory, ArePrinted}
use Rattle.session_run.specs.Promises.Headline.{IsLeftToBegin, ReadsTimes, clock_moments}
use Rattle.session_run.specs.Running.Forms.{HasDone, HasRunSo, IsCutSo, IsGivenUp, IsRunThrough}
use Rattle.session_run.specs.Running.Outcomes.{RunsOpened, RunsSession}
use Rattle.session_run.specs.Running.Runs.{CountsWriteFaults, IsJustOpened, Outside, ReadsBy, run_status}
use Rattle.session_run.specs.Running.Unstarted.{GivesPhases, GivesSites, IsUnstarted, IsWithoutBase, WritesReplies}
use Rattle.session_run.specs.Running.Unstarted.{WritesUnstarted, WritesWithoutBase}
use Rattle.session_run.specs.Running.Unstarted.{of_unopened, unstarted_line, unstarted_status}
use Rattle.session_run.specs.Story.Begun.{IsPrefixOf, first_step, is_opened, is_through, phases_begun, moments_begun}
use Rattle.session_run.specs.Story.Rendered.{earlier_text}
use Rattle.session_run.specs.Story.Modeled.{text_modeled}
use Rattle.session_run.specs.declared.sessions.Unstarted.{Unstarted}
use Rattle.session_run.specs.declared.sessions.Unstarted.TheVariants as why
use Rattle.session_run.specs.declared.sessions.WithoutBase.{WithoutBase}
use Rattle.session_run.specs.declared.sessions.WithoutBase.TheVariants as without
use Rattle.session_run.specs.declared.statuses.Status.{Status}
use Rattle.session_run.specs.declared.statuses.Status.TheVariants as statuses
use Rattle.session_run.specs.declared.words.Form.{Form}
use Rattle.session_run.specs.declared.words.Form.TheVariants as forms
use Rattle.story_log.proofs.Bases.Damages.{undamaged_on}
use Rattle.session_run.proofs.Faults.Blaming.{blamed}
use Rattle.session_run.proofs.Faults.Files.{closed_files, keeps_files}
use Rattle.session_run.proofs.Faults.Stopping.{keeps_prefix, stays_closed, stays_untouched}
use Rattle.session_run.proofs.Promises.Checked.{asks_no_check, tells_nothing, tells_soundness}
use Rattle.session_run.proofs.Running.Runs.{clock_length, raised_none}

-- what is known of bytes
modeled_so : (text : Option (List ℕ)) (P Q : List ℕ → Type 0) → IfSome text P → ((bytes : List ℕ) → P bytes → Q bytes)
    → IfSome text Q
modeled_so None P Q h f = tt
modeled_so (Some bytes) P Q h f = f bytes h

always : (text : Option (List ℕ)) (Q : List ℕ → Type 0) → ((bytes : List ℕ) → Q bytes) → IfSome text Q
always None Q f = tt
always (Some bytes) Q f = f bytes

not_false : (b : Bool) {A : Type 0} → b ≡ true → b ≡ false → A
not_false b one two = absurd (cc)

-- the clock's readings as a run began and as it ended
-- The session, where the phases were run
session_run : (status : Status) (story : List StoryStep) (form : Form) (phases : List Phase) (intake : Intake) (outside : Outside)
    (failed : Bool) → GivesPhases intake form phases → HasDone form phases story outside failed
    → IsSession status story intake outside.moments (readings_of outside)
session_run status story form phases intake outside failed gives ran = record {
  begun = modeled_so (session_text intake) _ (λ bytes. IsPrefixOf (phases_begun story) (phases_spelled bytes)) gives.spelled
      (λ bytes e. ([], e ∙ sym ran.phases_are ∙ sym (append-nil (phases_begun story))));
  all = λ through. modeled_so (session_text intake) _ (λ bytes. phases_begun story ≡ phases_spelled bytes) gives.spelled
      (λ bytes e. ran.phases_are ∙ sym e);
  none = modeled_so (session_text intake) _ (λ bytes. is_session bytes ≡ false
      → story ≡ []) gives.session (λ bytes e f. not_false (is_session bytes) e f);
  moments =
      modeled_so outside.moments _ (λ modeled. moments_begun story ≡ clock_moments modeled outside.first
      (length (moments_begun story))) ran.moments_are
      (λ modeled e. e ∙ ap (clock_moments modeled outside.first) (sym (clock_length modeled outside.first (length phases))
      ∙ sym (ap length e)));
  read = let times = ran.reading_is ∙ ap (raised_count outside.first) (sym (ap length ran.phases_are)) in
      record { once = λ other. times; most = inl times; none = λ closed. absurd (let opened = ran.opened in cc) };
}

session_cut : (status : Status) (cut : Or WriteFault) (story : List StoryStep) (form : Form) (phases : List Phase)
    (intake : Intake) (outside : Outside) → (is_through intake.form status story ≡ true → phases_begun story ≡ phases)
    → GivesPhases intake form phases → IsGivenUp form cut phases story outside → ReadsClock status story intake (readings_of outside)
    → IsSession status story intake outside.moments (readings_of outside)
session_cut status cut story form phases intake outside whole gives left read = record {
  begun = modeled_so (session_text intake) _ (λ bytes. IsPrefixOf (phases_begun story) (phases_spelled bytes)) gives.spelled
      (λ bytes e. (left.begun.0, e ∙ left.begun.1));
  all = λ through. modeled_so (session_text intake) _ (λ bytes. phases_begun story ≡ phases_spelled bytes) gives.spelled
      (λ bytes e. whole through ∙ sym e);
  none = modeled_so (session_text intake) _ (λ bytes. is_session bytes ≡ false
      → story ≡ []) gives.session (λ bytes e f. not_false (is_session bytes) e f);
  moments = left.moments_are;
  read = read;
}

session_none : (status : Status) (intake : Intake) (outside : Outside) → is_through intake.form status [] ≡ false
    → outside.reading ≡ outside.first → IsSession status [] intake outside.moments (readings_of outside)
session_none status intake outside not unread = record {
  begun = always (session_text intake) (λ bytes. IsPrefixOf [] (phases_spelled bytes)) (λ bytes. (phases_spelled bytes, refl));
  all = λ through. not_false (is_through intake.form status []) through not;
  none = always (session_text intake) (λ bytes. let none : List StoryStep = [] in is_session bytes ≡ false
      → none ≡ []) (λ bytes e. refl);
  moments = always outside.moments (λ modeled. let none : List ℕ = [] in
      none ≡ clock_moments modeled outside.first 0) (λ modeled. refl);
  read = let times = unread ∙ sym (raised_none outside.first) in
      record { once = λ other. times; most = inl times; none = λ closed. times };
}

-- where memory ran out the clock was read once more only for a phase that did not begin
most_read : (form : Form) (phases : List Phase) (story : List StoryStep) (intake : Intake) (outside : Outside)
    → GivesPhases intake form phases → ReadsBy NoMemory (length phases) story outside
    → ReadsTimes (length (phases_begun story)) (readings_of outside)
    ⊎ (IsLeftToBegin story intake × (all_done (state_of story) ≡ true)
    × ReadsTimes (length (phases_begun story) + 1) (readings_of outside))
most_read form phases story intake outside gives (inl once) = inl once
most_read form phases story intake outside gives (inr more) = inr (
  modeled_so (session_text intake) _ (λ bytes. length (phases_begun story) < length (phases_spelled bytes)) gives.spelled
      (λ bytes e. subst (λ spelled. length (phases_begun story) < length spelled) (sym e) more.0),
  more.1,
  more.2,
)

-- a form that writes after its session had run it through where the sink failed
behind : (form : Form) (fault : WriteFault) (phases : List Phase) (story : List StoryStep) (outside : Outside)
    → IsCutSo form (Is fault) phases story outside → (writes_behind (Some form) && is_opened story) ≡ true
    → IsRunThrough phases story
behind forms.Run fault phases story outside cut through = absurd (cc)
behind (forms.Big seed size) fault phases story outside cut through = cut
behind forms.Verify fault phases story outside cut through = cut
behind forms.Sites fault phases story outside cut through = absurd (cc)

behind_words : (intake : Intake) (form : Form) (fault : WriteFault) (phases : List Phase) (story : List StoryStep)
    (outside : Outside) → intake.form ≡ Some form → IsCutSo form (Is fault) phases story outside
    → is_through intake.form statuses.WriteFault story ≡ true → IsRunThrough phases story
behind_words intake form fault phases story outside words cut through =
    behind form fault phases story outside cut (subst (λ asked. (writes_behind asked && is_opened story) ≡ true) words through)

run_session : (result : Result Bool (Or WriteFault)) (rose : Bool) (story : List StoryStep) (form : Form) (phases : List Phase)
    (intake : Intake) (outside : Outside) → GivesPhases intake form phases → HasRunSo form result phases story outside
    → IsSession (run_status result rose) story intake outside.moments (readings_of outside)
run_session (Ok failed) rose story form phases intake outside gives ran =
    session_run _ story form phases intake outside failed gives ran
run_session (Err NoMemory) rose story form phases intake outside gives left =
    session_cut _ NoMemory story form phases intake outside (λ through. absurd (cc)) gives left
    (record {
      once = λ other. absurd (other refl);
      most = most_read form phases story intake outside gives left.reading_is;
      none = λ closed. absurd (let opened = left.opened in cc);
    })
run_session (Err (Is fault)) rose story form phases intake outside gives left =
    session_cut _ (Is fault) story form phases intake outside (λ through.
    (behind_words intake form fault phases story outside gives.words left.cut_at through).phases_are) gives left
    (record {
      once = λ other. left.reading_is;
      most = inl left.reading_is;
      none = λ closed. absurd (let opened = left.opened in cc);
    })

-- One legal history
not_cut : (failed rose : Bool) → run_status (Ok failed) rose ≡ statuses.WriteFault → ⊥
not_cut true true e = cc
not_cut false true e = cc
not_cut true false e = cc
not_cut false false e = cc

not_broken : (failed rose : Bool) → run_status (Ok failed) rose ≡ statuses.NoMemory → ⊥
not_broken true true e = cc
not_broken false true e = cc
not_broken true false e = cc
not_broken false false e = cc

some_form : (asked : Option Form) (form one : Form) → asked ≡ Some form → asked ≡ Some one → form ≡ one
some_form asked form one words other = cc

cut_at_last : (form : Form) (fault : WriteFault) (phases : List Phase) (story : List StoryStep) (outside : Outside)
    → IsCutSo form (Is fault) phases story outside → form ≡ forms.Run → IsCutAtLast story (earlier_text story) outside.held
    outside.holds
cut_at_last forms.Run fault phases story outside cut is = cut
cut_at_last (forms.Big seed size) fault phases story outside cut is = absurd (cc)
cut_at_last forms.Verify fault phases story outside cut is = absurd (cc)
cut_at_last forms.Sites fault phases story outside cut is = absurd (cc)

run_history : (result : Result Bool (Or WriteFault)) (rose : Bool) (story : List StoryStep) (form : Form) (phases : List Phase)
    (intake : Intake) (disk : DiskState) (outside : Outside) → GivesPhases intake form phases → Legal story → BeginsOn disk story
    → HasRunSo form result phases story outside → IsOneHistory intake.form (run_status result rose) story disk outside.held
    outside.holds
run_history (Ok failed) rose story form phases intake disk outside gives legal begins ran = record {
  legal = legal;
  base = λ opened. begins;
  complete = λ through. ran.finished;
  cut = λ run opened e. absurd (not_cut failed rose e);
  unbroken = λ opened e. absurd (not_broken failed rose e);
  alone = λ check. ran.alone (some_form intake.form form forms.Verify gives.words check);
}
run_history (Err NoMemory) rose story form phases intake disk outside gives legal begins left = record {
  legal = legal;
  base = λ opened. begins;
  complete = λ through. absurd (cc);
  cut = λ run opened e. absurd (cc);
  unbroken = λ opened e. subst (λ asked. EndsAtTranscript asked story outside.held outside.holds) (sym gives.words) left.cut_at;
  alone = λ check. left.alone (some_form intake.form form forms.Verify gives.words check);
}
run_history (Err (Is fault)) rose story form phases intake disk outside gives legal begins left = record {
  legal = legal;
  base = λ opened. begins;
  complete = λ through. (behind_words intake form fault phases story outside gives.words left.cut_at through).finished;
  cut = λ run opened e. cut_at_last form fault phases story outside left.cut_at
      (some_form intake.form form forms.Run gives.words run);
  unbroken = λ opened e. absurd (cc);
  alone = λ check. left.alone (some_form intake.form form forms.Verify gives.words check);
}

history_none : (form : Option Form) (status : Status) (disk : DiskState) (old new : Option (List ℕ))
    → is_through form status [] ≡ false → IsOneHistory form status [] disk old new
history_none form status disk old new not = record {
  legal = tt;
  base = λ opened. absurd (cc);
  complete = λ through. not_false (is_through form status []) through not;
  cut = λ run opened e. absurd (cc);
  unbroken = λ opened e. absurd (cc);
  alone = λ check. omega arith;
}

-- Printed replies
printed_whole : (status : Status) (story : List StoryStep) (form : Form) (intake : Intake) (faults : Change ℕ)
    (disk : Change DiskState) (old new : Option (List ℕ)) → intake.form ≡ Some form → is_opened story ≡ true
    → is_cut status ≡ false → Appends old new (text_modeled form story) → ArePrinted status story intake faults disk old new
printed_whole status story form intake faults disk old new words opened whole written = record {
  whole = λ one is o c. subst (λ f. Appends old new (text_modeled f story)) (some_form intake.form form one words is) written;
  prefix = λ one is o c. not_false (is_cut status) c whole;
  line = λ o c. not_false (is_opened story) opened o;
  line_prefix = λ o c. not_false (is_opened story) opened o;
  nothing = λ o c. not_false (is_opened story) opened o;
}

printed_prefix : (status : Status) (story : List StoryStep) (form : Form) (intake : Intake) (faults : Change ℕ)
    (disk : Change DiskState) (old new : Option (List ℕ)) → intake.form ≡ Some form → is_opened story ≡ true
    → is_cut status ≡ true → AppendsPrefix old new (text_modeled form story) → ArePrinted status story intake faults disk old new
printed_prefix status story form intake faults disk old new words opened cut written = record {
  whole = λ one is o c. not_false (is_cut status) cut c;
  prefix = λ one is o c. subst (λ f. AppendsPrefix old new (text_modeled f story)) (some_form intake.form form one words is)
      written;
  line = λ o c. not_false (is_opened story) opened o;
  line_prefix = λ o c. not_false (is_opened story) opened o;
  nothing = λ o c. not_false (is_opened story) opened o;
}

not_cut_short : (failed rose : Bool) → is_cut (run_status (Ok failed) rose) ≡ false
not_cut_short true true = refl
not_cut_short false true = refl
not_cut_short true false = refl
not_cut_short false false = refl

run_printed : (result : Result Bool (Or WriteFault)) (rose : Bool) (story : List StoryStep) (form : Form) (phases : List Phase)
    (intake : Intake) (outside : Outside) (faults : Change ℕ) (disk : Change DiskState) → GivesPhases intake form phases
    → HasRunSo form result phases story outside → ArePrinted (run_status result rose) story intake faults disk outside.held
    outside.holds
run_printed (Ok failed) rose story form phases intake outside faults disk gives ran =
    printed_whole _ story form intake faults disk outside.held outside.holds gives.words ran.opened (not_cut_short failed rose)
    ran.written
run_printed (Err NoMemory) rose story form phases intake outside faults disk gives left =
    printed_prefix _ story form intake faults disk outside.held outside.holds gives.words left.opened refl left.written
run_printed (Err (Is fault)) rose story form phases intake outside faults disk gives left =
    printed_prefix _ story form intake faults disk outside.held outside.holds gives.words left.opened refl left.written

-- The cause
pub asked : (intake : Intake) (form : Form) (phases : List Phase) → GivesPhases intake form phases → IsAsked intake
asked intake form phases gives = record {
  taken = record { form = form; words = gives.words; taken = gives.taken };
  base = λ sites. gives.base (some_form intake.form form forms.Sites gives.words sites);
  session = gives.session;
}

whole : (intake : Intake) (story : List StoryStep) (form : Form) (phases : List Phase) (outside : Outside) (failed : Bool)
    → GivesPhases intake form phases → HasDone form phases story outside failed → IsWholeRun intake story failed
unfolding asked
whole intake story form phases outside failed gives ran =
    record { asked = asked intake form phases gives; opened = ran.opened; finished = ran.finished; failures = ran.failures }

run_cause : (result : Result Bool (Or WriteFault)) (rose : Bool) (story : List StoryStep) (form : Form) (phases : List Phase)
    (intake : Intake) (outside : Outside) (faults : Change ℕ) (disk : Change DiskState) → disk_rose disk ≡ rose
    → GivesPhases intake form phases → HasRunSo form result phases story outside
    → CountsWriteFaults result faults.before faults.after → DiskUndamaged disk
    → HasCause (run_status result rose) intake faults disk story
run_cause (Ok true) true story form phases intake outside faults disk by gives ran wrote faultless =
    (asked intake form phases gives, by, λ opened. ran.finished)
run_cause (Ok false) true story form phases intake outside faults disk by gives ran wrote faultless =
    (asked intake form phases gives, by, λ opened. ran.finished)
run_cause (Ok true) false story form phases intake outside faults disk by gives ran wrote faultless =
    inl (whole intake story form phases outside true gives ran, by, faultless)
run_cause (Ok false) false story form phases intake outside faults disk by gives ran wrote faultless =
    inl (whole intake story form phases outside false gives ran, by, faultless)
run_cause (Err NoMemory) rose story form phases intake outside faults disk by gives left wrote faultless =
    λ closed. not_false (is_opened story) left.opened closed
run_cause (Err (Is fault)) rose story form phases intake outside faults disk by gives left wrote faultless = wrote

run_sink : (result : Result Bool (Or WriteFault)) (rose : Bool) (faults : Change ℕ)
    → CountsWriteFaults result faults.before faults.after → KeepsSink (run_status result rose) faults
run_sink (Ok failed) rose faults wrote = λ other. wrote
run_sink (Err NoMemory) rose faults wrote = λ other. wrote
run_sink (Err (Is fault)) rose faults wrote = λ other. absurd (other refl)

-- A base was opened, its session was run, and then its journal was settled, which leaves the story.
module _ (one ran : Shown) (settled : List StoryStep) (ghost_state : DiskState) (kept : settled ≡ ran.story)
    (settles : SettlesJournal (may_be_open (state_of ran.story).ends) ran.ghost_state ghost_state)
    (calls : SettlesTail (state_of ran.story).ends ran.tail ran.ghost_state ghost_state) where
  -- the steps since, and the settling, have the disk's counts
  counts_from : IsJustOpened one.story → KeepsCount one ran → CountsFrom (disk_of one) ghost_state settled
  counts_from just keeps = record {
    first = story_steps.Opened just.rows just.counts just.tells;
    steps = keeps.steps;
    ended = disk_of ran;
    story_is = kept ∙ keeps.grows ∙ ap (λ story. story ++ keeps.steps) just.is;
    counts = subst (λ story. CountsSteps (state_of story) keeps.steps (disk_of one) (disk_of ran)) just.is keeps.counts;
    settled = subst (λ story. SettlesJournal (may_be_open (state_of story).ends) ran.ghost_state ghost_state) (sym kept) settles;
    calls = subst (λ story. SettlesTail (state_of story).ends ran.tail ran.ghost_state ghost_state) (sym kept) calls;
  }

  -- and this is what became of it
  pub runs_opened : (result : Result Bool (Or WriteFault)) (form : Form) (phases : List Phase) (status : Status)
      (first : Option StoryStep) (history : List StoryStep) (before : ℕ) (now : DiskState) (outside : Outside)
      (faults : Change ℕ) → IsJustOpened one.story → KeepsCount one ran → history ≡ settled → now ≡ ghost_state
      → status ≡ run_status result (rises before ghost_state.faults) → first_step ran.story ≡ first → Legal settled
      → IfOk result (HasDone form phases ran.story outside) → IfErr result (λ cut. IsGivenUp form cut phases ran.story outside)
      → CountsWriteFaults result faults.before faults.after → IsAccounted (state_of settled) ghost_state
      → IsMended (state_of settled) ghost_state → AllOpenAgain settled → RunsOpened form phases status first history before
      (disk_of one) now outside faults
  runs_opened result form phases status first history before now outside faults just keeps same seen is begins legal done left
      wrote accounted mended again =
      subst (λ s. RunsOpened form phases status first s before (disk_of one) now outside faults)
      (sym same)
      (subst (λ d. RunsOpened form phases status first settled before (disk_of one) d outside faults) (sym seen)
      (record {
        result = result;
        status_is = is;
        first_is = ap first_step kept ∙ begins;
        legal = legal;
        ran = subst (λ s. HasRunSo form result phases s outside) (sym kept) (ran_so result done left);
        fault = wrote;
        accounted = accounted;
        mended = mended;
        again = again;
        counted = counts_from just keeps;
      }))
    where
      ran_so : (r : Result Bool (Or WriteFault)) → IfOk r (HasDone form phases ran.story outside)
          → IfErr r (λ cut. IsGivenUp form cut phases ran.story outside) → HasRunSo form r phases ran.story outside
      ran_so (Ok failed) one two = one
      ran_so (Err cut) one two = two

pub untouched : (disk : DiskState) → IsUntouched (record { before = disk; after = disk }) []
untouched disk = record { disk_is = refl; story_is = refl }

unstarted_cause : (unstarted : Unstarted) (intake : Intake) (faults : Change ℕ) (disk : DiskState) → IsUnstarted unstarted intake
    → HasCause (unstarted_status unstarted) intake faults (record { before = disk; after = disk }) []
unstarted_cause why.BadWords intake faults disk h = (h.0, h.1, untouched disk)
unstarted_cause why.ReadFault intake faults disk h = (h, untouched disk)
unstarted_cause why.TooLong intake faults disk h = (h, untouched disk)
unstarted_cause (why.BadSession error) intake faults disk h = inl (h.0, h.1, untouched disk)
unstarted_cause (why.Unopened (opens.Damaged row)) intake faults disk h = absurd h
unstarted_cause (why.Unopened opens.DiskFault) intake faults disk h = absurd h
unstarted_cause (why.Unopened opens.NoMemory) intake faults disk h = λ closed. refl

-- a status that is none of theirs is that of a cut
cut_cause : (status : Status) (intake : Intake) (faults : Change ℕ) (disk : Change DiskState) → is_cut status ≡ true
    → (status ≡ statuses.WriteFault → Rose faults.before faults.after)
    → (status ≡ statuses.NoMemory → disk.after.faults ≡ disk.before.faults) → HasCause status intake faults disk []
cut_cause statuses.WriteFault intake faults disk e rose stood = rose refl
cut_cause statuses.NoMemory intake faults disk e rose stood = λ closed. stood refl
cut_cause status intake faults disk e rose stood = absurd (cc)

cut_not_through : (form : Option Form) (status : Status) → is_cut status ≡ true → is_through form status [] ≡ false
cut_not_through form statuses.WriteFault e = and_false (writes_behind form)
cut_not_through form statuses.NoMemory e = refl
cut_not_through form status e = absurd (cc)

unstarted_not_through : (form : Option Form) (unstarted : Unstarted) → is_through form (unstarted_status unstarted) [] ≡ false
unstarted_not_through form why.BadWords = refl
unstarted_not_through form why.ReadFault = refl
unstarted_not_through form why.TooLong = refl
unstarted_not_through form (why.BadSession error) = refl
unstarted_not_through form (why.Unopened (opens.Damaged row)) = refl
unstarted_not_through form (why.Unopened opens.DiskFault) = refl
unstarted_not_through form (why.Unopened opens.NoMemory) = refl

not_through : (form : Option Form) (unstarted : Unstarted) (status : Status) (is : Bool) → is_cut status ≡ is
    → (is_cut status ≡ false → status ≡ unstarted_status unstarted) → is_through form status [] ≡ false
not_through form unstarted status true e h = cut_not_through form status e
not_through form unstarted status false e h = ap (λ s. is_through form s []) (h e) ∙ unstarted_not_through form unstarted

has_cause : (unstarted : Unstarted) (status : Status) (intake : Intake) (faults : Change ℕ) (disk : Change DiskState) (is : Bool)
    → is_cut status ≡ is → HasCause (unstarted_status unstarted) intake faults disk []
    → (is_cut status ≡ false → status ≡ unstarted_status unstarted) → (status ≡ statuses.WriteFault
    → Rose faults.before faults.after)
    → (status ≡ statuses.NoMemory → unstarted ≡ why.Unopened opens.NoMemory) → HasCause status intake faults disk []
has_cause unstarted status intake faults disk true e h is rose memory =
    cut_cause status intake faults disk e rose (λ so. subst (λ s. HasCause (unstarted_status s) intake faults disk []) (memory so)
    h refl)
has_cause unstarted status intake faults disk false e h is rose memory =
    subst (λ s. HasCause s intake faults disk []) (sym (is e)) h

-- what is written then is the line
line_is : (unstarted : Unstarted) (form : Option Form) (left : Option (List ℕ))
    → text_unopened (unstarted_status unstarted) form left ≡ Some (unstarted_line unstarted)
line_is why.BadWords form left = refl
line_is why.ReadFault form left = refl
line_is why.TooLong form left = refl
line_is (why.BadSession error) form left = refl
line_is (why.Unopened (opens.Damaged row)) form left = refl
line_is (why.Unopened opens.DiskFault) form left = refl
line_is (why.Unopened opens.NoMemory) form left = refl

unstarted_printed : (unstarted : Unstarted) (status : Status) (intake : Intake) (old new : Option (List ℕ)) (faults : Change ℕ)
    (disk : Change DiskState) → HasCause (unstarted_status unstarted) intake faults disk []
    → WritesUnstarted unstarted status old new faults → ArePrinted status [] intake faults disk old new
unstarted_printed unstarted status intake old new faults disk cause wrote = record {
  whole = λ form words o c. absurd (cc);
  prefix = λ form words o c. absurd (cc);
  line = λ o c.
      subst (λ s. IfSome (text_unopened s intake.form intake.text.before) (Appends old new)) (sym (wrote.answer c))
      (subst (λ text. IfSome text (Appends old new)) (sym (line_is unstarted intake.form intake.text.before)) (wrote.whole c));
  line_prefix = λ o e. record {
    status = unstarted_status unstarted;
    cause = cause;
    uncut = wrote.line e;
    written = subst (λ text. IfSome text (AppendsPrefix old new)) (sym (line_is unstarted intake.form intake.text.before))
        (wrote.prefix e);
  };
  nothing = λ o e. wrote.nothing e;
}

unstarted_so : (unstarted : Unstarted) (status : Status) (intake : Intake) (outside : Outside) (faults : Change ℕ)
    (disk : Change DiskState) → Both SameFiles disk.before.modeled disk.after.modeled → outside.reading ≡ outside.first
    → HasCause (unstarted_status unstarted) intake faults disk [] → WritesUnstarted unstarted status outside.held outside.holds
    faults → IsStopped disk.before disk.after [] → Promised status [] intake outside faults disk
unstarted_so unstarted status intake outside faults disk same unread cause wrote stopped =
    let not = not_through intake.form unstarted status (is_cut status) refl wrote.answer in
    record {
      session = session_none status intake outside not unread;
      history = history_none intake.form status disk.before outside.held outside.holds not;
      printed = unstarted_printed unstarted status intake outside.held outside.holds faults disk cause wrote;
      stopped = stopped;
      cause = has_cause unstarted status intake faults disk (is_cut status) refl cause wrote.answer wrote.fault wrote.memory;
      sink = wrote.kept;
      checked = tells_nothing intake.form status not;
      accounted = λ opened. absurd (cc);
      files = closed_files disk same;
    }

-- The promises where the source gave no session
pub promised_unstarted : (unstarted : Unstarted) (status : Status) (intake : Intake) (outside : Outside) (faults : Change ℕ)
    (disk : DiskState) → outside.reading ≡ outside.first → IsCounted disk → IsHandedIn disk → IsUnstarted unstarted intake
    → WritesUnstarted unstarted status outside.held outside.holds faults
    → Promised status [] intake outside faults (record { before = disk; after = disk })
promised_unstarted unstarted status intake outside faults disk unread counted handed h wrote =
    unstarted_so unstarted status intake outside faults (record { before = disk; after = disk }) (modeled_stay disk.modeled)
    unread (unstarted_cause unstarted intake faults disk h) wrote (stays_untouched disk counted handed)

-- why a base is not opened is the cause of the status
open_cause : (because : OpenCause) (rose : Bool) (intake : Intake) (faults : Change ℕ) (disk : Change DiskState)
    → disk_rose disk ≡ rose → IsAsked intake → StopsBy disk.before.modeled found_on because
    disk.before.faults disk.after.faults → Both (ReadsOnceBy because) disk.before.modeled disk.after.modeled
    → HasCause (unstarted_status (of_unopened because rose)) intake faults disk []
open_cause opens.NoMemory rose intake faults disk by asked is once = λ closed. is
open_cause (opens.Damaged row) true intake faults disk by asked is once = (asked, by, λ opened. absurd (cc))
open_cause (opens.Damaged row) false intake faults disk by asked is once = (asked, is.1, by, refl, once)
open_cause opens.DiskFault rose intake faults disk by asked is once = (asked, is, λ opened. absurd (cc))

promised_closed : (because : OpenCause) (status : Status) (intake : Intake) (outside : Outside) (faults : Change ℕ)
    (disk : Change DiskState) → outside.reading ≡ outside.first → IsAsked intake → FailsToOpen disk.before because disk.after
    → Both (ReadsOnceBy because) disk.before.modeled disk.after.modeled
    → WritesUnstarted (of_unopened because (disk_rose disk)) status
    outside.held outside.holds faults
    → Promised status [] intake outside faults disk
promised_closed because status intake outside faults disk unread asked fails once wrote =
    unstarted_so (of_unopened because (disk_rose disk)) status intake outside faults disk fails.files unread
    (open_cause because (disk_rose disk) intake faults disk refl asked fails.because once) wrote
    (stays_closed disk.before disk.after [] refl fails.tells fails.unchanged
    (once_of because disk.before.modeled disk.after.modeled once) fails.files)

-- a text of sites comes to a status that is not cut, and what is written is its text
sites_uncut : (run : Result Replies SiteError) → is_cut (status_of_sites run) ≡ false
sites_uncut (Ok replies) = by replies.refused
  where
    by : (refused : Bool) → is_cut (if refused then statuses.SomeFailed else statuses.Good) ≡ false
    by true = refl
    by false = refl
sites_uncut (Err error) = refl

text_by : (run : Result Replies SiteError) (left : Option (List ℕ)) (P : List ℕ → Type 0)
    → IfSome left (λ bytes. P (sites_text bytes)) → P (text_of_sites run)
    → IfSome (text_unopened (status_of_sites run) (Some forms.Sites) left) P
text_by (Ok replies) left P told is = by replies.refused
  where
    mapped : (left : Option (List ℕ)) → IfSome left (λ bytes. P (sites_text bytes)) → IfSome (option_map sites_text left) P
    mapped None h = tt
    mapped (Some bytes) h = h

    by : (refused : Bool) → IfSome (text_unopened (if refused then statuses.SomeFailed else statuses.Good) (Some forms.Sites)
        left) P
    by true = mapped left told
    by false = mapped left told
text_by (Err error) left P told is = is

text_told : (intake : Intake) (text : List ℕ) → GivesSites intake text → (P : List ℕ → Type 0) → P (sites_text text)
    → IfSome (text_unopened (sites_status text) intake.form intake.text.before) P
text_told intake text gives P is =
    subst (λ asked. IfSome (text_unopened (sites_status text) asked intake.text.before) P) (sym gives.words)
    (text_by (run_of text) intake.text.before P (modeled_so intake.text.before _ (λ bytes. P (sites_text bytes)) gives.is
    (λ bytes e. subst (λ t. P (sites_text t)) (sym e) is)) is)

-- what the words of `sites` are replied without a base
refusal_cause : (refused : Bool) (intake : Intake) (faults : Change ℕ) (disk : DiskState) → intake.form ≡ Some forms.Sites
    → IsIntakeRead intake
    → IfSome intake.text.before (λ bytes. sites_status bytes ≡ (if refused then statuses.SomeFailed else statuses.Good))
    → HasCause (if refused then statuses.SomeFailed else statuses.Good) intake faults (record { before = disk; after = disk }) []
refusal_cause true intake faults disk words read comes = inr (
  record { words = words; read = read; comes = comes },
  untouched disk,
)
refusal_cause false intake faults disk words read comes = inr (
  record { words = words; read = read; comes = comes },
  untouched disk,
)

cause_by : (run : Result Replies SiteError) (intake : Intake) (faults : Change ℕ) (disk : DiskState)
    → intake.form ≡ Some forms.Sites
    → IsIntakeRead intake → IfSome intake.text.before (λ bytes. sites_status bytes ≡ status_of_sites run)
    → HasCause (status_of_sites run) intake faults (record { before = disk; after = disk }) []
cause_by (Ok replies) intake faults disk words read comes = refusal_cause replies.refused intake faults disk words read comes
cause_by (Err error) intake faults disk words read comes = inr (
  record { words = words; read = read; comes = comes },
  untouched disk,
)

replied_cause : (intake : Intake) (text : List ℕ) (faults : Change ℕ) (disk : DiskState) → GivesSites intake text
    → HasCause (sites_status text) intake faults (record { before = disk; after = disk }) []
replied_cause intake text faults disk gives =
    cause_by (run_of text) intake faults disk gives.words gives.read (modeled_so intake.text.before _
    (λ bytes. sites_status bytes ≡ sites_status text) gives.is (λ bytes e. ap sites_status e))

replied_printed : (intake : Intake) (text : List ℕ) (status : Status) (old new : Option (List ℕ)) (faults : Change ℕ)
    (disk : DiskState) → GivesSites intake text → WritesReplies text status old new faults
    → ArePrinted status [] intake faults (record { before = disk; after = disk }) old new
replied_printed intake text status old new faults disk gives wrote = record {
  whole = λ form words o c. absurd (cc);
  prefix = λ form words o c. absurd (cc);
  line = λ o c. subst (λ s. IfSome (text_unopened s intake.form intake.text.before) (Appends old new)) (sym (wrote.answer c))
      (text_told intake text gives (Appends old new) (wrote.whole c));
  line_prefix = λ o e. record {
    status = sites_status text;
    cause = replied_cause intake text faults disk gives;
    uncut = sites_uncut (run_of text);
    written = text_told intake text gives (AppendsPrefix old new) (wrote.prefix e);
  };
  nothing = λ o e. wrote.nothing e;
}

replied_history : (form : Option Form) (status : Status) (disk : DiskState) (old new : Option (List ℕ))
    → IsOneHistory form status [] disk old new
replied_history form status disk old new = record {
  legal = tt;
  base = λ opened. absurd (cc);
  complete = λ through. refl;
  cut = λ run opened e. absurd (cc);
  unbroken = λ opened e. absurd (cc);
  alone = λ check. omega arith;
}

-- no session is run
replied_session : (status : Status) (intake : Intake) (outside : Outside) → intake.form ≡ Some forms.Sites
    → outside.reading ≡ outside.first → IsSession status [] intake outside.moments (readings_of outside)
replied_session status intake outside words unread = record {
  begun = always (session_text intake) (λ bytes. IsPrefixOf [] (phases_spelled bytes)) (λ bytes. (phases_spelled bytes, refl));
  all = λ through.
      let none : List Phase = [] in
      subst (λ asked. IfSome (option_and_then (λ form. session_text_of form intake.text.before) asked)
      (λ bytes. none ≡ phases_spelled bytes)) (sym words) refl;
  none = always (session_text intake) (λ bytes. let none : List StoryStep = [] in is_session bytes ≡ false
      → none ≡ []) (λ bytes e. refl);
  moments = always outside.moments (λ modeled. let none : List ℕ = [] in
      none ≡ clock_moments modeled outside.first 0) (λ modeled. refl);
  read = let times = unread ∙ sym (raised_none outside.first) in
      record { once = λ other. times; most = inl times; none = λ closed. times };
}

-- a status that is cut has its cause, and each other is that of the text
replied_so : (intake : Intake) (text : List ℕ) (status : Status) (old new : Option (List ℕ)) (faults : Change ℕ)
    (disk : DiskState) (is : Bool) → is_cut status ≡ is → GivesSites intake text → WritesReplies text status old new faults
    → HasCause status intake faults (record { before = disk; after = disk }) []
replied_so intake text status old new faults disk true e gives wrote =
    cut_cause status intake faults (record { before = disk; after = disk }) e wrote.fault (λ memory. refl)
replied_so intake text status old new faults disk false e gives wrote =
    subst (λ s. HasCause s intake faults (record { before = disk; after = disk }) []) (sym (wrote.answer e))
    (replied_cause intake text faults disk gives)

-- The promises where the words ask for the replies to a text of sites
pub promised_replied : (text : List ℕ) (status : Status) (intake : Intake) (outside : Outside) (faults : Change ℕ)
    (disk : DiskState) → outside.reading ≡ outside.first → IsCounted disk → IsHandedIn disk → GivesSites intake text
    → WritesReplies text status outside.held outside.holds faults → Promised status [] intake outside faults
    (record { before = disk; after = disk })
promised_replied text status intake outside faults disk unread counted handed gives wrote = record {
  session = replied_session status intake outside gives.words unread;
  history = replied_history intake.form status disk outside.held outside.holds;
  printed = replied_printed intake text status outside.held outside.holds faults disk gives wrote;
  stopped = stays_untouched disk counted handed;
  cause = replied_so intake text status outside.held outside.holds faults disk (is_cut status) refl gives wrote;
  sink = wrote.kept;
  checked = asks_no_check intake.form forms.Sites status [] gives.words (λ is. cc);
  accounted = λ opened. absurd (cc);
  files = closed_files (record { before = disk; after = disk }) (modeled_stay disk.modeled);
}

-- The promises where no base was opened
pub promised_without : (without : WithoutBase) (status : Status) (intake : Intake) (outside : Outside) (faults : Change ℕ)
    (disk : DiskState) → outside.reading ≡ outside.first → IsCounted disk → IsHandedIn disk → IsWithoutBase without intake
    → WritesWithoutBase without status outside.held outside.holds faults
    → Promised status [] intake outside faults (record { before = disk; after = disk })
promised_without (without.Line unstarted) status intake outside faults disk unread counted handed h wrote =
    promised_unstarted unstarted status intake outside faults disk unread counted handed h wrote
promised_without (without.Replies text) status intake outside faults disk unread counted handed h wrote =
    promised_replied text status intake outside faults disk unread counted handed h wrote

-- The promises where the source gave a session
pub promised_run : (form : Form) (phases : List Phase) (status : Status) (story : List StoryStep) (intake : Intake)
    (outside : Outside) (faults : Change ℕ) (disk : Change DiskState) → IsCounted disk.before → IsCounted disk.after
    → GivesPhases intake form phases → RunsSession form phases status story outside faults disk
    → Promised status story intake outside faults disk
promised_run form phases status story intake outside faults disk was now gives (inl run) =
    let ran = run.runs in
    let rose = disk_rose disk in
    let history = run_history ran.result rose story form phases intake disk.before outside gives ran.legal run.begins ran.ran in
    let cause = run_cause ran.result rose story form phases intake outside faults disk refl gives ran.ran ran.fault
    (undamaged_on disk.before run.begins.base run.begins.handed run.begins.on) in
    subst (λ s. Promised s story intake outside faults disk) (sym ran.status_is)
    (record {
      session = run_session ran.result rose story form phases intake outside gives ran.ran;
      history = history;
      printed = run_printed ran.result rose story form phases intake outside faults disk gives ran.ran;
      stopped = keeps_prefix disk.before disk.after story run.begins ran.legal ran.accounted ran.mended ran.again;
      cause = cause;
      sink = run_sink ran.result rose faults ran.fault;
      checked = tells_soundness _ intake faults disk story outside.held outside.holds cause history;
      accounted = λ opened. record {
        opened = run.opened;
        tail = run.tail;
        fit = run.fit;
        faultless = run.faultless;
        once = run.once;
        files = run.files;
        counted = ran.counted;
        calls = blamed disk.before run.opened disk.after story _ _ _ was run.fit now run.faultless run.once run.begins.first
            ran.counted;
      };
      files = keeps_files disk run.opened story run.files ran.counted;
    })
promised_run form phases status story intake outside faults disk was now gives (inr closed) =
    subst (λ s. Promised status s intake outside faults disk) (sym closed.empty)
    (promised_closed closed.because status intake outside faults disk closed.unread (asked intake form phases gives) closed.fails
    closed.once closed.wrote)

-- a base that was just opened, and its story since
pub begins_on : (disk opened : DiskState) (tail : Tail) (one story : List StoryStep) (first : Option StoryStep)
    → OpensCore disk one opened tail
    → first ≡ first_step one → first_step story ≡ first → BeginsOn disk story
begins_on disk opened tail one story first opens is same = record {
  base = opens.base;
  handed = opens.handed;
  on = opens.on;
  first = same ∙ is ∙ ap first_step opens.story_is;
}

pub just_opened : (disk opened : DiskState) (tail : Tail) (story : List StoryStep) → OpensCore disk story opened tail
    → IsJustOpened story
just_opened disk opened tail story opens = record {
  rows = oldest_first opens.base;
  counts = opens.handed.counts;
  tells = opens.handed.tells;
  is = opens.story_is;
}
