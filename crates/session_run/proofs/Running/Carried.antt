-- What each form does on a base that was just opened.
use Rattle.std.proofs.Common.{◌≡◌, ℕ, ◌≤◌, inl, Bool, true, Option, Some, None, Result, Ok, Err, List, [], ◌++◌}
use Rattle.std.proofs.Common.{length, refl, ap, sym, subst, ◌∙◌, arith}
use Rattle.std.specs.Prelude.{IfOk, IfErr, IfSome, OnOk}
use Rattle.std.specs.Io.KnownBytes.{Appends}
use Rattle.std.proofs.lemmas.List.{append-nil}
use Rattle.cc_names.specs.declared.commands.Phase.{Phase}
use Rattle.cc_names.specs.declared.memory.Or.{Or}
use Rattle.cc_names.specs.declared.memory.Or.TheVariants.{NoMemory, Is}
use Rattle.cc_names.specs.declared.steps.StoryStep.{StoryStep}
use Rattle.cc_names.specs.Counts.{raised_count}
use Rattle.cc_outside.specs.Feeds.{AppendsPrefix}
use Rattle.cc_outside.specs.declared.sinks.WriteFault.{WriteFault}
use Rattle.cc_outside.proofs.Flows.{Appends-none}
use Rattle.large_session.specs.Summaries.{summary}
use Rattle.legal_history.specs.Stories.States.{all_done}
use Rattle.legal_history.specs.Stories.Steps.{state_of}
use Rattle.session_run.specs.Promises.Headline.{EndsAtTranscript, clock_moments}
use Rattle.session_run.specs.Running.Forms.{HasDone, IsCutSo, IsGivenUp}
use Rattle.session_run.specs.Running.Runs.{HasRunPhases, IsJustOpened, IsRunGivenUp, Outside, ReadsBy, WritesCut}
use Rattle.session_run.specs.Story.Begun.{is_opened, moments_begun, phases_begun}
use Rattle.session_run.specs.Story.Rendered.{text_of_story}
use Rattle.session_run.specs.Story.Modeled.{tells_failure, text_modeled}
use Rattle.session_run.specs.declared.words.Form.{Form}
use Rattle.session_run.specs.declared.words.Form.TheVariants as forms
use Rattle.session_run.proofs.Running.Runs.{clock_length, cut_prefix, raised_none, read_by}

-- `run`: its text is that of the phases
pub run_done : (phases : List Phase) (story : List StoryStep) (outside : Outside) (failed : Bool)
    → HasRunPhases phases story outside failed → HasDone forms.Run phases story outside failed
run_done phases story outside failed ran = record {
  opened = ran.opened;
  phases_are = ran.phases_are;
  finished = ran.finished;
  moments_are = ran.moments_are;
  reading_is = ran.reading_is;
  failures = ran.failures;
  written = ran.written;
  alone = λ check. absurd (cc);
}

pub run_given_up : (cut : Or WriteFault) (phases : List Phase) (story : List StoryStep) (outside : Outside)
    → IsRunGivenUp cut phases story outside → IsGivenUp forms.Run cut phases story outside
run_given_up NoMemory phases story outside left = record {
  opened = left.opened;
  begun = left.begun;
  moments_are = left.moments_are;
  reading_is = left.reading_is;
  written = left.written;
  cut_at = left.cut_at;
  alone = λ check. absurd (cc);
}
run_given_up (Is fault) phases story outside left = record {
  opened = left.opened;
  begun = left.begun;
  moments_are = left.moments_are;
  reading_is = left.reading_is;
  written = left.written;
  cut_at = left.cut_at;
  alone = λ check. absurd (cc);
}

-- nothing was written
pub nothing_written : (held : Option (List ℕ)) (text : List ℕ) → AppendsPrefix held held text
nothing_written held text = (0, omega arith, Appends-none held)

-- the outside of a run whose transcripts went into memory: its sink was not touched, or holds more
abbrev pub moved : Outside → Option (List ℕ) → Option (List ℕ) → Outside
moved outside held holds = record {
  held = held;
  holds = holds;
  moments = outside.moments;
  first = outside.first;
  reading = outside.reading;
}

-- as many moments as began
modeled_again : (moments : Option (List ℕ)) (story : List StoryStep) (first count : ℕ)
    → IfSome moments (λ modeled. moments_begun story ≡ clock_moments modeled first count)
    → IfSome moments (λ modeled. moments_begun story ≡ clock_moments modeled first (length (moments_begun story)))
modeled_again None story first count h = tt
modeled_again (Some modeled) story first count h = h ∙ ap (clock_moments modeled first) (sym (clock_length modeled first count)
    ∙ sym (ap length h))

-- what was written into an empty memory
all_kept : (old new : Option (List ℕ)) (kept text : List ℕ) → old ≡ Some [] → new ≡ Some kept → Appends old new text → kept ≡ text
all_kept old new kept text old_is new_is written =
    subst (λ o. Appends (Some []) o text) new_is (subst (λ o. Appends o new text) old_is written)

-- `big`, whose phases are run with their transcripts in memory
module _ (seed size : ℕ) (phases : List Phase) (story : List StoryStep) (outside : Outside) where
  -- they have been run, but their summary was not written whole
  sum_cut : (cut : Or WriteFault) (failed : Bool) (held holds : Option (List ℕ)) → HasRunPhases phases story outside failed
      → WritesCut cut held holds (summary (text_of_story story))
      → IsGivenUp (forms.Big seed size) cut phases story (moved outside held holds)
  sum_cut cut failed held holds ran written = record {
    opened = ran.opened;
    begun = ([], sym ran.phases_are ∙ sym (append-nil (phases_begun story)));
    moments_are = modeled_again outside.moments story outside.first (length phases) ran.moments_are;
    reading_is = read_by cut (length phases) story (moved outside held holds)
        (ran.reading_is ∙ ap (raised_count outside.first) (sym (ap length ran.phases_are)));
    written = cut_prefix cut held holds (summary (text_of_story story)) written;
    cut_at = cut_so cut written;
    alone = λ check. absurd (cc);
  }
    where
      cut_so : (cut : Or WriteFault) → WritesCut cut held holds (summary (text_of_story story))
          → IsCutSo (forms.Big seed size) cut phases story (moved outside held holds)
      cut_so NoMemory same = subst (λ o. Appends held o []) (sym same) (Appends-none held)
      cut_so (Is fault) written = record { phases_are = ran.phases_are; finished = ran.finished }

  -- memory ran out as they were run
  sum_left : (cut : Or WriteFault) (held : Option (List ℕ)) → IsRunGivenUp cut phases story outside
      → IsGivenUp (forms.Big seed size) NoMemory phases story (moved outside held held)
  sum_left cut held left = record {
    opened = left.opened;
    begun = left.begun;
    moments_are = left.moments_are;
    reading_is = reads cut left.reading_is;
    written = nothing_written held (summary (text_of_story story));
    cut_at = Appends-none held;
    alone = λ check. absurd (cc);
  }
    where
      reads : (cut : Or WriteFault) → ReadsBy cut (length phases) story outside
          → ReadsBy NoMemory (length phases) story (moved outside held held)
      reads NoMemory h = h
      reads (Is fault) h = inl h

  -- by what the run came to
  pub left_in_memory : (r : Result Bool (Or WriteFault)) (cut : Or WriteFault) (held : Option (List ℕ)) → r ≡ Err cut
      → IfErr r (λ cut. IsRunGivenUp cut phases story outside)
      → IsGivenUp (forms.Big seed size) NoMemory phases story (moved outside held held)
  left_in_memory r cut held is left =
      sum_left cut held (subst (λ r. IfErr r (λ cut. IsRunGivenUp cut phases story outside)) is left)

  pub cut_in_memory : (r : Result Bool (Or WriteFault)) (failed : Bool) (cut : Or WriteFault) (held holds : Option (List ℕ))
      (kept text : List ℕ) → r ≡ Ok failed → IfOk r (HasRunPhases phases story outside) → outside.held ≡ Some []
      → outside.holds ≡ Some kept → text ≡ kept → WritesCut cut held holds (summary text)
      → IsGivenUp (forms.Big seed size) cut phases story (moved outside held holds)
  cut_in_memory r failed cut held holds kept text is done old new text_is written =
      let ran : HasRunPhases phases story outside failed = subst (λ r. IfOk r (HasRunPhases phases story outside)) is done in
      let whole = text_is ∙ all_kept outside.held outside.holds kept (text_of_story story) old new ran.written in
      sum_cut cut failed held holds ran (subst (λ bytes. WritesCut cut held holds (summary bytes)) whole written)

  pub whole_in_memory : (r : Result Bool (Or WriteFault)) (failed : Bool) (held holds : Option (List ℕ)) (kept text : List ℕ)
      → r ≡ Ok failed → IfOk r (HasRunPhases phases story outside) → outside.held ≡ Some [] → outside.holds ≡ Some kept
      → text ≡ kept → Appends held holds (summary text)
      → HasDone (forms.Big seed size) phases story (moved outside held holds) failed
  whole_in_memory r failed held holds kept text is done old new text_is written =
      let ran : HasRunPhases phases story outside failed = subst (λ r. IfOk r (HasRunPhases phases story outside)) is done in
      let whole = text_is ∙ all_kept outside.held outside.holds kept (text_of_story story) old new ran.written in
      record {
        opened = ran.opened;
        phases_are = ran.phases_are;
        finished = ran.finished;
        moments_are = ran.moments_are;
        reading_is = ran.reading_is;
        failures = ran.failures;
        written = subst (λ bytes. Appends held holds (summary bytes)) whole written;
        alone = λ check. absurd (cc);
      }

-- a story that was just opened: no phase began, and all is done
just_begun : (story : List StoryStep) → IsJustOpened story → (is_opened story ≡ true) × (phases_begun story ≡ [])
    × (moments_begun story ≡ []) × (all_done (state_of story) ≡ true) × (length story ≤ 1)
just_begun story just = subst (λ s. (is_opened s ≡ true) × (phases_begun s ≡ []) × (moments_begun s ≡ [])
    × (all_done (state_of s) ≡ true) × (length s ≤ 1)) (sym just.is) (refl, refl, refl, refl, omega arith)

no_moments : (moments : Option (List ℕ)) (story : List StoryStep) (first count : ℕ) → moments_begun story ≡ [] → count ≡ 0
    → IfSome moments (λ modeled. moments_begun story ≡ clock_moments modeled first count)
no_moments None story first count none zero_is = tt
no_moments (Some modeled) story first count none zero_is = none ∙ sym (ap (clock_moments modeled first) zero_is)

-- a form before anything was done on the base that was opened
pub not_begun : (form : Form) (phases : List Phase) (story : List StoryStep) (held : Option (List ℕ)) (moments : Option (List ℕ))
    (first : ℕ) → IsJustOpened story → IsGivenUp form NoMemory phases story
    (record { held = held; holds = held; moments = moments; first = first; reading = first })
not_begun form phases story held moments first just =
    let begun = just_begun story just in
    record {
      opened = begun.0;
      begun = (phases, ap (λ prefix. prefix ++ phases) (sym begun.1));
      moments_are = no_moments moments story first (length (moments_begun story)) begun.2 (ap length begun.2);
      reading_is = inl (sym (raised_none first) ∙ ap (raised_count first) (sym (ap length begun.1)));
      written = nothing_written held (text_modeled form story);
      cut_at = begun_none form;
      alone = λ check. begun.4;
    }
  where
    begun_none : (form : Form) → EndsAtTranscript (Some form) story held held
    begun_none forms.Run = inl (subst (λ s. Appends held held (text_of_story s)) (sym just.is) (Appends-none held))
    begun_none (forms.Big seed size) = Appends-none held
    begun_none forms.Verify = Appends-none held
    begun_none forms.Sites = Appends-none held

-- `verify`: no phase is run, and the line is written
pub check_done : (story : List StoryStep) (phases : List Phase) (failed : Bool) (held holds moments : Option (List ℕ)) (first : ℕ)
    → IsJustOpened story → phases ≡ [] → tells_failure forms.Verify story ≡ failed
    → Appends held holds (text_modeled forms.Verify story) → HasDone forms.Verify phases story
    (record { held = held; holds = holds; moments = moments; first = first; reading = first }) failed
check_done story phases failed held holds moments first just none tells written =
    let begun = just_begun story just in
    record {
      opened = begun.0;
      phases_are = begun.1 ∙ sym none;
      finished = begun.3;
      moments_are = no_moments moments story first (length phases) begun.2 (ap length none);
      reading_is = sym (raised_none first) ∙ ap (raised_count first) (sym (ap length none));
      failures = tells;
      written = written;
      alone = λ check. begun.4;
    }

pub check_cut : (cut : Or WriteFault) (story : List StoryStep) (phases : List Phase) (held holds moments : Option (List ℕ))
    (first : ℕ) → IsJustOpened story → phases ≡ [] → WritesCut cut held holds (text_modeled forms.Verify story)
    → IsGivenUp forms.Verify cut phases story (record {
      held = held;
      holds = holds;
      moments = moments;
      first = first;
      reading = first;
    })
check_cut cut story phases held holds moments first just none written =
    let begun = just_begun story just in
    let times : first ≡ raised_count first (length (phases_begun story)) = sym (raised_none first)
    ∙ ap (raised_count first) (sym (ap length begun.1)) in
    record {
      opened = begun.0;
      begun = ([], none ∙ sym begun.1 ∙ sym (append-nil (phases_begun story)));
      moments_are = no_moments moments story first (length (moments_begun story)) begun.2 (ap length begun.2);
      reading_is = read_by cut (length phases) story (record {
        held = held;
        holds = holds;
        moments = moments;
        first = first;
        reading = first;
      }) times;
      written = cut_prefix cut held holds (text_modeled forms.Verify story) written;
      cut_at = cut_so cut written begun.1 begun.3;
      alone = λ check. begun.4;
    }
  where
    cut_so : (cut : Or WriteFault) → WritesCut cut held holds (text_modeled forms.Verify story) → phases_begun story ≡ []
        → all_done (state_of story) ≡ true
        → IsCutSo forms.Verify cut phases story (record {
          held = held;
          holds = holds;
          moments = moments;
          first = first;
          reading = first;
        })
    cut_so NoMemory same begun done = subst (λ o. Appends held o []) (sym same) (Appends-none held)
    cut_so (Is fault) written begun done = record { phases_are = begun ∙ sym none; finished = done }

-- where a call succeeds, and where it fails
pub run_ok : (r : Result Bool (Or WriteFault)) (phases : List Phase) (story : List StoryStep) (outside : Outside)
    → IfOk r (HasRunPhases phases story outside) → IfOk r (HasDone forms.Run phases story outside)
run_ok (Ok failed) phases story outside h = run_done phases story outside failed h
run_ok (Err cut) phases story outside h = tt

pub run_err : (r : Result Bool (Or WriteFault)) (phases : List Phase) (story : List StoryStep) (outside : Outside)
    → IfErr r (λ cut. IsRunGivenUp cut phases story outside) → IfErr r (λ cut. IsGivenUp forms.Run cut phases story outside)
run_err (Ok failed) phases story outside h = tt
run_err (Err cut) phases story outside h = run_given_up cut phases story outside h

pub check_ok : (r : Result Bool (Or WriteFault)) (story : List StoryStep) (phases : List Phase)
    (held holds moments : Option (List ℕ)) (first : ℕ) → IsJustOpened story → phases ≡ []
    → IfOk r (λ failed. tells_failure forms.Verify story ≡ failed) → OnOk r (Appends held holds (text_modeled forms.Verify story))
    → IfOk r (HasDone forms.Verify phases story (record {
      held = held;
      holds = holds;
      moments = moments;
      first = first;
      reading = first;
    }))
check_ok (Ok failed) story phases held holds moments first just none tells written =
    check_done story phases failed held holds moments first just none tells written
check_ok (Err cut) story phases held holds moments first just none tells written = tt

pub check_err : (r : Result Bool (Or WriteFault)) (story : List StoryStep) (phases : List Phase)
    (held holds moments : Option (List ℕ)) (first : ℕ) → IsJustOpened story → phases ≡ []
    → IfErr r (λ cut. WritesCut cut held holds (text_modeled forms.Verify story))
    → IfErr r (λ cut. IsGivenUp forms.Verify cut phases story (record {
      held = held;
      holds = holds;
      moments = moments;
      first = first;
      reading = first;
    }))
check_err (Ok failed) story phases held holds moments first just none written = tt
check_err (Err cut) story phases held holds moments first just none written =
    check_cut cut story phases held holds moments first just none written
