-- The run of a session's phases, one after the other.
use Rattle.std.proofs.Common.{◌≡◌, ℕ, zero, suc, ◌+◌, inl, inr, Bool, true, false, Option, Some, None, List, [], ◌∷◌, ◌++◌}
use Rattle.std.proofs.Common.{length, take, refl, ap, ap₂, sym, subst, ◌∙◌, arith, length-append, append_assoc}
use Rattle.std.specs.List.{list_any}
use Rattle.std.specs.Prelude.{◌||◌, ◌&&◌, nat_lt, min, IfSome}
use Rattle.std.specs.Io.KnownBytes.{Appends}
use Rattle.std.proofs.lemmas.List.{append-nil}
use Rattle.std.proofs.lemmas.List.Folds.{list_any-append}
use Rattle.std.proofs.lemmas.Grind.{flat_map-append}
use Rattle.std.proofs.lemmas.Bool.Decides.{nat_tests}
use Rattle.cc_names.specs.declared.commands.Phase.{Phase}
use Rattle.cc_names.specs.declared.memory.Or.{Or}
use Rattle.cc_names.specs.declared.memory.Or.TheVariants.{NoMemory, Is}
use Rattle.cc_names.specs.declared.steps.StoryStep.{StoryStep}
use Rattle.cc_names.specs.declared.steps.StoryStep.TheVariants as story_steps
use Rattle.cc_names.specs.Counts.{raised_count}
use Rattle.cc_outside.specs.Feeds.{AppendsPrefix}
use Rattle.cc_outside.specs.Moments.{moment_at}
use Rattle.cc_outside.specs.declared.sinks.WriteFault.{WriteFault}
use Rattle.cc_outside.proofs.Flows.{Appends-none}
use Rattle.legal_history.specs.Stories.States.{State, all_done, start}
use Rattle.legal_history.specs.Stories.Steps.{after, state_of}
use Rattle.legal_history.specs.Stories.Lawful.{last_moment}
use Rattle.base_core.specs.Story.Replying.{replies_after, replies_from, replies_of, no_replies}
use Rattle.session_run.specs.Promises.Headline.{IsCutAtLast, clock_moments}
use Rattle.session_run.specs.Running.Phases.{GoesInPhase, RunsPhase, LeavesPhase}
use Rattle.session_run.specs.Running.Runs.{IsJustOpened, Outside, HasRunPhases, IsCutBy, IsRunGivenUp, ReadsBy, WritesCut}
use Rattle.session_run.specs.Story.Begun.{phases_begun, moments_begun, is_opened}
use Rattle.session_run.specs.Story.Rendered.{EndedPhase, Replies, earlier_phases, ended_phases, replies_over, last_ended_phase}
use Rattle.session_run.specs.Story.Rendered.{phase_where, is_ended, transcript, transcript_of, transcripts, lanes_fail}
use Rattle.session_run.specs.Story.Rendered.{phase_fails}

-- what a clock may tell
if_modeled : (clock : Option (List ℕ)) (P : List ℕ → Type 0) → ((modeled : List ℕ) → P modeled) → IfSome clock P
if_modeled None P h = tt
if_modeled (Some modeled) P h = h modeled

both_modeled : (clock : Option (List ℕ)) (P Q R : List ℕ → Type 0) → IfSome clock P → IfSome clock Q
    → ((modeled : List ℕ) → P modeled → Q modeled → R modeled) → IfSome clock R
both_modeled None P Q R p q h = tt
both_modeled (Some modeled) P Q R p q h = h modeled p q

pub appends_more : (one two three : Option (List ℕ)) (xs ys : List ℕ) → Appends one two xs → Appends two three ys
    → Appends one three (xs ++ ys)
appends_more None two three xs ys h k = tt
appends_more (Some a) None three xs ys h k = absurd h
appends_more (Some a) (Some b) None xs ys h k = absurd k
appends_more (Some a) (Some b) (Some c) xs ys h k = k ∙ ap (λ t. t ++ ys) h ∙ append_assoc a xs ys

take_all : (xs ys : List ℕ) → take (length xs) (xs ++ ys) ≡ xs
take_all [] ys = refl
take_all (x ∷ xs) ys = ap (λ t. x ∷ t) (take_all xs ys)

take_past : (xs ys : List ℕ) (n : ℕ) → take (length xs + n) (xs ++ ys) ≡ xs ++ take n ys
take_past [] ys n = ap (λ m. take m ys) (omega arith)
take_past (x ∷ xs) ys n =
    let e : suc (length xs) + n ≡ suc (length xs + n) = omega arith in
    ap (λ m. take m (x ∷ (xs ++ ys))) e ∙ ap (λ t. x ∷ t) (take_past xs ys n)

pub is_prefix : (one two : Option (List ℕ)) (xs ys : List ℕ) → Appends one two xs → AppendsPrefix one two (xs ++ ys)
is_prefix one two xs ys h =
    (length xs, omega (arith, length-append xs ys), subst (Appends one two) (sym (take_all xs ys)) h)

pub prefix_more : (one two three : Option (List ℕ)) (xs ys : List ℕ) → Appends one two xs → AppendsPrefix two three ys
    → AppendsPrefix one three (xs ++ ys)
prefix_more one two three xs ys h k = (
  length xs + k.0,
  omega (arith, length-append xs ys, k.1),
  subst (Appends one three) (sym (take_past xs ys k.0))
      (appends_more one two three xs (take k.0 ys) h k.2),
)

-- one more moment of a clock
pub raised_none : (first : ℕ) → raised_count first 0 ≡ first
raised_none first = omega arith

raised_more : (first n : ℕ) → raised_count (raised_count first 1) n ≡ raised_count first (suc n)
raised_more first n = omega arith

raised_last : (first n : ℕ) → raised_count (raised_count first n) 1 ≡ raised_count first (suc n)
raised_last first n = omega arith

clock_more : (modeled : List ℕ) (first n : ℕ) → clock_moments modeled first (suc n) ≡ clock_moments modeled first n
    ++ min (moment_at modeled (raised_count first n)) last_moment ∷ []
clock_more modeled first zero = ap (λ r. min (moment_at modeled r) last_moment ∷ []) (sym (raised_none first))
clock_more modeled first (suc n) =
    ap (λ ms. min (moment_at modeled first) last_moment ∷ ms)
    (clock_more modeled (raised_count first 1) n ∙ ap (λ r. clock_moments modeled (raised_count first 1) n
    ++ min (moment_at modeled r) last_moment ∷ []) (raised_more first n))

pub clock_length : (modeled : List ℕ) (first n : ℕ) → length (clock_moments modeled first n) ≡ n
clock_length modeled first zero = refl
clock_length modeled first (suc n) = let h = clock_length modeled (raised_count first 1) n in omega (arith, h)

-- a phase that ended is rendered after the earlier ones
ended : (s : State) (n : ℕ) → s.number ≡ n + 1 → all_done s ≡ true → is_ended s ≡ true
ended s n e done =
    let began : nat_lt 0 s.number ≡ true = grind (arith, nat_tests) in
    ap₂ ◌&&◌ began done

-- the replies that the core gives are those that its steps leave
replies_same : (s : State) (replies : Replies) (story : List StoryStep)
    → replies_over replies_after s replies story ≡ replies_from s replies story
replies_same s replies [] = refl
replies_same s replies (x ∷ story) = replies_same (after s x) (replies_after s x replies) story

-- the phase that ended, as it is printed
ended_as : List StoryStep → ℕ → EndedPhase
ended_as story number = record { number = number; phase = (state_of story).phase; replies = replies_of story }

last_is : (s : State) (number : ℕ) (is : Bool) (one two : Replies) → is ≡ true → s.number ≡ number → one ≡ two
    → phase_where is (record { number = s.number; phase = s.phase; replies = one }) ≡ record {
      number = number;
      phase = s.phase;
      replies = two;
    } ∷ []
last_is s number is one two e at same =
    ap (λ b. phase_where b (record { number = s.number; phase = s.phase; replies = one })) e
    ∙ ap₂ (λ n r. let p : EndedPhase = record { number = n; phase = s.phase; replies = r } in p ∷ []) at same

given_more : (old new : List StoryStep) (phase : Phase) (moment number : ℕ) → GoesInPhase phase moment old new
    → all_done (state_of new) ≡ true → number ≡ (state_of old).number + 1
    → ended_phases new ≡ ended_phases old ++ ended_as new number ∷ []
unfolding ended_as
given_more old new phase moment number goes done e =
    ap₂ (λ prefix last. prefix ++ last) goes.earlier
    (last_is (state_of new) number (is_ended (state_of new)) (replies_over replies_after start no_replies new) (replies_of new)
    (ended (state_of new) (state_of old).number goes.number done) (goes.number ∙ sym e) (replies_same start no_replies new))

one_text : (ended : EndedPhase) → transcripts (ended ∷ []) ≡ transcript_of ended
one_text ended = append-nil (transcript_of ended)

one_fails : (ended : EndedPhase) → list_any phase_fails (ended ∷ []) ≡ phase_fails ended
one_fails ended = or_false (phase_fails ended)
  where
    or_false : (b : Bool) → (b || false) ≡ b
    or_false true = refl
    or_false false = refl

rendered_more : (old new : List StoryStep) (phase : Phase) (moment number : ℕ) → GoesInPhase phase moment old new
    → all_done (state_of new) ≡ true → number ≡ (state_of old).number + 1
    → transcripts (ended_phases new) ≡ transcripts (ended_phases old) ++ transcript number (state_of new).phase (replies_of new)
unfolding ended_as
rendered_more old new phase moment number goes done e =
    ap transcripts (given_more old new phase moment number goes done e)
    ∙ flat_map-append transcript_of (ended_phases old) (ended_as new number ∷ [])
    ∙ ap (λ text. transcripts (ended_phases old) ++ text) (one_text (ended_as new number))

failures_more : (old new : List StoryStep) (phase : Phase) (moment number : ℕ) (before now : Bool)
    → GoesInPhase phase moment old new → all_done (state_of new) ≡ true → number ≡ (state_of old).number + 1
    → list_any phase_fails (ended_phases old) ≡ before → now ≡ lanes_fail 1 (state_of new).phase.lanes (replies_of new)
    → list_any phase_fails (ended_phases new) ≡ (before || now)
unfolding ended_as
failures_more old new phase moment number before now goes done e was is =
    ap (list_any phase_fails) (given_more old new phase moment number goes done e)
    ∙ list_any-append phase_fails (ended_phases old) (ended_as new number ∷ [])
    ∙ ap₂ (λ a b. a || b) was (one_fails (ended_as new number) ∙ sym is)

-- nothing has been run
pub run_starts : (story : List StoryStep) (held clock : Option (List ℕ)) (first : ℕ) → IsJustOpened story
    → HasRunPhases [] story (record { held = held; holds = held; moments = clock; first = first; reading = first }) false
run_starts story held clock first just = record {
  opened = ap is_opened is;
  phases_are = ap phases_begun is;
  number = ap (λ s. (state_of s).number) is;
  finished = ap (λ s. all_done (state_of s)) is;
  moments_are = if_modeled clock (λ modeled. moments_begun story ≡ clock_moments modeled first 0)
      (λ modeled. ap moments_begun is);
  reading_is = sym (raised_none first);
  failures = ap (λ s. list_any phase_fails (ended_phases s)) is;
  written = subst (Appends held held) (sym (ap (λ s. transcripts (ended_phases s)) is)) (Appends-none held);
}
  where
    is : story ≡ story_steps.Opened just.rows just.counts just.tells ∷ []
    is = just.is

one_more : (phases : List Phase) (phase : Phase) → length (phases ++ phase ∷ []) ≡ suc (length phases)
one_more phases phase = omega (arith, length-append phases (phase ∷ []))

-- the moments of a phase more
moments_on : (modeled : List ℕ) (old new : List StoryStep) (first reading count moment : ℕ)
    → moments_begun new ≡ moments_begun old ++ moment ∷ [] → moments_begun old ≡ clock_moments modeled first count
    → reading ≡ raised_count first count → moment ≡ min (moment_at modeled reading) last_moment
    → moments_begun new ≡ clock_moments modeled first (suc count)
moments_on modeled old new first reading count moment is before at now =
    is ∙ ap₂ (λ ms m. ms ++ m ∷ []) before (now ∙ ap (λ r. min (moment_at modeled r) last_moment) at)
    ∙ sym (clock_more modeled first count)

moments_kept : (modeled : List ℕ) (story : List StoryStep) (first count : ℕ)
    → moments_begun story ≡ clock_moments modeled first count → moments_begun story
    ≡ clock_moments modeled first (length (moments_begun story))
moments_kept modeled story first count is = is ∙ ap (clock_moments modeled first) (sym (clock_length modeled first count)
    ∙ sym (ap length is))

-- the last phase, as it is printed where its commands are all finished
abbrev last_given : List StoryStep → List EndedPhase
last_given story = last_ended_phase (state_of story) (replies_over replies_after start no_replies story)

-- the clock was read for the phase that began last, and for one that did not begin
read_for_it : (first before reading count begun : ℕ) → before ≡ raised_count first count → reading ≡ raised_count before 1
    → begun ≡ suc count → reading ≡ raised_count first begun
read_for_it first before reading count begun was reads is = reads ∙ ap (λ r. raised_count r 1) was ∙ raised_last first count
    ∙ ap (raised_count first) (sym is)

read_once_more : (first before reading count begun : ℕ) → before ≡ raised_count first count → reading ≡ raised_count before 1
    → begun ≡ count → reading ≡ raised_count first (begun + 1)
read_once_more first before reading count begun was reads is = read_for_it first before reading count (begun + 1) was reads
    (omega (arith, is))

pub read_by : (cut : Or WriteFault) (all : ℕ) (story : List StoryStep) (outside : Outside)
    → outside.reading ≡ raised_count outside.first (length (phases_begun story)) → ReadsBy cut all story outside
read_by NoMemory all story outside is = inl is
read_by (Is fault) all story outside is = is

cut_in : (cut : Or WriteFault) (story : List StoryStep) (old new : Option (List ℕ))
    → (cut ≡ NoMemory → Appends old new (transcripts (earlier_phases story)))
    → IsCutAtLast story (transcripts (earlier_phases story)) old new → IsCutBy cut story old new
cut_in NoMemory story old new none h = inr (none refl)
cut_in (Is fault) story old new none h = h

-- a text that was cut short was written to some length
pub cut_prefix : (cut : Or WriteFault) (old new : Option (List ℕ)) (text : List ℕ) → WritesCut cut old new text
    → AppendsPrefix old new text
cut_prefix NoMemory old new text same = subst (λ o. AppendsPrefix old o text) (sym same) (0, omega arith, Appends-none old)
cut_prefix (Is fault) old new text h = h

-- where memory ran out nothing of it was
pub none_written : (cut : Or WriteFault) (old new : Option (List ℕ)) (text : List ℕ) → WritesCut cut old new text
    → cut ≡ NoMemory → new ≡ old
none_written cut old new text h is = subst (λ c. WritesCut c old new text) is h

-- Some phases have been run, and the clock was read for one more.
module _ (phases : List Phase) (phase : Phase) (old new : List StoryStep) (outside : Outside) (moment reading : ℕ) (failed : Bool)
    (so_far : HasRunPhases phases old outside failed)
    (modeled : IfSome outside.moments (λ modeled. moment ≡ min (moment_at modeled outside.reading) last_moment))
    (reads : reading ≡ raised_count outside.reading 1) where
  -- it has been run
  pub run_goes_on : (holds : Option (List ℕ)) (number : ℕ) (more : Bool) → RunsPhase phase moment old new
      → more ≡ lanes_fail 1 (state_of new).phase.lanes (replies_of new) → number ≡ length phases + 1
      → Appends outside.holds holds (transcript number (state_of new).phase (replies_of new))
      → HasRunPhases (phases ++ phase ∷ []) new (record {
        held = outside.held;
        holds = holds;
        moments = outside.moments;
        first = outside.first;
        reading = reading;
      }) (failed || more)
  run_goes_on holds number more runs fails count wrote =
      record {
        opened = runs.goes.opened;
        phases_are = runs.goes.phases ∙ ap (λ ps. ps ++ phase ∷ []) so_far.phases_are;
        number = omega (arith, runs.goes.number, so_far.number, one_more phases phase);
        finished = runs.finished;
        moments_are =
            both_modeled outside.moments _ _ (λ modeled. moments_begun new ≡ clock_moments modeled outside.first
            (length (phases ++ phase ∷ []))) so_far.moments_are modeled
            (λ modeled before now. moments_on modeled old new outside.first outside.reading (length phases) moment
            runs.goes.moments before so_far.reading_is now ∙ ap (clock_moments modeled outside.first) (sym (one_more phases phase)));
        reading_is = reads ∙ ap (λ r. raised_count r 1) so_far.reading_is ∙ raised_last outside.first (length phases)
            ∙ ap (raised_count outside.first) (sym (one_more phases phase));
        failures = failures_more old new phase moment number failed more runs.goes runs.finished
            (omega (arith, count, so_far.number))
            so_far.failures fails;
        written =
            subst (Appends outside.held holds) (sym (rendered_more old new phase moment number runs.goes runs.finished
            (omega (arith, count, so_far.number))))
            (appends_more outside.held outside.holds holds (transcripts (ended_phases old))
            (transcript number (state_of new).phase (replies_of new)) so_far.written wrote);
      }

  -- the run was given up for want of memory
  pub run_leaves : (rest all : List Phase) → LeavesPhase phase moment old new → phases ++ phase ∷ rest ≡ all
      → IsRunGivenUp NoMemory all new (record outside { reading = reading })
  run_leaves rest all (inl is) whole = record {
    opened = ap is_opened is ∙ so_far.opened;
    begun = (phase ∷ rest, sym whole ∙ ap (λ ps. ps ++ phase ∷ rest) (sym (ap phases_begun is ∙ so_far.phases_are)));
    moments_are =
        both_modeled outside.moments _ _ (λ modeled. moments_begun new ≡ clock_moments modeled outside.first
        (length (moments_begun new))) so_far.moments_are modeled
        (λ modeled before now. moments_kept modeled new outside.first (length phases) (ap moments_begun is ∙ before));
    reading_is =
        let count : length (phases_begun new) ≡ length phases = ap length (ap phases_begun is ∙ so_far.phases_are) in
        inr (
          omega (arith, count, ap length whole, length-append phases (phase ∷ rest)),
          ap (λ s. all_done (state_of s)) is ∙ so_far.finished,
          read_once_more outside.first outside.reading reading (length phases) (length (phases_begun new)) so_far.reading_is reads
              count,
        );
    written =
        subst (AppendsPrefix outside.held outside.holds) (append-nil (transcripts (ended_phases old))
        ∙ sym (ap (λ s. transcripts (ended_phases s)) is))
        (is_prefix outside.held outside.holds (transcripts (ended_phases old)) [] so_far.written);
    cut_at = inl (subst (Appends outside.held outside.holds) (sym (ap (λ s. transcripts (ended_phases s)) is)) so_far.written);
  }
  run_leaves rest all (inr goes) whole = record {
    opened = goes.opened;
    begun = (
      rest,
      sym whole ∙ sym (append_assoc phases (phase ∷ []) rest)
          ∙ ap (λ ps. ps ++ rest) (sym (goes.phases ∙ ap (λ ps. ps ++ phase ∷ []) so_far.phases_are)),
    );
    moments_are =
        both_modeled outside.moments _ _ (λ modeled. moments_begun new ≡ clock_moments modeled outside.first
        (length (moments_begun new))) so_far.moments_are modeled
        (λ modeled before now. moments_kept modeled new outside.first (suc (length phases))
        (moments_on modeled old new outside.first outside.reading (length phases) moment goes.moments before so_far.reading_is
        now));
    reading_is =
        inl (read_for_it outside.first outside.reading reading (length phases) (length (phases_begun new)) so_far.reading_is reads
        (ap length (goes.phases ∙ ap (λ ps. ps ++ phase ∷ []) so_far.phases_are) ∙ one_more phases phase));
    written =
        subst (AppendsPrefix outside.held outside.holds)
        (ap (λ prefix. prefix ++ transcripts (last_given new)) (ap transcripts (sym goes.earlier))
        ∙ sym (flat_map-append transcript_of (earlier_phases new) (last_given new)))
        (is_prefix outside.held outside.holds (transcripts (ended_phases old)) (transcripts (last_given new)) so_far.written);
    cut_at = inr (subst (Appends outside.held outside.holds) (ap transcripts (sym goes.earlier)) so_far.written);
  }

  -- the run was given up in its transcript
  pub run_is_cut : (cut : Or WriteFault) (rest all : List Phase) (holds : Option (List ℕ)) (number : ℕ)
      → RunsPhase phase moment old new → number ≡ length phases + 1 → phases ++ phase ∷ rest ≡ all
      → WritesCut cut outside.holds holds (transcript number (state_of new).phase (replies_of new))
      → IsRunGivenUp cut all new (record outside { holds = holds; reading = reading })
  run_is_cut cut rest all holds number runs count whole cut_so =
      let wrote = cut_prefix cut outside.holds holds (transcript number (state_of new).phase (replies_of new)) cut_so in
      let none = none_written cut outside.holds holds (transcript number (state_of new).phase (replies_of new)) cut_so in
      let begun : phases_begun new ≡ phases ++ phase ∷ [] = runs.goes.phases ∙ ap (λ ps. ps ++ phase ∷ []) so_far.phases_are in
      record {
        opened = runs.goes.opened;
        begun = (rest, sym whole ∙ sym (append_assoc phases (phase ∷ []) rest) ∙ ap (λ ps. ps ++ rest) (sym begun));
        moments_are =
            both_modeled outside.moments _ _ (λ modeled. moments_begun new
            ≡ clock_moments modeled outside.first (length (moments_begun new))) so_far.moments_are modeled
            (λ modeled before now. moments_kept modeled new outside.first (suc (length phases))
            (moments_on modeled old new outside.first outside.reading (length phases) moment runs.goes.moments before
            so_far.reading_is now));
        reading_is =
            read_by cut (length all) new (record outside { holds = holds; reading = reading })
            (read_for_it outside.first outside.reading reading (length phases) (length (phases_begun new)) so_far.reading_is reads
            (ap length begun ∙ one_more phases phase));
        written =
            subst (AppendsPrefix outside.held holds) (sym (rendered_more old new phase moment number runs.goes runs.finished
            (omega (arith, count, so_far.number))))
            (prefix_more outside.held outside.holds holds (transcripts (ended_phases old))
            (transcript number (state_of new).phase (replies_of new)) so_far.written wrote);
        cut_at = cut_in cut new outside.held holds
            (λ is. subst (λ o. Appends outside.held o (transcripts (earlier_phases new))) (sym (none is))
            (subst (Appends outside.held outside.holds) (ap transcripts (sym runs.goes.earlier)) so_far.written)) (record {
              begun = omega (arith, ap length begun, one_more phases phase);
              finished = runs.finished;
              written = (
                take wrote.0 (transcript number (state_of new).phase (replies_of new)),
                subst (λ prefix. Appends outside.held holds (prefix ++ take wrote.0
                    (transcript number (state_of new).phase (replies_of new)))) (sym (ap transcripts runs.goes.earlier))
                    (appends_more outside.held outside.holds holds (transcripts (ended_phases old))
                    (take wrote.0 (transcript number (state_of new).phase (replies_of new))) so_far.written wrote.2),
              );
            });
      }

-- the phases that have been taken, the one in hand and those after it are all
pub in_hand : (taken left rest all items : List Phase) (phase : Phase) → taken ++ left ≡ all → left ≡ phase ∷ rest → all ≡ items
    → taken ++ phase ∷ rest ≡ items
in_hand taken left rest all items phase one two three = ap (λ ps. taken ++ ps) (sym two) ∙ one ∙ three
