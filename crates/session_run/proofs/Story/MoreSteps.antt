-- What a story says with more steps after it.
use Rattle.std.proofs.Common.{◌≡◌, ◌+◌, true, List, [], ◌∷◌, ◌++◌, length, refl, ap, sym, ◌∙◌, append_assoc, arith}
use Rattle.std.proofs.lemmas.List.{append-nil}
use Rattle.cc_names.specs.declared.steps.StoryStep.{StoryStep}
use Rattle.cc_names.specs.declared.steps.StoryStep.TheVariants as story_steps
use Rattle.legal_history.specs.Stories.States.{State, start}
use Rattle.legal_history.specs.Stories.Steps.{after, state_from, state_of}
use Rattle.legal_history.proofs.Stories.Prefixes.{state_goes_on}
use Rattle.clearmake.specs.Going.{SamePhase}
use Rattle.base_core.specs.Story.Replying.{no_replies, replies_after}
use Rattle.session_run.specs.Running.Phases.{Goes}
use Rattle.session_run.specs.Story.Begun.{phases_begun, moments_begun, first_step, is_opened}
use Rattle.session_run.specs.Story.Rendered.{Replies, closed_by, closed_over, earlier_phases, replies_over}

pub phases_more : (story more : List StoryStep) → phases_begun (story ++ more) ≡ phases_begun story ++ phases_begun more
phases_more [] more = refl
phases_more (story_steps.PhaseBegun phase moment ∷ story) more = ap (λ phases. phase ∷ phases) (phases_more story more)
phases_more (x ∷ story) more = phases_more story more

pub moments_more : (story more : List StoryStep) → moments_begun (story ++ more) ≡ moments_begun story ++ moments_begun more
moments_more [] more = refl
moments_more (story_steps.PhaseBegun phase moment ∷ story) more = ap (λ moments. moment ∷ moments) (moments_more story more)
moments_more (x ∷ story) more = moments_more story more

pub closed_more : (leave : State → StoryStep → Replies → Replies) (s : State) (replies : Replies) (story more : List StoryStep)
    → closed_over leave s replies (story ++ more) ≡ closed_over leave s replies story
    ++ closed_over leave (state_from s story) (replies_over leave s replies story) more
closed_more leave s replies [] more = refl
closed_more leave s replies (x ∷ story) more =
    ap (λ phases. closed_by s replies x ++ phases) (closed_more leave (after s x) (leave s x replies) story more)
    ∙ sym (append_assoc (closed_by s replies x) (closed_over leave (after s x) (leave s x replies) story)
    (closed_over leave (state_from (after s x) story) (replies_over leave (after s x) (leave s x replies) story) more))

pub opened_more : (story more : List StoryStep) → is_opened story ≡ true → is_opened (story ++ more) ≡ is_opened story
opened_more [] more e = absurd (cc)
opened_more (x ∷ story) more e = refl

pub first_more : (story more : List StoryStep) → is_opened story ≡ true → first_step (story ++ more) ≡ first_step story
first_more [] more e = absurd (cc)
first_more (x ∷ story) more e = refl

number_from : (s : State) (story : List StoryStep) → (state_from s story).number ≡ s.number + length (phases_begun story)
number_from s [] = omega arith
number_from s (story_steps.PhaseBegun phase moment ∷ story) =
    let h = number_from (after s (story_steps.PhaseBegun phase moment)) story in
    omega (arith, h)
number_from s (step ∷ story) = number_from (after s step) story

none_long : {A : Type 0} (xs : List A) → length xs ≡ 0 → xs ≡ []
none_long [] e = refl
none_long (x ∷ xs) e = absurd (omega (arith, e))

-- steps that leave the number of the last phase begin none
pub no_phases : (s : State) (more : List StoryStep) → (state_from s more).number ≡ s.number → phases_begun more ≡ []
no_phases s more same = none_long (phases_begun more) (omega (arith, number_from s more, same))

no_moments : (more : List StoryStep) → phases_begun more ≡ [] → moments_begun more ≡ []
no_moments [] e = refl
no_moments (story_steps.PhaseBegun phase moment ∷ more) e = absurd (cc)
no_moments (step ∷ more) e = no_moments more e

rest_none : (x : StoryStep) (more : List StoryStep) → phases_begun (x ∷ more) ≡ [] → phases_begun more ≡ []
rest_none (story_steps.PhaseBegun phase moment) more e = absurd (cc)
rest_none step more e = e

closes_no_phase : (s : State) (replies : Replies) (x : StoryStep) (more : List StoryStep) → phases_begun (x ∷ more) ≡ []
    → closed_by s replies x ≡ []
closes_no_phase s replies (story_steps.PhaseBegun phase moment) more e = absurd (cc)
closes_no_phase s replies step more e = refl

closes_none : (leave : State → StoryStep → Replies → Replies) (s : State) (replies : Replies) (more : List StoryStep)
    → phases_begun more ≡ [] → closed_over leave s replies more ≡ []
closes_none leave s replies [] e = refl
closes_none leave s replies (x ∷ more) e =
    ap (λ phases. phases ++ closed_over leave (after s x) (leave s x replies) more) (closes_no_phase s replies x more e)
    ∙ closes_none leave (after s x) (leave s x replies) more (rest_none x more e)

-- a story that goes on by steps that leave the last phase
pub goes_on : (old new more : List StoryStep) → new ≡ old ++ more → SamePhase (state_of old) (state_of new) → is_opened old ≡ true
    → Goes old new
goes_on old new more grows same opened =
    let state : state_of new ≡ state_from (state_of old) more = ap state_of grows ∙ state_goes_on start old more in
    let none = no_phases (state_of old) more (ap (λ s. s.number) (sym state) ∙ same.number) in
    record {
      phases = ap phases_begun grows ∙ phases_more old more ∙ ap (λ ps. phases_begun old ++ ps) none
          ∙ append-nil (phases_begun old);
      moments = ap moments_begun grows ∙ moments_more old more ∙ ap (λ ms. moments_begun old ++ ms) (no_moments more none)
          ∙ append-nil (moments_begun old);
      phase = same.phase;
      number = same.number;
      earlier =
          ap (λ story. earlier_phases story) grows ∙ closed_more replies_after start no_replies old more
          ∙ ap (λ ps. earlier_phases old ++ ps) (closes_none replies_after (state_of old)
          (replies_over replies_after start no_replies old) more none)
          ∙ append-nil (earlier_phases old);
      first = ap first_step grows ∙ first_more old more opened;
      opened = ap is_opened grows ∙ opened_more old more opened;
    }
