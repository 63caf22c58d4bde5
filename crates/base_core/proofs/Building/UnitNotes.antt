-- What is kept, and how the story went on, after a step by which a unit comes to something without a row.
use Rattle.std.proofs.Common.{◌≡◌, ◌≢◌, ℕ, ◌⊎◌, inl, inr, Bool, true, false, Option, Some, None, List, [], ◌∷◌, ◌++◌, refl, ap}
use Rattle.std.proofs.Common.{sym, subst, ◌∙◌}
use Rattle.std.proofs.lemmas.List.{append-nil}
use Rattle.std.specs.Ordering.{nat_cmp}
use Rattle.std.specs.FinMap.Entries.{put}
use Rattle.std.proofs.lemmas.Bool.{cases_eq}
use Rattle.cc_names.specs.declared.replies.Reply.{Reply}
use Rattle.cc_names.specs.declared.steps.StoryStep.{StoryStep}
use Rattle.cc_names.specs.declared.steps.StoryStep.TheVariants as story_steps
use Rattle.base_model.proofs.Tables.{find_put_same}
use Rattle.legal_history.specs.Builds.Active.{Build, Came, build_of, came_to, is_outcome}
use Rattle.legal_history.specs.Stories.States.{State, start}
use Rattle.legal_history.specs.Stories.Steps.{after, state_of, with_came}
use Rattle.base_core.specs.Calls.BuildCalls.{Notes, Noted}
use Rattle.clearmake.specs.Going.{BuildsOn}
use Rattle.base_core.specs.Keeping.CoreInvariants.{CoreInvariant}
use Rattle.base_core.specs.Keeping.Lanes.{LaneState, build_at, put_build}
use Rattle.story_log.specs.Logging.Logs.{Logged, with_step}
use Rattle.base_core.specs.Story.Replying.{replies_after, replies_by, replies_of}
use Rattle.legal_history.specs.Stories.Quiet.{is_quiet}
use Rattle.story_log.proofs.Story.Growing.{state_from-more}
use Rattle.story_log.proofs.Cases.{some_same}
use Rattle.base_core.proofs.Keeping.LaneSlots.{lane_slot, found_else}
use Rattle.base_core.proofs.Building.Noting.{preserved_note}

-- the replies after a quiet step
replies_quiet : (s : State) (x : StoryStep) (replies : ℕ → List Reply) (l : ℕ) → is_quiet x ≡ true
    → replies_after s x replies l ≡ replies l ++ replies_by s l x
replies_quiet s (story_steps.PhaseBegun phase moment) replies l h = absurd (cc)
replies_quiet s x replies l h = refl

-- a test does not hold and fail
true_or_false : (b : Bool) → b ≡ true → b ≡ false → ⊥
true_or_false b t f = cc

-- what is kept then
pub preserved_noted : (log : Logged) (lanes more : List LaneState) (now : ℕ) (story : List StoryStep) (lane n : ℕ) (x : StoryStep)
    (came : Came) → log.story ≡ story → CoreInvariant log lanes now → Notes (state_of story) lane n came x
    → ((build : Build) → build_at lanes lane ≡ Some build → more ≡ put_build lanes lane (Some (with_came build (Some n) came)))
    → CoreInvariant (with_step log x) more now
preserved_noted log lanes more now story lane n x came same h notes set_so =
    let here = subst (λ t. Notes (state_of t) lane n came x) (sym same) notes in
    let slot = lane_slot log lanes now lane here.build h here.active in
    subst (λ ls. CoreInvariant (with_step log x) ls now) (sym (set_so here.build slot.held))
    (preserved_note log lanes now x lane n here.build came here.quiet h slot.from slot.upto here.active
    here.lawful here.leaves
    (λ l. replies_quiet (state_of log.story) x (replies_of log.story) l here.quiet
    ∙ ap (λ more. replies_of log.story l ++ more) (here.silent l) ∙ append-nil (replies_of log.story l)))

-- a unit's outcomes after it was noted
pub outcome_noted : (build : Build) (n m : ℕ) (came : Came) → is_outcome (came_to build n) ≡ false
    → is_outcome (came_to build m) ≡ true → is_outcome (came_to (with_came build (Some n) came) m) ≡ true
outcome_noted build n m came waits over = by (cases_eq m n)
  where
    by : (m ≡ n) ⊎ (m ≢ n) → is_outcome (came_to (with_came build (Some n) came) m) ≡ true
    by (inl e) = absurd (let here : is_outcome (came_to build n) ≡ true = ap (λ k. is_outcome (came_to build k)) (sym e) ∙ over in
        true_or_false (is_outcome (came_to build n)) here waits)
    by (inr differs) = ap is_outcome (found_else n m came build.comes differs) ∙ over

-- how the story went on
pub noted_so : (log : Logged) (story : List StoryStep) (lane n : ℕ) (x : StoryStep) (came : Came) → log.story ≡ story
    → Notes (state_of story) lane n came x → Noted story (with_step log x).story lane n came
noted_so log story lane n x came same notes = record {
  goes = record {
    steps = x ∷ [];
    grows = grows;
    one = notes.own;
    phase = record { phase = ap (λ t. t.phase) state; number = ap (λ t. t.number) state; moment = ap (λ t. t.moment) state };
    done = ap (λ t. t.done) state;
    still = λ build is. still build (some_same notes.build build (sym notes.active ∙ is));
  };
  build = noted;
  active = active;
  came_to_it = find_put_same n came notes.build.comes;
}
  where
    s : State
    s = state_of story

    noted : Build
    noted = with_came notes.build (Some n) came

    grows : (with_step log x).story ≡ story ++ x ∷ []
    grows = ap (λ t. t ++ x ∷ []) same

    state : state_of (with_step log x).story ≡ record s { active = put nat_cmp lane noted s.active }
    state = ap state_of grows ∙ state_from-more start story x ∙ notes.leaves

    active : build_of (state_of (with_step log x).story).active lane ≡ Some noted
    active = ap (λ t. build_of t.active lane) state ∙ find_put_same lane noted s.active

    still : (build : Build) → notes.build ≡ build → BuildsOn (state_of (with_step log x).story) lane build
    still build e = subst (λ b. BuildsOn (state_of (with_step log x).story) lane b) e
        (record {
          build = noted;
          active = active;
          units = refl;
          outcomes = λ m over. outcome_noted notes.build n m came
              notes.waits over;
        })
