-- Along a legal story each active build agrees with the build from nothing, where the base was sound as it was opened.
use Rattle.std.proofs.Common.{◌≡◌, ap, sym, subst, ◌∙◌, ℕ, Some, None, List, [], ◌∷◌}
use Rattle.cc_names.specs.declared.steps.StoryStep.{StoryStep}
use Rattle.legal_history.specs.Builds.Active.{Build, build_of}
use Rattle.legal_history.specs.Builds.Freshness.{AgreesSoFar}
use Rattle.legal_history.specs.Stories.States.{State, Opening, start}
use Rattle.legal_history.specs.Stories.Steps.{after, state_from, state_of}
use Rattle.legal_history.specs.Stories.Lawful.{Lawful, Legal, LegalFrom}
use Rattle.legal_history.specs.Builds.Values as values
use Rattle.legal_history.proofs.Stories.ConsistentStories.{IsConsistentState, none_active, consistent_first, consistent_step}
use Rattle.legal_history.proofs.Reuse.AgreeSteps.{BuildsAgree, agree_step}
use Rattle.legal_history.proofs.Reuse.GivenCommits.{AllHeld}
use Rattle.legal_history.proofs.Reuse.GivenSteps.{held_step}
use Rattle.legal_history.proofs.Reuse.SoundBases.{base_step, held_first, opened_from, opened_is_base}
use Rattle.legal_history.proofs.Stories.Along.{along}

agree_from : (s : State) (story : List StoryStep) → IsConsistentState s → values.IsSound s.base → AllHeld s → BuildsAgree s
    → LegalFrom s story → BuildsAgree (state_from s story)
agree_from s story sound whole held h e =
    (along (λ t. IsConsistentState t × values.IsSound t.base × AllHeld t × BuildsAgree t) (λ t x legal so. (
      consistent_step t x so.0 legal,
      base_step t x so.0 so.2 so.1 legal,
      held_step t x so.0 so.2 legal,
      agree_step t x so.0 so.1 so.2 so.3 legal,
    )) s story e (sound, whole, held, h)).3

-- before a base is opened nothing builds
none_agree : (x : StoryStep) → Lawful start x → BuildsAgree (after start x)
none_agree x e = record {
  holds = λ lane build is. absurd (let none : build_of (after start x).active lane
      ≡ None = ap (λ active. build_of active lane) (none_active x e) in cc);
}

story_agrees : (x : StoryStep) (story : List StoryStep) → Legal (x ∷ story) → values.IsSound (after start x).base
    → BuildsAgree (state_of (x ∷ story))
story_agrees x story legal whole = agree_from (after start x) story (consistent_first x legal.0) whole (held_first x legal.0)
    (none_agree x legal.0) legal.1

-- The law.
pub story_agrees_so_far : (story : List StoryStep) (opening : Opening) (lane : ℕ) (build : Build) → Legal story
    → (state_of story).opened ≡ Some opening → values.IsSound opening.base → build_of (state_of story).active lane ≡ Some build →
    AgreesSoFar (state_of story).base build
story_agrees_so_far [] opening lane build legal opened whole is = absurd (cc)
story_agrees_so_far (x ∷ story) opening lane build legal opened whole is =
    let first : (after start x).opened ≡ Some opening = sym (opened_from (after start x) story (consistent_first x legal.0)
    legal.1) ∙ opened in
    (story_agrees x story legal (subst values.IsSound (opened_is_base x opening legal.0 first) whole)).holds lane build is
