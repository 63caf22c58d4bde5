-- Along a legal story a base that was sound as it was opened stays sound.
use Rattle.std.proofs.Common.{◌≡◌, refl, ap, sym, subst, ◌∙◌, ℕ, true, Some, List, [], ◌∷◌}
use Rattle.std.specs.Prelude.{reverse}
use Rattle.cc_names.specs.declared.rows.Deed.{Deed}
use Rattle.cc_names.specs.declared.rows.Deed.TheVariants as deeds
use Rattle.cc_names.specs.declared.rows.Tag.{Tag}
use Rattle.cc_names.specs.declared.steps.StoryStep.{StoryStep}
use Rattle.cc_names.specs.declared.steps.StoryStep.TheVariants as story_steps
use Rattle.base_model.specs.Rows.{Base, size}
use Rattle.legal_history.specs.Builds.Active.{Build, build_of}
use Rattle.base_model.specs.Closures.{is_publish_deed}
use Rattle.legal_history.specs.Stories.States.{State, Opening, start}
use Rattle.legal_history.specs.Stories.Steps.{after, state_from, state_of}
use Rattle.legal_history.specs.Stories.Committing.{MakesRow}
use Rattle.legal_history.specs.Stories.Lawful.{Lawful, LegalFrom, Legal}
use Rattle.legal_history.specs.Builds.Values.{is_true}
use Rattle.legal_history.specs.Builds.Values as values
use Rattle.legal_history.proofs.Stories.Goes.{of_lane}
use Rattle.legal_history.proofs.Builds.Published.{is_publish}
use Rattle.legal_history.proofs.Stories.ConsistentStories.{IsConsistentState, consistent_step, consistent_first, none_active}
use Rattle.legal_history.specs.Laws.Given.{HoldsGiven}
use Rattle.legal_history.specs.Laws.Objects.{GivesLive}
use Rattle.legal_history.proofs.Reuse.GivenCommits.{AllHeld}
use Rattle.legal_history.proofs.Reuse.GivenSteps.{held_step}
use Rattle.legal_history.proofs.Reuse.PublishedTrue.{published_is_true}
use Rattle.legal_history.proofs.Reuse.SoundRows.{sound_row}
use Rattle.legal_history.proofs.Stories.Along.{along}

pub gives_live : (b : Base) (build : Build) → HoldsGiven b build → GivesLive b build
gives_live b build h = record { lives = λ n id own. (h.given n id own).lives }

new_is_true : (s : State) (tag : Tag) (moment : ℕ) (deed : Deed) → IsConsistentState s → AllHeld s → values.IsSound s.base
    → MakesRow s (record { tag = tag; moment = moment; deed = deed }) deed → is_publish_deed (Some deed) ≡ true →
    is_true (record { tag = tag; moment = moment; deed = deed } ∷ s.base) (size s.base) ≡ true
new_is_true s tag moment (deeds.Publish view targets script entries outputs) sound h true_base e publish =
    let there = of_lane s tag e.build e.running.waits.active in
    published_is_true (record { tag = tag; moment = moment; deed = deeds.Publish view targets script entries outputs }) s.base
    e.build e.n e.unit
    (sound.fine.holds tag.lane e.build there).consistent.base true_base
    (gives_live s.base e.build (h.given.holds tag.lane e.build there))
    (is_publish s.base e.build e.n e.unit (deeds.Publish view targets script entries outputs) e.made)
new_is_true s tag moment deed sound h true_base e publish = absurd (cc)

pub base_step : (s : State) (x : StoryStep) → IsConsistentState s → AllHeld s → values.IsSound s.base → Lawful s x
    → values.IsSound (after s x).base
base_step s (story_steps.Opened rows counts tells) sound h true_base e =
    absurd (let first = e.first in let opened = sound.opened in cc)
base_step s (story_steps.Commit row tick) sound h true_base e = sound_row row s.base true_base
    (new_is_true s row.tag row.moment row.deed sound h true_base e.may.made)
base_step s (story_steps.Refused tag refusal) sound h true_base e = true_base
base_step s x sound h true_base e = true_base

opened_step : (s : State) (x : StoryStep) → IsConsistentState s → Lawful s x → (after s x).opened ≡ s.opened
opened_step s (story_steps.Opened rows counts tells) sound e = absurd (let first = e.first in let opened = sound.opened in cc)
opened_step s (story_steps.Refused tag refusal) sound e = refl
opened_step s x sound e = refl

held_from : (s : State) (story : List StoryStep) → IsConsistentState s → AllHeld s → LegalFrom s story
    → AllHeld (state_from s story)
held_from s story sound h e = (along (λ t. IsConsistentState t × AllHeld t)
    (λ t x legal so. (consistent_step t x so.0 legal, held_step t x so.0 so.1 legal)) s story e (sound, h)).1

base_from : (s : State) (story : List StoryStep) → IsConsistentState s → AllHeld s → values.IsSound s.base → LegalFrom s story
    → values.IsSound (state_from s story).base
base_from s story sound h true_base e = (along (λ t. IsConsistentState t × AllHeld t × values.IsSound t.base) (λ t x legal so. (
  consistent_step t x so.0 legal,
  held_step t x so.0 so.1 legal,
  base_step t x so.0 so.1 so.2 legal,
)) s story e (sound, h, true_base)).2

pub opened_from : (s : State) (story : List StoryStep) → IsConsistentState s → LegalFrom s story
    → (state_from s story).opened ≡ s.opened
opened_from s story sound e = (along (λ t. IsConsistentState t × (t.opened ≡ s.opened))
    (λ t x legal so. (consistent_step t x so.0 legal, opened_step t x so.0 legal ∙ so.1)) s story e (sound, refl)).1

-- after the first step
pub held_first : (x : StoryStep) → Lawful start x → AllHeld (after start x)
held_first x e =
    let none = none_active x e in
    record {
      given = record {
        holds = λ lane build is. absurd (let nothing : build_of [] lane
            ≡ Some build = sym (ap (λ active. build_of active lane) none) ∙ is in cc);
      };
      apart = record {
        one_lane = λ lane other one two is_one is_two same. absurd
            (let nothing : build_of [] lane ≡ Some one = sym (ap (λ active. build_of active lane) none) ∙ is_one in cc);
      };
    }

pub opened_is_base : (x : StoryStep) (o : Opening) → Lawful start x → (after start x).opened ≡ Some o
    → o.base ≡ (after start x).base
opened_is_base (story_steps.Opened rows counts tells) o e is = let same : record {
  base = reverse rows;
  counts = counts;
  tells = tells;
} ≡ o = cc in ap (λ (o : Opening). o.base) (sym same)
opened_is_base (story_steps.Refused tag refusal) o e is = absurd (cc)
opened_is_base x o e is = absurd (cc)

-- The laws of whole stories.
pub story_all_held : (x : StoryStep) (story : List StoryStep) → Legal (x ∷ story) → AllHeld (state_of (x ∷ story))
story_all_held x story legal = held_from (after start x) story (consistent_first x legal.0) (held_first x legal.0) legal.1

pub story_holds : (story : List StoryStep) (lane : ℕ) (build : Build) → Legal story
    → build_of (state_of story).active lane ≡ Some build → HoldsGiven (state_of story).base build
story_holds [] lane build legal is = absurd (cc)
story_holds (x ∷ story) lane build legal is = (story_all_held x story legal).given.holds lane build is

pub one_build : (story : List StoryStep) (lane other : ℕ) (one two : Build) → Legal story
    → build_of (state_of story).active lane ≡ Some one → build_of (state_of story).active other ≡ Some two → one.view ≡ two.view
    → lane ≡ other
one_build [] lane other one two legal is_one is_two same = absurd (cc)
one_build (x ∷ story) lane other one two legal is_one is_two same = (story_all_held x story legal).apart.one_lane lane other one
    two is_one is_two same

pub story_stays_sound : (story : List StoryStep) (o : Opening) → Legal story → (state_of story).opened ≡ Some o
    → values.IsSound o.base → values.IsSound (state_of story).base
story_stays_sound [] o legal is true_base = absurd (cc)
story_stays_sound (x ∷ story) o legal is true_base =
    let sound = consistent_first x legal.0 in
    let opened : (after start x).opened ≡ Some o = sym (opened_from (after start x) story sound legal.1) ∙ is in
    base_from (after start x) story sound (held_first x legal.0) (subst values.IsSound (opened_is_base x o legal.0 opened)
    true_base) legal.1

-- a base without rows is sound
none_sound : values.IsSound []
none_sound id = refl

pub sound_from_nothing : (story : List StoryStep) (o : Opening) → Legal story → (state_of story).opened ≡ Some o → o.base ≡ []
    → values.IsSound (state_of story).base
sound_from_nothing story o legal is none = story_stays_sound story o legal is (subst values.IsSound (sym none) none_sound)
