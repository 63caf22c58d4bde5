-- Along a legal story the ticks of the ends rise, and each fault has a rise of its own.
use Rattle.std.proofs.Common.{◌≡◌, true, List, [], ◌∷◌}
use Rattle.std.specs.Prelude.{is_some}
use Rattle.cc_names.specs.declared.steps.StoryStep.{StoryStep}
use Rattle.cc_names.specs.declared.steps.StoryStep.TheVariants as story_steps
use Rattle.legal_history.specs.Stories.States.{State, start}
use Rattle.legal_history.specs.Stories.Steps.{after, state_from, state_of}
use Rattle.legal_history.specs.Stories.Lawful.{Lawful, LegalFrom, Legal}
use Rattle.legal_history.proofs.Stories.Prefixes.{first_opens}
use Rattle.legal_history.proofs.Stories.Grows.{stays_opened}
use Rattle.legal_history.specs.Laws.Ends.{AreRising}
use Rattle.legal_history.proofs.Stories.Along.{along}

ends_step : (s : State) (x : StoryStep) → is_some s.opened ≡ true → Lawful s x → AreRising s.opened s.ends
    → AreRising (after s x).opened (after s x).ends
ends_step s (story_steps.Opened rows counts tells) opened e h = absurd (let first = e.first in cc)
ends_step s (story_steps.Commit row tick) opened e h = (e.ticked, h)
ends_step s (story_steps.Fault tag left before faults tick) opened e h =
    (e.ticked, record { before = before; later = e.later; rose = e.rose }, h)
ends_step s x opened e h = h

ends_from : (s : State) (story : List StoryStep) → is_some s.opened ≡ true → LegalFrom s story → AreRising s.opened s.ends
    → AreRising (state_from s story).opened (state_from s story).ends
ends_from s story opened e h = (along (λ t. (is_some t.opened ≡ true) × AreRising t.opened t.ends)
    (λ t x legal so. (stays_opened t x so.0, ends_step t x so.0 legal so.1)) s story e (opened, h)).1

ends_first : (x : StoryStep) → Lawful start x → AreRising (after start x).opened (after start x).ends
ends_first (story_steps.Commit row tick) e = absurd (let opened = first_opens (story_steps.Commit row tick) e in cc)
ends_first (story_steps.Fault tag left before faults tick) e =
    absurd (let opened = first_opens (story_steps.Fault tag left before faults tick) e in cc)
ends_first x e = tt

pub ends_rise : (story : List StoryStep) → Legal story → AreRising (state_of story).opened (state_of story).ends
ends_rise [] legal = tt
ends_rise (x ∷ story) legal = ends_from (after start x) story (first_opens x legal.0) legal.1 (ends_first x legal.0)
