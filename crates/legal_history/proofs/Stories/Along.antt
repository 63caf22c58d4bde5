-- What holds along a legal story, step by step.
use Rattle.std.proofs.Common.{◌≡◌, refl, true, List, [], ◌∷◌}
use Rattle.cc_names.specs.declared.steps.StoryStep.{StoryStep}
use Rattle.cc_names.specs.declared.steps.StoryStep.TheVariants as story_steps
use Rattle.legal_history.specs.Stories.Lawful.{Lawful, LegalFrom}
use Rattle.legal_history.specs.Stories.Quiet.{is_quiet}
use Rattle.legal_history.specs.Stories.States.{State}
use Rattle.legal_history.specs.Stories.Steps.{after, state_from}

-- what holds in a state, and in each to which a lawful step leads where it held before, holds after a legal story
pub along : (P : State → Type 0) → ((s : State) (x : StoryStep) → Lawful s x → P s → P (after s x)) → (s : State)
    (story : List StoryStep) → LegalFrom s story → P s → P (state_from s story)
along P step s [] legal h = h
along P step s (x ∷ story) legal h = along P step (after s x) story legal.1 (step s x legal.0 h)

-- the base, how it was opened, and the ends are as they were
pub record KeepsBase (s t : State) : Type 0 where
  pub opened : t.opened ≡ s.opened
  pub base : t.base ≡ s.base
  pub ends : t.ends ≡ s.ends

-- a quiet step leaves them
pub quiet_keeps : (s : State) (x : StoryStep) → is_quiet x ≡ true → KeepsBase s (after s x)
quiet_keeps s (story_steps.Opened rows counts tells) quiet = absurd (cc)
quiet_keeps s (story_steps.PhaseBegun phase moment) quiet = absurd (cc)
quiet_keeps s (story_steps.Commit row tick) quiet = absurd (cc)
quiet_keeps s (story_steps.Fault tag left before faults tick) quiet = absurd (cc)
quiet_keeps s x quiet = record { opened = refl; base = refl; ends = refl }
