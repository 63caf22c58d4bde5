-- A row that may be committed fits the base.
use Rattle.std.proofs.Common.{◌≡◌, ◌+◌, true, List, [], ◌∷◌, ◌++◌, ap, sym, ◌∙◌, arith}
use Rattle.std.proofs.lemmas.Bool.{and_parts}
use Rattle.cc_names.specs.Formed.{Plain}
use Rattle.cc_names.specs.declared.steps.StoryStep.{StoryStep}
use Rattle.cc_names.specs.declared.steps.StoryStep.TheVariants as story_steps
use Rattle.legal_history.specs.Stories.Committing.{MayCommit}
use Rattle.base_model.specs.Fits.{fits, is_base}
use Rattle.legal_history.specs.Stories.States.{State, start, ticks_of}
use Rattle.legal_history.specs.Stories.Steps.{state_of}
use Rattle.legal_history.specs.Stories.Lawful.{Legal}
use Rattle.legal_history.proofs.Stories.ConsistentStories.{base_fits}
use Rattle.story_log.proofs.Story.Growing.{state_from-more, legal_more}
use Rattle.story_log.proofs.Logging.Rising.{rises_more}

-- the base of the story with the row committed is a base
pub may_fits : (story : List StoryStep) (row : Plain) → Legal story → MayCommit (state_of story) row
    → fits (state_of story).base row.deed ≡ true
may_fits story row legal may =
    let s : State = state_of story in
    let x : StoryStep = story_steps.Commit row (ticks_of s.opened s.ends + 1) in
    let more : Legal (story ++ x ∷ []) = legal_more start story x legal
    (record { may = may; ticked = rises_more (ticks_of s.opened s.ends) (ticks_of s.opened s.ends + 1) (omega arith) }) in
    let grown : is_base (row ∷ s.base) ≡ true = ap is_base (sym (ap (λ t. t.base) (state_from-more start story x)))
    ∙ base_fits (story ++ x ∷ []) more in
    (and_parts (fits s.base row.deed) (is_base s.base) grown).0
