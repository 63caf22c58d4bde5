-- Along a legal story each scrub lists exactly what is due, and every object that a view holds is live.
use Rattle.std.proofs.Common.{◌≡◌, ap, subst, ◌∙◌, ℕ, true, Some, Ok, List, ◌∷◌, ◌++◌}
use Rattle.std.specs.Prelude.{is_some}
use Rattle.cc_names.specs.Formed.{Plain}
use Rattle.cc_names.specs.References.{held_at}
use Rattle.cc_names.specs.declared.rows.Deed.TheVariants as deeds
use Rattle.cc_names.specs.declared.rows.Tag.{Tag}
use Rattle.cc_names.specs.declared.steps.StoryStep.{StoryStep}
use Rattle.cc_names.specs.declared.steps.StoryStep.TheVariants as story_steps
use Rattle.base_model.specs.Changes.{objects_held, live_row}
use Rattle.legal_history.specs.Commands.Decisions.{Makes}
use Rattle.legal_history.specs.Commands.Lines.{decision}
use Rattle.legal_history.specs.Laws.Dues.{AreDue}
use Rattle.legal_history.specs.Stories.Committing.{MakesRow}
use Rattle.legal_history.specs.Stories.Lawful.{Legal}
use Rattle.legal_history.specs.Stories.States.{State, decision_for, scene, start}
use Rattle.legal_history.specs.Stories.Steps.{state_of}
use Rattle.legal_history.proofs.Decisions.DueObjects.{scrub_lists, scrub_ascends}
use Rattle.base_model.proofs.HeldObjects.{held_is_live}
use Rattle.legal_history.proofs.Stories.DecidedSteps.{decided_of, says_of}
use Rattle.legal_history.proofs.Stories.Prefixes.{prefix_is_legal, rest_is_legal}
use Rattle.legal_history.proofs.Stories.ConsistentStories.{base_fits}

-- a scrub that was decided is of a command that scrubs
decided_scrub : (s : State) (tag : Tag) (objects : List ℕ) → decision_for s tag ≡ Some (Ok (Makes (deeds.Scrub objects)))
    → AreDue s tag objects
decided_scrub s tag objects h =
    let d = decided_of s tag (Makes (deeds.Scrub objects)) h in
    let scrub = (says_of s tag (Makes (deeds.Scrub objects)) d).scrubs in
    let is = subst (λ command. decision (scene s) command ≡ Ok (Makes (deeds.Scrub objects))) scrub.is d.is in
    record {
      age = scrub.age;
      command = d.next ∙ ap Some scrub.is;
      exactly = λ id. scrub_lists (scene s) scrub.age objects id is;
      ascend = scrub_ascends (scene s) scrub.age objects is;
    }

pub story_scrubs : (prefix rest : List StoryStep) (row : Plain) (tick : ℕ) (objects : List ℕ)
    → Legal (prefix ++ story_steps.Commit row tick ∷ rest) → row.deed ≡ deeds.Scrub objects
    → AreDue (state_of prefix) row.tag objects
story_scrubs prefix rest row tick objects legal is =
    let commits = (rest_is_legal start prefix (story_steps.Commit row tick ∷ rest) legal).0 in
    decided_scrub (state_of prefix) row.tag objects (subst (MakesRow (state_of prefix) row) is commits.may.made
    ∙ ap (λ deed. Some (Ok (Makes deed))) is)

pub story_held_is_live : (prefix rest : List StoryStep) (v path : List ℕ) (id : ℕ) → Legal (prefix ++ rest)
    → held_at (objects_held (state_of prefix).base) v path ≡ Some id → is_some (live_row (state_of prefix).base id) ≡ true
story_held_is_live prefix rest v path id legal is = held_is_live (state_of prefix).base v path id
    (base_fits prefix (prefix_is_legal start prefix rest legal)) is
