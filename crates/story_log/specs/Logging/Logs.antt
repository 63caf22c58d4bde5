-- A story with its rows and phases, on a disk, and what each kind of step adds to it.
use Rattle.std.specs.Prelude.{◌≡◌, ℕ, List, [], ◌∷◌, ◌++◌}
use Rattle.cc_names.specs.Formed.{Plain}
use Rattle.cc_names.specs.declared.commands.Phase.{Phase}
use Rattle.cc_names.specs.declared.steps.StoryStep.{StoryStep}
use Rattle.cc_names.specs.declared.steps.StoryStep.TheVariants as story_steps
use Rattle.disk_model.specs.DiskStates.{DiskState}
use Rattle.base_model.specs.Rows.{Base}
use Rattle.legal_history.specs.Stories.Steps.{state_of}
use Rattle.vob_journal.specs.declared.left.Left.{Left}
use Rattle.story_log.specs.Stopping.Backed.{IsBacked}
use Rattle.story_log.specs.Stopping.Journals.{JournalState}
use Rattle.story_log.specs.Stopping.Tails.{Tail, tail_after_fault, tail_after_row}
use Rattle.story_log.specs.Story.Handed.{Handed}
use Rattle.story_log.specs.Story.Telling.{rows_named}
use Rattle.base_rows.specs.Order.{oldest_first}

-- a story, oldest step first, with the base to which it has led and all phases, in their order, what contracts see of the disk,
-- and the journal's tail
pub record Logged : Type 0 where
  pub story : List StoryStep
  pub base : Base
  pub phases : List Phase
  pub ghost_state : DiskState
  pub tail : Tail

-- the story names all rows of the base and leads to it, and the journal is that of the story
pub record IsLogged (story : List StoryStep) (base : Base) (ghost_state : DiskState) (journal : JournalState) : Type 0 where
  pub named : rows_named story ≡ oldest_first base
  pub leads : (state_of story).base ≡ base
  pub backed : IsBacked (state_of story) ghost_state journal

-- this base was opened
abbrev pub opened_log : Base → Handed → DiskState → Tail → Logged
opened_log base handed ghost_state tail =
    record {
      story = story_steps.Opened (oldest_first base) handed.counts handed.tells ∷ [];
      base = base;
      phases = [];
      ghost_state = ghost_state;
      tail = tail;
    }

-- with a phase that began
abbrev pub with_phase : Logged → Phase → ℕ → Logged
with_phase log phase moment =
    record {
      story = log.story ++ story_steps.PhaseBegun phase moment ∷ [];
      base = log.base;
      phases = log.phases ++ phase ∷ [];
      ghost_state = log.ghost_state;
      tail = log.tail;
    }

-- with a row that was committed, acknowledged at this tick of the disk, which is then so
abbrev pub with_committed_row : Logged → Plain → ℕ → DiskState → Logged
with_committed_row log row tick ghost_state =
    record {
      story = log.story ++ story_steps.Commit row tick ∷ [];
      base = row ∷ log.base;
      phases = log.phases;
      ghost_state = ghost_state;
      tail = tail_after_row log.tail row;
    }

-- with a step that names no row and no phase
abbrev pub with_step : Logged → StoryStep → Logged
with_step log step =
    record {
      story = log.story ++ step ∷ [];
      base = log.base;
      phases = log.phases;
      ghost_state = log.ghost_state;
      tail = log.tail;
    }

-- with a fault under a row, which left this, while the disk changed
abbrev pub with_fault : Logged → StoryStep → DiskState → Left → Logged
with_fault log step ghost_state left =
    record {
      story = log.story ++ step ∷ [];
      base = log.base;
      phases = log.phases;
      ghost_state = ghost_state;
      tail = tail_after_fault log.tail left;
    }

-- with another state of the disk, and of its journal's tail
abbrev pub with_disk : Logged → DiskState → Tail → Logged
with_disk log ghost_state tail =
    record { story = log.story; base = log.base; phases = log.phases; ghost_state = ghost_state; tail = tail }
