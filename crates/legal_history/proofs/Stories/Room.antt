-- The rows of a legal story, and one for each unit that has no outcome, stay within the limit.
use Rattle.std.proofs.Common.{◌≡◌, refl, ap, ap₂, subst, ℕ, ◌+◌, ◌≤◌, not, List, [], ◌∷◌, arith}
use Rattle.cc_names.specs.References.{one_where}
use Rattle.cc_names.specs.declared.steps.StoryStep.{StoryStep}
use Rattle.cc_names.specs.declared.units.Unit.{Unit}
use Rattle.base_model.specs.Rows.{size}
use Rattle.legal_history.specs.Builds.Active.{Active, Build, came_to, is_outcome}
use Rattle.base_model.specs.Fits.{row_limit}
use Rattle.legal_history.specs.Stories.Steps.{state_of}
use Rattle.legal_history.specs.Stories.Lawful.{Legal}
use Rattle.legal_history.proofs.Builds.Room.{waits_from, all_waiting}
use Rattle.legal_history.proofs.Stories.ConsistentStories.{story_is_consistent}
use Rattle.legal_history.specs.Laws.Unfinished.{unfinished_from, all_unfinished}

as_waiting : (build : Build) (n : ℕ) (units : List Unit) → waits_from build.comes n units ≡ unfinished_from build n units
as_waiting build n [] = refl
as_waiting build n (unit ∷ units) = ap (λ k. one_where (not (is_outcome (came_to build n))) + k) (as_waiting build (n + 1) units)

all_as_waiting : (active : Active) → all_waiting active ≡ all_unfinished active
all_as_waiting [] = refl
all_as_waiting (entry ∷ active) = ap₂ ◌+◌ (as_waiting entry.1 0 entry.1.units) (all_as_waiting active)

pub within_limit : (story : List StoryStep) → Legal story → size (state_of story).base + all_unfinished (state_of story).active
    ≤ row_limit
within_limit [] legal = omega arith
within_limit (x ∷ story) legal =
    subst (λ k. size (state_of (x ∷ story)).base + k ≤ row_limit) (all_as_waiting (state_of (x ∷ story)).active)
    (story_is_consistent x story legal).room.room
