-- What an object has stored, and when that is what a unit's own run gives.
use Rattle.std.specs.Prelude.{◌≡◌, ℕ, true, Option, Some, None, Ok, List, is_some}
use Rattle.cc_names.specs.declared.rows.Deed.{Deed}
use Rattle.cc_names.specs.declared.rows.Deed.TheVariants as deeds
use Rattle.cc_names.specs.declared.units.Unit.{Unit}
use Rattle.base_model.specs.Rows.{Base, deed_at}
use Rattle.legal_history.specs.Builds.Active.{Build, came_to, object_of}
use Rattle.base_model.specs.Changes.{live_row, targets_of}
use Rattle.legal_history.specs.Builds.Choices.{here}

-- the outputs that a publish stores
abbrev pub outputs_of_deed : Option Deed → Option (List (List ℕ))
outputs_of_deed (Some (deeds.Publish v targets script entries outputs)) = Some outputs
outputs_of_deed _ = None

-- the outputs that an object has stored
abbrev pub outputs_of : Base → ℕ → Option (List (List ℕ))
outputs_of b id = outputs_of_deed (deed_at b id)

-- each object that the units of a build were given or have kept is live
pub record GivesLive (b : Base) (build : Build) : Type 0 where
  pub lives : (n id : ℕ) → object_of (came_to build n) ≡ Some id → is_some (live_row b id) ≡ true

-- An object has the unit's targets, and what it has stored is what a run of the unit's script gives, now, on what the unit
-- sees.
pub record IsTheRun (b : Base) (build : Build) (n : ℕ) (unit : Unit) (id : ℕ) : Type 0 where
  pub outputs : List (List ℕ)
  pub targets : targets_of b id ≡ unit.targets
  pub stored : outputs_of b id ≡ Some outputs
  pub runs : (here b build n unit).result ≡ Ok outputs
