-- What later steps of a story leave of earlier ones.
use Rattle.std.specs.Prelude.{◌≡◌, ℕ, ◌≤◌, Option, Some, None, is_some, true}
use Rattle.legal_history.specs.Builds.Active.{Build, build_of, came_to, is_outcome}
use Rattle.legal_history.specs.Stories.States.{State, done_of}

-- a build goes on: it is the same build, what a unit has come to in the end stays so, and a unit that has come to anything
-- has come to something still
pub record Continues (old new : Build) : Type 0 where
  pub tag : new.tag ≡ old.tag
  pub view : new.view ≡ old.view
  pub rows : new.rows ≡ old.rows
  pub own_only : new.own_only ≡ old.own_only
  pub rebuild : new.rebuild ≡ old.rebuild
  pub units : new.units ≡ old.units
  pub outcomes : (n : ℕ) → is_outcome (came_to old n) ≡ true → came_to new n ≡ came_to old n
  pub begun : (n : ℕ) → is_some (came_to old n) ≡ true → is_some (came_to new n) ≡ true

-- an active build after a step: it goes on, or it is over
pub data StaysTheBuild (old : Build) (new : Option Build) : Type 0 where
  Over : new ≡ None → StaysTheBuild old new
  On : (build : Build) → new ≡ Some build → Continues old build → StaysTheBuild old new

-- an active build that goes on
pub record StillBuilds (old : Build) (new : Option Build) : Type 0 where
  pub build : Build
  pub is : new ≡ Some build
  pub on : Continues old build

-- A later state of a story: no earlier phase comes back. While the phase is the same one, its commands and its moment stay, no
-- lane has finished fewer commands, and an active build goes on until its lane finishes a command.
pub record GoesLater (old new : State) : Type 0 where
  pub number : old.number ≤ new.number
  pub phase : new.number ≡ old.number → new.phase ≡ old.phase
  pub moment : new.number ≡ old.number → new.moment ≡ old.moment
  pub done : new.number ≡ old.number → (lane : ℕ) → done_of old.done lane ≤ done_of new.done lane
  pub builds : new.number ≡ old.number → (lane : ℕ) (build : Build) → build_of old.active lane ≡ Some build
      → done_of new.done lane ≡ done_of old.done lane → StillBuilds build (build_of new.active lane)
