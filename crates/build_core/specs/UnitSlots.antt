-- What the program keeps of an active build.
use Rattle.std.specs.Prelude.{◌≡◌, ℕ, Bool, Option, IfSome, List, length}
use Rattle.cc_names.specs.declared.units.Unit.{Unit}
use Rattle.legal_history.specs.Builds.Consistency.{InOrder}
use Rattle.build_core.specs.Slots.{held_in}
use Rattle.build_core.specs.VisibleObjects.{AreMarked}
use Rattle.build_core.specs.declared.active.Came.{Came}

-- Its units are in order, with two slots for each: what it has come to, and its closure. What is kept there are the units that
-- it stands on.
pub record AreSlotsOf (units : List Unit) (slots : List (Option Came)) (closures : List (Option (List Bool))) : Type 0 where
  pub each : length slots ≡ length units
  pub in_order : InOrder units
  pub each_closure : length closures ≡ length units
  pub kept : (n : ℕ) → IfSome (held_in closures n) (AreMarked units n)
