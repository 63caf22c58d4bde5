-- What a stop may leave of a story, as a base.
use Rattle.std.specs.Prelude.{◌≡◌, Some, ◌∷◌}
use Rattle.cc_names.specs.Formed.{Plain}
use Rattle.base_model.specs.Rows.{Base}
use Rattle.legal_history.specs.Stories.Committing.{MayCommit}
use Rattle.legal_history.specs.Stories.States.{State, hanging}

-- A base that a stop may leave where a story has come to a state: the rows committed so far, or these and one more row, which
-- the fault directly before left after them or which may be committed next, so is in flight.
pub data IsLeftByStop (s : State) (b : Base) : Type 0 where
  OfCommits : b ≡ s.base → IsLeftByStop s b
  WithRowLeft : (row : Plain) → hanging s.ends ≡ Some row → b ≡ row ∷ s.base → IsLeftByStop s b
  WithRowInFlight : (row : Plain) → MayCommit s row → b ≡ row ∷ s.base → IsLeftByStop s b
