-- What becomes of a unit that is driven to its outcome.
use Rattle.std.specs.Prelude.{ℕ, List}
use Rattle.cc_names.specs.declared.rows.Tag.{Tag}
use Rattle.cc_names.specs.declared.steps.StoryStep.{StoryStep}
use Rattle.legal_history.specs.Stories.Lawful.{Legal}
use Rattle.legal_history.specs.Stories.Steps.{state_of}
use Rattle.clearmake.specs.Calls.{IsStarted, WaitsFor}
use Rattle.clearmake.specs.Going.{HasOutcome}
use Rattle.clearmake.specs.Passes.{Builds, IsCommandPast}
use Rattle.clearmake.specs.declared.turns.TurnEnd.{TurnEnd}
use Rattle.clearmake.specs.declared.turns.TurnEnd.TheVariants as turn_ends
use Rattle.clearmake.specs.declared.turns.UnitTurn.{UnitTurn}
use Rattle.clearmake.specs.declared.turns.UnitTurn.TheVariants as turns

-- Unit n of a build was driven: in this legal story the command is past; or the build goes on, and the unit has its outcome or
-- waits.
abbrev pub IsDriven : TurnEnd → List StoryStep → Tag → ℕ → ℕ → Type 0
IsDriven turn_ends.Over story tag count n = IsCommandPast (state_of story) tag
IsDriven turn_ends.Concluded story tag count n = Legal story × Builds story tag count × HasOutcome (state_of story) tag.lane n
IsDriven (turn_ends.NotReady m) story tag count n =
    Legal story × Builds story tag count × WaitsFor (state_of story) tag.lane n m

-- Unit n of a build was tried: the same, or its script was started.
abbrev pub IsTried : UnitTurn → List StoryStep → Tag → ℕ → ℕ → Type 0
IsTried (turns.End end) story tag count n = IsDriven end story tag count n
IsTried (turns.Run script targets) story tag count n =
    Builds story tag count × IsStarted (state_of story) tag.lane n script targets
