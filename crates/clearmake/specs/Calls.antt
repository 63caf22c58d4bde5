-- What the calls of a service on a lane's build ask and leave.
use Rattle.std.specs.Prelude.{◌≡◌, ℕ, ◌<◌, ◌^◌, ◌&&◌, ◌==◌, Bool, true, false, not, Some, Ok, is_some, List, [], length}
use Rattle.std.specs.Prelude.{unwrap_or, option_map, filter}
use Rattle.std.specs.List.{list_any, range_with_len}
use Rattle.cc_names.specs.declared.occasions.Begun.{Begun}
use Rattle.cc_names.specs.declared.occasions.Begun.TheVariants as begins
use Rattle.cc_names.specs.declared.steps.StoryStep.{StoryStep}
use Rattle.cc_names.specs.declared.units.Unit.{Unit}
use Rattle.script_grammar.specs.Lines.{script_of}
use Rattle.script_grammar.specs.Run.{Ran}
use Rattle.script_grammar.specs.declared.lines.Line.{Line}
use Rattle.legal_history.specs.Builds.Active.{Build, Started, build_of, came_to, is_outcome, unit_at, unit_with}
use Rattle.legal_history.specs.Builds.Choices.{here}
use Rattle.legal_history.specs.Builds.Fresh.{script_text}
use Rattle.legal_history.specs.Builds.Turns.{is_complete, is_unit_ready}
use Rattle.legal_history.specs.Stories.States.{State}
use Rattle.legal_history.specs.Stories.Steps.{state_of}
use Rattle.clearmake.specs.Going.{GoesOn, HasOutcome, Finishes}
use Rattle.clearmake.specs.declared.turns.TurnEnd.{TurnEnd}
use Rattle.clearmake.specs.declared.turns.TurnEnd.TheVariants as turn_ends
use Rattle.clearmake.specs.declared.turns.UnitTurn.{UnitTurn}
use Rattle.clearmake.specs.declared.turns.UnitTurn.TheVariants as turns

-- a lane builds so many units
pub record IsBuilding (s : State) (lane count : ℕ) : Type 0 where
  pub build : Build
  pub active : build_of s.active lane ≡ Some build
  pub of_units : length build.units ≡ count
  pub few : count < 2 ^ 32

-- a build that is active stays as it is: where the lane builds already, nothing changed
abbrev pub LeavesActive : List StoryStep → List StoryStep → ℕ → Type 0
LeavesActive old new lane = (build : Build) → build_of (state_of old).active lane ≡ Some build → new ≡ old

-- a build of so many units began, or goes on; or its command was refused
abbrev pub Begins : List StoryStep → List StoryStep → ℕ → Begun → Type 0
Begins old new lane (begins.Units count) = GoesOn old new lane × IsBuilding (state_of new) lane count
Begins old new lane begins.Refused = Finishes old new lane

-- unit n of a lane's build has this script and these targets
pub record HasScript (s : State) (lane n : ℕ) (script : List Line) (targets : List (List ℕ)) : Type 0 where
  pub build : Build
  pub active : build_of s.active lane ≡ Some build
  pub unit : Unit
  pub is_unit : unit_at build n ≡ Some unit
  pub script_is : script_of (script_text unit.script) ≡ Ok script
  pub targets_are : targets ≡ unit.targets

-- unit n of a lane's build was started; by now it may have its outcome
pub record WasStarted (s : State) (lane n : ℕ) : Type 0 where
  pub build : Build
  pub active : build_of s.active lane ≡ Some build
  pub unit : Unit
  pub is_unit : unit_at build n ≡ Some unit
  pub started : is_some (came_to build n) ≡ true

-- unit n of a lane's build, with this script and these targets, was started and has no outcome
pub record IsStarted (s : State) (lane n : ℕ) (script : List Line) (targets : List (List ℕ)) : Type 0 where
  pub has : HasScript s lane n script targets
  pub started : came_to has.build n ≡ Some Started

-- a unit is started once: where unit n of a lane's build had come to anything, nothing changed
abbrev pub StartsOnce : List StoryStep → List StoryStep → ℕ → ℕ → Type 0
StartsOnce old new lane n = (build : Build) → build_of (state_of old).active lane ≡ Some build → is_some (came_to build n) ≡ true
    → new ≡ old

-- unit n of a lane's build was started, and this is the run of its script on what it sees; by now it may have its outcome
pub record IsRunOfUnit (s : State) (lane n : ℕ) (ran : Ran) : Type 0 where
  pub build : Build
  pub active : build_of s.active lane ≡ Some build
  pub unit : Unit
  pub is_unit : unit_at build n ≡ Some unit
  pub started : is_some (came_to build n) ≡ true
  pub run : ran ≡ here s.base build n unit

-- whether a unit of the build makes a prerequisite of another
abbrev pub needs : Build → ℕ → Unit → Bool
needs build n unit = list_any (λ path. unwrap_or (option_map (λ m. m == n) (unit_with build path)) false) unit.prerequisites

-- unit n of a lane's build waits for this earlier unit, which makes one of its prerequisites and has no outcome
pub record WaitsFor (s : State) (lane n m : ℕ) : Type 0 where
  pub build : Build
  pub active : build_of s.active lane ≡ Some build
  pub unit : Unit
  pub is_unit : unit_at build n ≡ Some unit
  pub needed : needs build m unit ≡ true
  pub waits : is_outcome (came_to build m) ≡ false
  pub earlier : m < n

-- the units of a lane's build all have their outcomes
pub record IsOver (s : State) (lane : ℕ) : Type 0 where
  pub build : Build
  pub active : build_of s.active lane ≡ Some build
  pub complete : is_complete build ≡ true

-- a unit of a lane's build has its outcome, and the story went on
abbrev pub Concludes : List StoryStep → List StoryStep → ℕ → ℕ → Type 0
Concludes old new lane n = GoesOn old new lane × HasOutcome (state_of new) lane n

-- a unit that has its outcome stays as it is: where unit n of a lane's build has it already, nothing changed
abbrev pub LeavesConcluded : List StoryStep → List StoryStep → ℕ → ℕ → Type 0
LeavesConcluded old new lane n = HasOutcome (state_of old) lane n → new ≡ old

-- what became of a unit that was tried: it has its outcome, it waits for another and nothing changed, or its script is to be run,
-- by this call's start or by an earlier one, after which nothing changed; or the disk failed and its lane's command is finished
abbrev pub Tries : List StoryStep → List StoryStep → ℕ → ℕ → UnitTurn → Type 0
Tries old new lane n (turns.End turn_ends.Concluded) = Concludes old new lane n
Tries old new lane n (turns.End (turn_ends.NotReady m)) = (new ≡ old) × WaitsFor (state_of old) lane n m
Tries old new lane n (turns.End turn_ends.Over) = Finishes old new lane
Tries old new lane n (turns.Run script targets) =
    GoesOn old new lane × IsStarted (state_of new) lane n script targets × StartsOnce old new lane n

-- what became of a unit that was given its outcome: it has it, or the disk failed and its lane's command is finished; it never
-- waits
abbrev pub IsCarried : List StoryStep → List StoryStep → ℕ → ℕ → TurnEnd → Type 0
IsCarried old new lane n turn_ends.Concluded = Concludes old new lane n
IsCarried old new lane n (turn_ends.NotReady m) = ⊥
IsCarried old new lane n turn_ends.Over = Finishes old new lane

-- whether a unit waits for unit n no more, and for no other: it has no outcome, and each unit that it needs has one
abbrev pub is_released : Build → ℕ → ℕ → Bool
is_released build n m =
    not (is_outcome (came_to build m))
    && unwrap_or (option_map (λ unit. needs build n unit && is_unit_ready build unit) (unit_at build m)) false

-- the units that unit n of a lane's build has released, in their order
abbrev pub released_units : State → ℕ → ℕ → List ℕ
released_units s lane n =
    unwrap_or
    (option_map (λ build. filter (is_released build n) (range_with_len 0 (length build.units))) (build_of s.active lane)) []
