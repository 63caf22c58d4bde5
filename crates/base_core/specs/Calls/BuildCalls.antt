-- What the calls of a core on a lane's build ask and leave.
use Rattle.std.specs.Prelude.{◌≡◌, ℕ, ◌<◌, true, false, Option, Some, None, Ok, List, [], length}
use Rattle.std.specs.Ordering.{nat_cmp}
use Rattle.std.specs.FinMap.Entries.{put}
use Rattle.cc_names.specs.Formed.{Plain}
use Rattle.cc_names.specs.Versions.{is_number}
use Rattle.cc_names.specs.declared.refusals.ScriptFault.{ScriptFault}
use Rattle.cc_names.specs.declared.rows.Deed.TheVariants as deeds
use Rattle.cc_names.specs.declared.steps.UnitEnd.{UnitEnd}
use Rattle.cc_names.specs.declared.steps.UnitEnd.TheVariants.{Kept, Failed}
use Rattle.cc_names.specs.declared.refusals.UnitFault.TheVariants.{Script}
use Rattle.cc_names.specs.declared.steps.StoryStep.{StoryStep}
use Rattle.cc_names.specs.declared.units.Unit.{Unit}
use Rattle.build_core.specs.declared.steps.UnitStep.{UnitStep}
use Rattle.build_core.specs.declared.steps.UnitStep.TheVariants as next
use Rattle.script_grammar.specs.Run.{Ran}
use Rattle.base_model.specs.Rows.{size}
use Rattle.legal_history.specs.Builds.Active.{Build, Came, Started, build_of, came_to, is_outcome, unit_at}
use Rattle.legal_history.specs.Builds.Choices.{here, publish_of}
use Rattle.base_model.specs.Objects.{held_at_all}
use Rattle.legal_history.specs.Builds.Reuse.{reusable}
use Rattle.legal_history.specs.Laws.FromNothing.{MayTake}
use Rattle.legal_history.specs.Stories.States.{State, next_tag}
use Rattle.legal_history.specs.Stories.Steps.{after, state_of, with_came}
use Rattle.legal_history.specs.Stories.Lawful.{Lawful}
use Rattle.legal_history.specs.Stories.Quiet.{is_quiet}
use Rattle.legal_history.specs.Builds.UnitTurns.{IsOpen, ComesTo}
use Rattle.legal_history.specs.Builds.Turns.{unreadable}
use Rattle.clearmake.specs.Calls.{HasScript, IsStarted, WaitsFor}
use Rattle.clearmake.specs.Going.{GoesOn, HasOutcome, lane_of}
use Rattle.base_core.specs.Calls.Building.{BuildInvariant}
use Rattle.base_core.specs.Story.Replying.{replies_by}

-- By this step of a story, unit n of a lane's build comes to something without a row, and no command is replied.
pub record Notes (s : State) (lane n : ℕ) (came : Came) (x : StoryStep) : Type 0 where
  pub build : Build
  pub active : build_of s.active lane ≡ Some build
  pub within : n < length build.units
  pub waits : is_outcome (came_to build n) ≡ false
  pub quiet : is_quiet x ≡ true
  pub lawful : Lawful s x
  pub leaves : after s x ≡ record s { active = put nat_cmp lane (with_came build (Some n) came) s.active }
  pub silent : (other : ℕ) → replies_by s other x ≡ []
  pub own : lane_of x ≡ Some lane

-- unit n of a lane's build has come to this, and the story went on
pub record Noted (old new : List StoryStep) (lane n : ℕ) (came : Came) : Type 0 where
  pub goes : GoesOn old new lane
  pub build : Build
  pub active : build_of (state_of new).active lane ≡ Some build
  pub came_to_it : came_to build n ≡ Some came

-- unit n of a lane's build may be concluded so without a row
pub record MayConclude (s : State) (lane n : ℕ) (end : UnitEnd) : Type 0 where
  pub build : Build
  pub active : build_of s.active lane ≡ Some build
  pub within : n < length build.units
  pub kept : BuildInvariant s lane build
  pub waits : is_outcome (came_to build n) ≡ false
  pub concludes : ComesTo s (next_tag s lane) n end

-- the script of unit n of a lane's build may be started; one that cannot be read has this fault
pub record MayStart (s : State) (lane n : ℕ) (fault : Option ScriptFault) : Type 0 where
  pub build : Build
  pub active : build_of s.active lane ≡ Some build
  pub within : n < length build.units
  pub kept : BuildInvariant s lane build
  pub unit : Unit
  pub open_unit : IsOpen s (next_tag s lane) n build unit
  pub fresh : came_to build n ≡ None
  pub nothing : reusable s.base build n unit ≡ None
  pub fault_is : fault ≡ unreadable unit

-- the view of a lane's build may wink in this object for unit n, which may reuse it; the view does not hold it at every target
pub record MayWink (s : State) (lane n id : ℕ) : Type 0 where
  pub build : Build
  pub active : build_of s.active lane ≡ Some build
  pub within : n < length build.units
  pub kept : BuildInvariant s lane build
  pub unit : Unit
  pub may : MayTake s (next_tag s lane) n build unit
  pub chosen : reusable s.base build n unit ≡ Some id
  pub lacks : is_number id (held_at_all s.base build.view unit.targets) ≡ false

-- what comes next for unit n of a lane's build
abbrev pub StepsTo : State → ℕ → ℕ → UnitStep → Type 0
StepsTo s lane n next.Concluded = HasOutcome s lane n
StepsTo s lane n (next.NotReady m) = WaitsFor s lane n m
StepsTo s lane n (next.EndEarly end) = MayConclude s lane n end
StepsTo s lane n (next.Keep id) = MayConclude s lane n (Kept id)
StepsTo s lane n (next.Wink id) = MayWink s lane n id
StepsTo s lane n (next.Start script targets) = MayStart s lane n None × HasScript s lane n script targets
StepsTo s lane n (next.Unreadable fault) = MayStart s lane n (Some fault)
StepsTo s lane n (next.Run script targets) = IsStarted s lane n script targets
StepsTo s lane n (next.Fail fault) = MayConclude s lane n (Failed (Script fault))

-- the row of what the run of unit n of a lane's build gave
pub record IsObjectRow (s : State) (lane n : ℕ) (row : Plain) : Type 0 where
  pub build : Build
  pub active : build_of s.active lane ≡ Some build
  pub unit : Unit
  pub is_unit : unit_at build n ≡ Some unit
  pub started : came_to build n ≡ Some Started
  pub of_tag : row.tag ≡ next_tag s lane
  pub at_moment : row.moment ≡ s.moment
  pub nothing : reusable s.base build n unit ≡ None
  pub made : publish_of s.base build n unit ≡ Some row.deed

-- the row by which the view of a lane's build winks in this object for unit n
pub record IsWinkRow (s : State) (lane n id : ℕ) (row : Plain) : Type 0 where
  pub may : MayWink s lane n id
  pub of_tag : row.tag ≡ next_tag s lane
  pub at_moment : row.moment ≡ s.moment
  pub winks : row.deed ≡ deeds.Wink may.build.view id

-- a row that gives unit n of a lane's build this object: what its run gave is the next row, and an object winked in is its own
pub data GivesObject (s : State) (lane n : ℕ) (row : Plain) (object : ℕ) : Type 0 where
  Published : IsObjectRow s lane n row → object ≡ size s.base → GivesObject s lane n row object
  WinkedIn : IsWinkRow s lane n object row → GivesObject s lane n row object

-- and it has no outcome yet
pub record HasRun (s : State) (lane n : ℕ) (ran : Ran) : Type 0 where
  pub build : Build
  pub active : build_of s.active lane ≡ Some build
  pub unit : Unit
  pub is_unit : unit_at build n ≡ Some unit
  pub started : came_to build n ≡ Some Started
  pub kept : BuildInvariant s lane build
  pub run : ran ≡ here s.base build n unit

-- the run of unit n of a lane's build gave these outputs and asked for these paths, and the unit may reuse no object
pub record MayPublish (s : State) (lane n : ℕ) (outputs reads : List (List ℕ)) : Type 0 where
  pub run : HasRun s lane n (record { result = Ok outputs; reads = reads })
  pub nothing : reusable s.base run.build n run.unit ≡ None
