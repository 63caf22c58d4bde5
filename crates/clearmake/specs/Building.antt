-- What becomes of the units of a build, and of the build.
use Rattle.std.specs.Prelude.{ℕ, Result, Ok, Err, List}
use Rattle.cc_names.specs.declared.occasions.Begun.{Begun}
use Rattle.cc_names.specs.declared.occasions.Begun.TheVariants as begins
use Rattle.cc_names.specs.declared.memory.NoMemory.{NoMemory}
use Rattle.cc_names.specs.declared.rows.Tag.{Tag}
use Rattle.cc_names.specs.declared.steps.StoryStep.{StoryStep}
use Rattle.legal_history.specs.Stories.Steps.{state_of}
use Rattle.clearmake.specs.Passes.{AreDone, Builds, IsCommandPast}
use Rattle.clearmake.specs.declared.builds.Opened.{Opened}
use Rattle.clearmake.specs.declared.builds.Opened.TheVariants as opened
use Rattle.clearmake.specs.declared.turns.TurnEnd.{TurnEnd}
use Rattle.clearmake.specs.declared.turns.TurnEnd.TheVariants as turn_ends

-- the units of a build were driven: in this story the command is past, or they all have their outcomes; none waits
abbrev pub IsSwept : TurnEnd → List StoryStep → Tag → ℕ → Type 0
IsSwept turn_ends.Over story tag count = IsCommandPast (state_of story) tag
IsSwept turn_ends.Concluded story tag count = AreDone story tag count count
IsSwept (turn_ends.NotReady m) story tag count = ⊥

-- what a service's answer says of a build that was to begin
abbrev pub opened_of : Result Begun NoMemory → Opened
opened_of (Ok (begins.Units count)) = opened.Units count
opened_of (Ok begins.Refused) = opened.Over
opened_of (Err error) = opened.OutOfMemory

-- a build was to begin: in this story the command is past, or it builds so many units, or memory ran out
abbrev pub IsBuildOpened : Opened → List StoryStep → Tag → Type 0
IsBuildOpened opened.Over story tag = IsCommandPast (state_of story) tag
IsBuildOpened (opened.Units count) story tag = Builds story tag count
IsBuildOpened opened.OutOfMemory story tag = Unit {0}
