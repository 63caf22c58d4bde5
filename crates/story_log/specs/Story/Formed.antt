-- Rows that keep their form, which a journal gives back, and stories that name no others. Each law is promised by a function of
-- `laws`.
use Rattle.std.specs.Prelude.{IfSome, List, reverse}
use Rattle.std.specs.List.{AllByRecursion}
use Rattle.cc_names.specs.Formed.{Plain, IsFormed}
use Rattle.cc_names.specs.declared.steps.StoryStep.{StoryStep}
use Rattle.cc_names.specs.declared.steps.StoryStep.TheVariants as story_steps
use Rattle.base_model.specs.Rows.{Base}
use Rattle.legal_history.specs.Stories.States.{hanging}
use Rattle.legal_history.specs.Stories.Steps.{state_of}

-- each row of a base keeps its form
abbrev pub AreFormed : Base → Type 0
AreFormed b = AllByRecursion IsFormed b

-- each row that a step names is so: those of the base that was opened, the row of a commit, and what a fault left
abbrev pub NamesOnly : (Plain → Type 0) → StoryStep → Type 0
NamesOnly P (story_steps.Opened rows counts tells) = AllByRecursion P (reverse rows)
NamesOnly P (story_steps.Commit row tick) = P row
NamesOnly P (story_steps.Fault tag left before faults tick) = IfSome left P
NamesOnly P step = Unit {0}

-- each row that a story names is so
abbrev pub TellsOnly : (Plain → Type 0) → List StoryStep → Type 0
TellsOnly P story = AllByRecursion (NamesOnly P) story

-- The base of a story that names only formed rows is one of formed rows.
abbrev pub StoryKeepsItsBaseFormed : Type 0
StoryKeepsItsBaseFormed = (story : List StoryStep) → TellsOnly IsFormed story
    → AreFormed (state_of story).base

-- A row that a fault left after that base, if there is one, is formed.
abbrev pub FaultLeavesAFormedRow : Type 0
FaultLeavesAFormedRow = (story : List StoryStep) → TellsOnly IsFormed story
    → IfSome (hanging (state_of story).ends) IsFormed
