-- What holds of the builds of legal stories. Each is promised by a function of `laws::builds`.
use Rattle.std.specs.Prelude.{◌≡◌, ℕ, ◌+◌, List, ◌++◌, Some, None, is_some, true, false}
use Rattle.cc_names.specs.References.{held_at}
use Rattle.cc_names.specs.declared.commands.Clearmake.{Clearmake}
use Rattle.cc_names.specs.declared.commands.Command.TheVariants as commands
use Rattle.cc_names.specs.declared.rows.Tag.{Tag}
use Rattle.cc_names.specs.declared.steps.StoryStep.{StoryStep}
use Rattle.cc_names.specs.declared.units.Unit.{Unit}
use Rattle.base_model.specs.Rows.{Base}
use Rattle.legal_history.specs.Builds.Active.{Build, build_of, came_to, unit_at, is_outcome}
use Rattle.base_model.specs.Changes.{objects_held}
use Rattle.legal_history.specs.Builds.Choices.{here, visible}
use Rattle.legal_history.specs.Stories.Commanded.{IsOfCommand}
use Rattle.legal_history.specs.Builds.Freshness.{AgreesSoFar}
use Rattle.legal_history.specs.Stories.Growth.{StaysTheBuild}
use Rattle.legal_history.specs.Laws.Ends.{IsLeft, IsRefused}
use Rattle.legal_history.specs.Laws.FromNothing.{EndsAsFromNothing}
use Rattle.legal_history.specs.Laws.Given.{HoldsGiven}
use Rattle.legal_history.specs.Builds.Replied.{reply_of, reply_from_nothing}
use Rattle.legal_history.specs.Builds.Serials.{makes}
use Rattle.legal_history.specs.Stories.States.{State, Opening, done_of, next_command}
use Rattle.legal_history.specs.Stories.Steps.{after, state_of}
use Rattle.legal_history.specs.Stories.Lawful.{Lawful, Legal}
use Rattle.legal_history.specs.Builds.Turns.{is_complete}
use Rattle.legal_history.specs.Builds.Values.{IsSound}
use Rattle.legal_history.specs.Builds.Consistency.{IsConsistent}

-- After a lawful step an active build is over, or it goes on: it is the same build of the same units, and no outcome of a
-- unit has changed.
abbrev pub BuildGoesOn : Type 0
BuildGoesOn = (s : State) (x : StoryStep) (lane : ℕ) (build : Build)
    → build_of s.active lane ≡ Some build → Lawful s x
    → StaysTheBuild build (build_of (after s x).active lane)

-- After a lawful step a build that was active and is no more was left by its own end.
abbrev pub BuildIsLeftByItsEnd : Type 0
BuildIsLeftByItsEnd = (s : State) (x : StoryStep) (lane : ℕ) (build : Build)
    → build_of s.active lane ≡ Some build → Lawful s x → build_of (after s x).active lane ≡ None
    → IsLeft s x lane build

-- A command that builds is finished by its refusal, or by the end of its build, and by nothing else: neither by a row, nor
-- by an answer, nor by a fault of the disk.
abbrev pub BuildIsFinishedByItsRefusalOrItsEndRefusal : Type 0
BuildIsFinishedByItsRefusalOrItsEndRefusal = (s : State) (x : StoryStep) (tag : Tag) (asked : Clearmake)
    → next_command s tag ≡ Some (commands.Build asked) → Lawful s x
    → done_of (after s x).done tag.lane ≡ done_of s.done tag.lane + 1 → IsRefused s x tag

-- The same law, its part *end*.
abbrev pub BuildIsFinishedByItsRefusalOrItsEndEnd : Type 0
BuildIsFinishedByItsRefusalOrItsEndEnd = (s : State) (x : StoryStep) (lane : ℕ) (build : Build)
    → build_of s.active lane ≡ Some build → Lawful s x
    → done_of (after s x).done lane ≡ done_of s.done lane + 1 → IsLeft s x lane build

-- An active build is the one of its lane's command, and its units are those that the command's build from nothing has at
-- the build's reference rows.
abbrev pub BuildIsOfItsCommand : Type 0
BuildIsOfItsCommand = (story : List StoryStep) (lane : ℕ) (build : Build) → Legal story
    → build_of (state_of story).active lane ≡ Some build → IsOfCommand (state_of story) lane build

-- What a started unit sees is the same before and after each lawful step, while its build goes on: the row that stands at
-- each path, and what the run of its script gives on the texts there.
abbrev pub StartedUnitSeesTheSameRun : Type 0
StartedUnitSeesTheSameRun = (story : List StoryStep) (x : StoryStep) (lane : ℕ) (old new : Build) (n : ℕ) (unit : Unit)
    → Legal story → Lawful (state_of story) x → build_of (state_of story).active lane ≡ Some old
    → build_of (after (state_of story) x).active lane ≡ Some new → unit_at old n ≡ Some unit
    → is_some (came_to old n) ≡ true
    → here (after (state_of story) x).base new n unit ≡ here (state_of story).base old n unit

-- The same law, its part *seen*.
abbrev pub StartedUnitSeesTheSameSeen : Type 0
StartedUnitSeesTheSameSeen = (story : List StoryStep) (x : StoryStep) (lane : ℕ) (old new : Build) (n : ℕ) (unit : Unit)
    (path : List ℕ)
    → Legal story → Lawful (state_of story) x → build_of (state_of story).active lane ≡ Some old
    → build_of (after (state_of story) x).active lane ≡ Some new → unit_at old n ≡ Some unit
    → is_some (came_to old n) ≡ true
    → visible (after (state_of story) x).base new n unit path ≡ visible (state_of story).base old n unit path

-- What a unit of an active build of a legal story sees at a path, and what its run gives on that, never changes when rows
-- are added.
abbrev pub WhatAUnitSeesStaysSeen : Type 0
WhatAUnitSeesStaysSeen = (story : List StoryStep) (lane : ℕ) (build : Build) (more : Base) (n : ℕ) (unit : Unit) (path : List ℕ)
    → Legal story → build_of (state_of story).active lane ≡ Some build
    → visible (more ++ (state_of story).base) build n unit path ≡ visible (state_of story).base build n unit path

-- The same law, its part *run*.
abbrev pub WhatAUnitSeesStaysRun : Type 0
WhatAUnitSeesStaysRun = (story : List StoryStep) (lane : ℕ) (build : Build) (more : Base) (n : ℕ) (unit : Unit)
    → Legal story → build_of (state_of story).active lane ≡ Some build
    → here (more ++ (state_of story).base) build n unit ≡ here (state_of story).base build n unit

-- What a build's view holds at a target of a unit is the same before and after each lawful step, until the unit has its
-- outcome: no other lane changes it under the unit.
abbrev pub PlaceOfAUnitStays : Type 0
PlaceOfAUnitStays = (story : List StoryStep) (x : StoryStep) (lane : ℕ) (old new : Build) (n : ℕ) (unit : Unit) (path : List ℕ)
    → Legal story → Lawful (state_of story) x → build_of (state_of story).active lane ≡ Some old
    → build_of (after (state_of story) x).active lane ≡ Some new → unit_at old n ≡ Some unit
    → is_outcome (came_to new n) ≡ false → makes path unit ≡ true
    → held_at (objects_held (after (state_of story) x).base) old.view path
    ≡ held_at (objects_held (state_of story).base) old.view path

-- Along a legal story each object that an active build has given to a unit is live, and the build's view holds it at every
-- target of the unit, whatever rows other lanes have committed since.
abbrev pub GivenObjectIsHeld : Type 0
GivenObjectIsHeld = (story : List StoryStep) (lane : ℕ) (build : Build) → Legal story
    → build_of (state_of story).active lane ≡ Some build → HoldsGiven (state_of story).base build

-- An active build is consistent with the base, whatever base was opened: its reference rows are a base within the rows of
-- now, its units are in order, each unit that has come to anything has its prerequisites over, and each object that a unit
-- was given or kept is a row with the unit's targets.
abbrev pub BuildIsConsistent : Type 0
BuildIsConsistent = (story : List StoryStep) (lane : ℕ) (build : Build) → Legal story
    → build_of (state_of story).active lane ≡ Some build → IsConsistent (state_of story).base build

-- What each unit of an active build has come to so far agrees with the build from nothing at the build's reference rows,
-- whatever rows were committed since and whatever objects it reused, where the base was sound as it was opened.
abbrev pub BuildAgrees : Type 0
BuildAgrees = (story : List StoryStep) (opening : Opening) (lane : ℕ) (build : Build)
    → Legal story → (state_of story).opened ≡ Some opening → IsSound opening.base
    → build_of (state_of story).active lane ≡ Some build → AgreesSoFar (state_of story).base build

-- A build that ends without a fault of the disk has, unit by unit, the outcome of the build from nothing at its reference
-- rows: an object with exactly the outputs of the run, or the same end without one. This holds where the base was sound as
-- it was opened.
abbrev pub EndedBuildHasItsOutcomesFromNothing : Type 0
EndedBuildHasItsOutcomesFromNothing = (story : List StoryStep) (opening : Opening) (x : StoryStep) (lane : ℕ) (build : Build)
    (n : ℕ) (unit : Unit)
    → Legal story → (state_of story).opened ≡ Some opening → IsSound opening.base
    → build_of (state_of story).active lane ≡ Some build → IsLeft (state_of story) x lane build
    → build.faulted ≡ false → unit_at build n ≡ Some unit
    → EndsAsFromNothing (state_of story).base build n unit

-- A build whose units all have their outcomes is replied as the build from nothing at its reference rows: unit by unit the
-- same success, fault or block, and the same length and digest. Where the disk failed under a build this holds as well,
-- but the build is replied a fault of the disk in place of these lines. This holds where the base was sound as it was
-- opened.
abbrev pub BuildIsAsFromNothing : Type 0
BuildIsAsFromNothing = (story : List StoryStep) (opening : Opening) (lane : ℕ) (build : Build)
    → Legal story → (state_of story).opened ≡ Some opening → IsSound opening.base
    → build_of (state_of story).active lane ≡ Some build → is_complete build ≡ true
    → reply_of (state_of story).base build ≡ reply_from_nothing (state_of story).base build
