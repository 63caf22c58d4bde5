-- What an object is worth that a unit takes in place of a run, and how a base stays sound. Each is promised by a function of
-- `laws::reuse`.
use Rattle.std.specs.Prelude.{◌≡◌, ℕ, suc, List, [], ◌∷◌, Some, None, is_some, true, false}
use Rattle.cc_names.specs.Formed.{Plain}
use Rattle.cc_names.specs.declared.rows.Deed.TheVariants as deeds
use Rattle.cc_names.specs.declared.rows.Tag.{Tag}
use Rattle.cc_names.specs.declared.steps.StoryStep.{StoryStep}
use Rattle.cc_names.specs.declared.steps.UnitEnd.TheVariants as ends
use Rattle.cc_names.specs.declared.units.Unit.{Unit}
use Rattle.base_model.specs.Rows.{Base, size, deed_at}
use Rattle.legal_history.specs.Builds.Active.{Build, build_of, unit_at, Concluded, Given, unit_with_first}
use Rattle.base_model.specs.Changes.{live_row, targets_of}
use Rattle.legal_history.specs.Builds.Choices.{here, visible, entries, publish_of}
use Rattle.base_model.specs.Closures.{is_publish_deed}
use Rattle.base_model.specs.Fits.{is_base}
use Rattle.legal_history.specs.Builds.Fresh.{script_text}
use Rattle.legal_history.specs.Builds.Freshness.{AgreesSoFar}
use Rattle.legal_history.specs.Laws.FromNothing.{IsAsFromNothing, MayRun, MayTake}
use Rattle.legal_history.specs.Laws.Given.{IsHeld, SeenBy}
use Rattle.legal_history.specs.Laws.Objects.{GivesLive, IsTheRun}
use Rattle.base_model.specs.Objects.{record_of, row_in, held_at_all}
use Rattle.legal_history.specs.Builds.Reuse.{matches, reusable}
use Rattle.legal_history.specs.Stories.States.{State, Opening}
use Rattle.legal_history.specs.Stories.Steps.{state_of, with_came}
use Rattle.legal_history.specs.Stories.Lawful.{Legal}
use Rattle.legal_history.specs.Builds.Values.{is_true, IsSound}

-- Along a legal story a base that was sound as it was opened stays sound; so one that was opened without rows is sound.
abbrev pub BaseStaysSoundStays : Type 0
BaseStaysSoundStays = (story : List StoryStep) (opening : Opening) → Legal story
    → (state_of story).opened ≡ Some opening → IsSound opening.base → IsSound (state_of story).base

-- The same law, its part *from_nothing*.
abbrev pub BaseStaysSoundFromNothing : Type 0
BaseStaysSoundFromNothing = (story : List StoryStep) (opening : Opening) → Legal story
    → (state_of story).opened ≡ Some opening → opening.base ≡ [] → IsSound (state_of story).base

-- A row leaves a sound base sound, whatever it is, where an object that it publishes is true.
abbrev pub RowLeavesABaseSound : Type 0
RowLeavesABaseSound = (row : Plain) (b : Base) → IsSound b
    → (is_publish_deed (Some row.deed) ≡ true → is_true (row ∷ b) (size b) ≡ true)
    → IsSound (row ∷ b)

-- An object that a unit's run publishes is true: its record, run again, gives its outputs and asks for nothing else.
abbrev pub PublishedObjectIsTrue : Type 0
PublishedObjectIsTrue = (row : Plain) (b : Base) (build : Build) (n : ℕ) (unit : Unit)
    → is_base b ≡ true → IsSound b → GivesLive b build → publish_of b build n unit ≡ Some row.deed
    → is_true (row ∷ b) (size b) ≡ true

-- Each entry of a record that matches a unit names, at its path, an object that the unit's build gave to an earlier unit
-- that makes the path and that this one needs, or the file of the view at the build's reference rows; and where it says
-- that nothing was there, the unit sees nothing.
abbrev pub MatchingEntryIsSeenRow : Type 0
MatchingEntryIsSeenRow = (b : Base) (build : Build) (n : ℕ) (unit : Unit) (id : ℕ) (path : List ℕ) (r : ℕ)
    → matches b build n unit id ≡ true → row_in (record_of b id) path ≡ Some (suc r)
    → SeenBy b build n unit path (suc r)

-- The same law, its part *absent*.
abbrev pub MatchingEntryIsSeenAbsent : Type 0
MatchingEntryIsSeenAbsent = (b : Base) (build : Build) (n : ℕ) (unit : Unit) (id : ℕ) (path : List ℕ)
    → matches b build n unit id ≡ true → row_in (record_of b id) path ≡ Some 0
    → visible b build n unit path ≡ None

-- A true object whose record matches a unit has stored what a run of the unit's script gives on what the unit sees, where
-- the base is sound and each object that the build has given so far is live.
abbrev pub MatchIsTheRun : Type 0
MatchIsTheRun = (b : Base) (build : Build) (n : ℕ) (unit : Unit) (id : ℕ) → is_base b ≡ true
    → IsSound b → GivesLive b build → is_true b id ≡ true → matches b build n unit id ≡ true
    → IsTheRun b build n unit id

-- The object that a unit may reuse, kept or winked in, has stored what a run of the unit's script gives on what the unit
-- sees: to reuse it is to build it.
abbrev pub ReusableObjectIsTheRun : Type 0
ReusableObjectIsTheRun = (b : Base) (build : Build) (n : ℕ) (unit : Unit) (id : ℕ)
    → is_base b ≡ true → IsSound b → GivesLive b build → reusable b build n unit ≡ Some id
    → IsTheRun b build n unit id

-- Where a unit of a build without `-V` and `-u` may reuse nothing, no live object's record matches it: no object that
-- would do is passed over. So no live object has the record that the unit would publish.
abbrev pub NoMatchIsPassedOverLive : Type 0
NoMatchIsPassedOverLive = (b : Base) (build : Build) (n : ℕ) (unit : Unit) (id : ℕ)
    → build.own_only ≡ false → build.rebuild ≡ false → reusable b build n unit ≡ None
    → is_some (live_row b id) ≡ true → matches b build n unit id ≡ false

-- The same law, its part *record_is_new*.
abbrev pub NoMatchIsPassedOverRecordIsNew : Type 0
NoMatchIsPassedOverRecordIsNew = (b : Base) (build : Build) (n : ℕ) (unit : Unit) (id : ℕ) (v : List ℕ) (outputs : List (List ℕ))
    → is_base b ≡ true → GivesLive b build → build.own_only ≡ false → build.rebuild ≡ false
    → reusable b build n unit ≡ None
    → deed_at b id ≡ Some (deeds.Publish v unit.targets (script_text unit.script)
    (entries (visible b build n unit) (here b build n unit).reads) outputs)
    → is_some (live_row b id) ≡ false

-- An object that a unit keeps, since its view holds it at every target, and one that it winks in, are live and held by the
-- build's view at every target of the unit.
abbrev pub WhatIsReusedIsHeldKept : Type 0
WhatIsReusedIsHeldKept = (b : Base) (build : Build) (n : ℕ) (unit : Unit) (id : ℕ)
    → is_base b ≡ true → unit_at build n ≡ Some unit
    → held_at_all b build.view unit.targets ≡ Some id → IsHeld b build n id

-- The same law, its part *winked*.
abbrev pub WhatIsReusedIsHeldWinked : Type 0
WhatIsReusedIsHeldWinked = (row : Plain) (b : Base) (build : Build) (n : ℕ) (unit : Unit) (id : ℕ)
    → is_base b ≡ true → unit_at build n ≡ Some unit
    → unit_with_first build (targets_of b id) ≡ Some n → reusable b build n unit ≡ Some id
    → row.deed ≡ deeds.Wink build.view id → IsHeld (row ∷ b) build n id

-- At each moment of a legal story over a base that was sound as it was opened, a live object whose record matches a unit
-- of an active build has stored what a run of the unit's script gives on what the unit sees. Such is the object that the
-- unit may reuse; and where the unit may take one, it is what the unit comes to in the build from nothing at the build's
-- reference rows, whatever came between.
abbrev pub ReuseIsARebuildMatched : Type 0
ReuseIsARebuildMatched = (story : List StoryStep) (opening : Opening) (lane : ℕ) (build : Build) (n : ℕ) (unit : Unit) (id : ℕ)
    → Legal story → (state_of story).opened ≡ Some opening → IsSound opening.base
    → build_of (state_of story).active lane ≡ Some build
    → is_some (live_row (state_of story).base id) ≡ true
    → matches (state_of story).base build n unit id ≡ true
    → IsTheRun (state_of story).base build n unit id

-- The same law, its part *run*.
abbrev pub ReuseIsARebuildRun : Type 0
ReuseIsARebuildRun = (story : List StoryStep) (opening : Opening) (lane : ℕ) (build : Build) (n : ℕ) (unit : Unit) (id : ℕ)
    → Legal story → (state_of story).opened ≡ Some opening → IsSound opening.base
    → build_of (state_of story).active lane ≡ Some build
    → reusable (state_of story).base build n unit ≡ Some id
    → IsTheRun (state_of story).base build n unit id

-- The same law, its part *from_nothing*.
abbrev pub ReuseIsARebuildFromNothing : Type 0
ReuseIsARebuildFromNothing = (story : List StoryStep) (opening : Opening) (tag : Tag) (n : ℕ) (build : Build) (unit : Unit)
    (id : ℕ)
    → Legal story → (state_of story).opened ≡ Some opening → IsSound opening.base
    → MayTake (state_of story) tag n build unit
    → reusable (state_of story).base build n unit ≡ Some id
    → IsAsFromNothing (state_of story).base build n unit id

-- A lawful step that reuse takes finds a unit that may run: where a unit may take an object in place of a run, it was started and
-- has no outcome, or its prerequisites have theirs and nothing ends it without a run.
abbrev pub UnitThatMayTakeAnObjectMayRun : Type 0
UnitThatMayTakeAnObjectMayRun = (s : State) (tag : Tag) (n : ℕ) (build : Build) (unit : Unit)
    → MayTake s tag n build unit → MayRun s.base build n unit

-- To keep is to build: in a sound base, where what the units of a build have come to so far agrees with the build from
-- nothing and the objects that it was given are live, both are still so when a unit that may run keeps the object that it
-- may reuse.
abbrev pub KeptObjectAgreesAgrees : Type 0
KeptObjectAgreesAgrees = (b : Base) (build : Build) (n : ℕ) (unit : Unit) (id : ℕ)
    → is_base b ≡ true → IsSound b → GivesLive b build → AgreesSoFar b build
    → unit_at build n ≡ Some unit → MayRun b build n unit → reusable b build n unit ≡ Some id
    → AgreesSoFar b (with_came build (Some n) (Concluded (ends.Kept id)))

-- The same law, its part *lives*.
abbrev pub KeptObjectAgreesLives : Type 0
KeptObjectAgreesLives = (b : Base) (build : Build) (n : ℕ) (unit : Unit) (id : ℕ) → is_base b ≡ true
    → GivesLive b build → reusable b build n unit ≡ Some id
    → GivesLive b (with_came build (Some n) (Concluded (ends.Kept id)))

-- To wink in is to build: in a sound base, where what the units of a build have come to so far agrees with the build from
-- nothing and the objects that it was given are live, all three are still so over the base with the next row, by which the
-- view winks in the object that a unit that may run may reuse.
abbrev pub WinkedObjectAgreesAgrees : Type 0
WinkedObjectAgreesAgrees = (row : Plain) (b : Base) (build : Build) (n : ℕ) (unit : Unit) (id : ℕ)
    → is_base b ≡ true → IsSound b → GivesLive b build → AgreesSoFar b build
    → unit_at build n ≡ Some unit → MayRun b build n unit → reusable b build n unit ≡ Some id
    → row.deed ≡ deeds.Wink build.view id
    → AgreesSoFar (row ∷ b) (with_came build (Some n) (Given id))

-- The same law, its part *lives*.
abbrev pub WinkedObjectAgreesLives : Type 0
WinkedObjectAgreesLives = (row : Plain) (b : Base) (build : Build) (n : ℕ) (unit : Unit) (id : ℕ)
    → is_base b ≡ true → GivesLive b build → reusable b build n unit ≡ Some id
    → row.deed ≡ deeds.Wink build.view id
    → GivesLive (row ∷ b) (with_came build (Some n) (Given id))

-- The same law, its part *sound*.
abbrev pub WinkedObjectAgreesSound : Type 0
WinkedObjectAgreesSound = (row : Plain) (b : Base) (view : List ℕ) (id : ℕ) → IsSound b
    → row.deed ≡ deeds.Wink view id → IsSound (row ∷ b)
