-- What the steps of legal stories say of records: which objects units take in place of runs, that none that would do is passed
-- over, and what the record of a published object has. Each is promised by a function of `laws::taken`.
use Rattle.std.specs.Prelude.{◌≡◌, ℕ, suc, true, false, Some, None, Ok, is_some, List, ◌∷◌, ◌++◌}
use Rattle.cc_names.specs.Formed.{Plain}
use Rattle.cc_names.specs.Versions.{is_number}
use Rattle.cc_names.specs.declared.rows.Deed.TheVariants as deeds
use Rattle.cc_names.specs.declared.rows.ReadOf.{ReadOf}
use Rattle.cc_names.specs.declared.rows.Tag.{Tag}
use Rattle.cc_names.specs.declared.steps.StoryStep.{StoryStep}
use Rattle.cc_names.specs.declared.steps.StoryStep.TheVariants as story_steps
use Rattle.cc_names.specs.declared.steps.UnitEnd.TheVariants as ends
use Rattle.cc_names.specs.declared.units.Unit.{Unit}
use Rattle.base_model.specs.Rows.{deed_at}
use Rattle.legal_history.specs.Builds.Active.{Build, Started, came_to, unit_at, unit_with_first}
use Rattle.base_model.specs.Changes.{live_row, targets_of}
use Rattle.legal_history.specs.Builds.Choices.{entries, here, visible}
use Rattle.legal_history.specs.Builds.Fresh.{script_text}
use Rattle.legal_history.specs.Laws.Given.{SeenBy}
use Rattle.base_model.specs.Objects.{record_of, row_in, held_at_all}
use Rattle.legal_history.specs.Queries.RecordTexts.{recorded_script}
use Rattle.legal_history.specs.Builds.Reuse.{matches, reusable}
use Rattle.legal_history.specs.Builds.UnitTurns.{IsRunning}
use Rattle.legal_history.specs.Stories.States.{State, build_by}
use Rattle.legal_history.specs.Stories.Steps.{state_of}
use Rattle.legal_history.specs.Stories.Lawful.{Legal}

-- Unit n of the command's active build takes the object. It is live, it was published for the unit's targets by the unit's
-- script, and its record is of just what the unit sees: each entry names, at its path, an object that this build gave to an
-- earlier unit that makes the path and that this one needs, or the file of the view at the build's reference rows; and where
-- it says that nothing was there, the unit sees nothing.
pub record TakesWhatItSees (s : State) (tag : Tag) (n id : ℕ) : Type 0 where
  pub build : Build
  pub unit : Unit
  pub active : build_by s tag ≡ Some build
  pub is_unit : unit_at build n ≡ Some unit
  pub lives : is_some (live_row s.base id) ≡ true
  pub targets : targets_of s.base id ≡ unit.targets
  pub script : recorded_script s.base id ≡ script_text unit.script
  pub seen : (path : List ℕ) (r : ℕ) → row_in (record_of s.base id) path ≡ Some (suc r) → SeenBy s.base build n unit path (suc r)
  pub absent : (path : List ℕ) → row_in (record_of s.base id) path ≡ Some 0 → visible s.base build n unit path ≡ None

-- a unit of the command's active build takes the object, and this build is of the view
pub record ViewTakesWhatItSees (s : State) (tag : Tag) (view : List ℕ) (id : ℕ) : Type 0 where
  pub n : ℕ
  pub takes : TakesWhatItSees s tag n id
  pub of_view : takes.build.view ≡ view

-- the command's active build, which may reuse any object: it has neither `-V` nor `-u`
pub record ReusesAny (s : State) (tag : Tag) (build : Build) : Type 0 where
  pub active : build_by s tag ≡ Some build
  pub of_any : build.own_only ≡ false
  pub reuses : build.rebuild ≡ false

-- Unit n of the command's active build, whose script was started, publishes what its script's run on what it sees gives. The
-- record has an entry for each path that the run asked for, with the row that the unit sees there, or 0 where it sees nothing,
-- and no other.
pub record PublishesWhatItRead (s : State) (row : Plain) (targets : List (List ℕ)) (script : List ℕ) (listed : List ReadOf)
    (outputs : List (List ℕ)) : Type 0 where
  pub n : ℕ
  pub build : Build
  pub unit : Unit
  pub active : build_by s row.tag ≡ Some build
  pub is_unit : unit_at build n ≡ Some unit
  pub started : came_to build n ≡ Some Started
  pub targets_are : targets ≡ unit.targets
  pub script_is : script ≡ script_text unit.script
  pub entries_are : listed ≡ entries (visible s.base build n unit) (here s.base build n unit).reads
  pub outputs_are : (here s.base build n unit).result ≡ Ok outputs

-- Each object that a unit keeps in a legal story is live, of the unit's targets and script, and of just what the unit sees.
abbrev pub TakenRecordIsSeenKept : Type 0
TakenRecordIsSeenKept = (prefix rest : List StoryStep) (tag : Tag) (n id : ℕ)
    → Legal (prefix ++ story_steps.Concluded tag n (ends.Kept id) ∷ rest)
    → TakesWhatItSees (state_of prefix) tag n id

-- The same law, its part *winked*: so is each object that a view winks in, for a unit of a build of this view.
abbrev pub TakenRecordIsSeenWinked : Type 0
TakenRecordIsSeenWinked = (prefix rest : List StoryStep) (row : Plain) (tick : ℕ) (view : List ℕ) (id : ℕ)
    → Legal (prefix ++ story_steps.Commit row tick ∷ rest) → row.deed ≡ deeds.Wink view id
    → ViewTakesWhatItSees (state_of prefix) row.tag view id

-- A build without `-V` and `-u` starts no script in a legal story where the record of a live object matches its unit.
abbrev pub NothingIsPassedOverStart : Type 0
NothingIsPassedOverStart = (prefix rest : List StoryStep) (tag : Tag) (n : ℕ) (build : Build) (unit : Unit) (id : ℕ)
    → Legal (prefix ++ story_steps.Start tag n ∷ rest) → ReusesAny (state_of prefix) tag build
    → unit_at build n ≡ Some unit → is_some (live_row (state_of prefix).base id) ≡ true
    → matches (state_of prefix).base build n unit id ≡ false

-- The same law, its part *publish*: it publishes no record that a live object has, whoever published that.
abbrev pub NothingIsPassedOverPublish : Type 0
NothingIsPassedOverPublish = (prefix rest : List StoryStep) (row : Plain) (tick : ℕ) (build : Build) (id : ℕ)
    (view other : List ℕ) (targets : List (List ℕ)) (script : List ℕ) (entries : List ReadOf) (outputs stored : List (List ℕ))
    → Legal (prefix ++ story_steps.Commit row tick ∷ rest)
    → row.deed ≡ deeds.Publish view targets script entries outputs
    → ReusesAny (state_of prefix) row.tag build
    → deed_at (state_of prefix).base id ≡ Some (deeds.Publish other targets script entries stored)
    → is_some (live_row (state_of prefix).base id) ≡ false

-- The same law, its part *match*: it publishes no object for a unit that the record of a live object matches.
abbrev pub NothingIsPassedOverMatch : Type 0
NothingIsPassedOverMatch = (prefix rest : List StoryStep) (row : Plain) (tick : ℕ) (build : Build) (n : ℕ) (unit : Unit) (id : ℕ)
    (view : List ℕ) (targets : List (List ℕ)) (script : List ℕ) (listed : List ReadOf) (outputs : List (List ℕ))
    → Legal (prefix ++ story_steps.Commit row tick ∷ rest)
    → row.deed ≡ deeds.Publish view targets script listed outputs
    → ReusesAny (state_of prefix) row.tag build
    → unit_with_first build targets ≡ Some n → unit_at build n ≡ Some unit
    → is_some (live_row (state_of prefix).base id) ≡ true
    → matches (state_of prefix).base build n unit id ≡ false

-- Each object that is published in a legal story has a record of just what the run of its unit's script read.
abbrev pub PublishedRecordIsWhatWasRead : Type 0
PublishedRecordIsWhatWasRead = (prefix rest : List StoryStep) (row : Plain) (tick : ℕ)
    (view : List ℕ) (targets : List (List ℕ)) (script : List ℕ) (listed : List ReadOf) (outputs : List (List ℕ))
    → Legal (prefix ++ story_steps.Commit row tick ∷ rest)
    → row.deed ≡ deeds.Publish view targets script listed outputs
    → PublishesWhatItRead (state_of prefix) row targets script listed outputs

-- An object that a unit may reuse after its run was started is not the one that its build's view holds at every target: that
-- one was looked at before the start, did not match, and no other lane has changed it since.
abbrev pub FoundAfterTheStartIsNotHeld : Type 0
FoundAfterTheStartIsNotHeld = (story : List StoryStep) (tag : Tag) (n : ℕ) (build : Build) (unit : Unit) (id : ℕ)
    → Legal story → IsRunning (state_of story) tag n build unit
    → reusable (state_of story).base build n unit ≡ Some id
    → is_number id (held_at_all (state_of story).base build.view unit.targets) ≡ false
