-- What the headline says of builds that reuse objects: when their units come to what they come to from nothing, which objects
-- they take, that none that would do is passed over, and what the record of a published object has.
use Rattle.std.specs.Prelude.{◌≡◌, ℕ, true, false, Some, is_some, List, [], ◌∷◌, ◌++◌}
use Rattle.cc_names.specs.Formed.{Plain}
use Rattle.cc_names.specs.declared.rows.Deed.TheVariants as deeds
use Rattle.cc_names.specs.declared.rows.ReadOf.{ReadOf}
use Rattle.cc_names.specs.declared.rows.Tag.{Tag}
use Rattle.cc_names.specs.declared.steps.StoryStep.{StoryStep}
use Rattle.cc_names.specs.declared.steps.StoryStep.TheVariants as story_steps
use Rattle.cc_names.specs.declared.steps.UnitEnd.TheVariants as ends
use Rattle.cc_names.specs.declared.units.Unit.{Unit}
use Rattle.base_model.specs.Changes.{live_row}
use Rattle.base_model.specs.Rows.{deed_at}
use Rattle.legal_history.specs.Builds.Values.{IsSound}
use Rattle.legal_history.specs.Builds.Active.{Build, unit_at, unit_with_first}
use Rattle.legal_history.specs.Builds.Reuse.{matches}
use Rattle.legal_history.specs.Laws.FromNothing.{EndsAsFromNothing}
use Rattle.legal_history.specs.Laws.TakenLaws.{PublishesWhatItRead, ReusesAny, TakesWhatItSees, ViewTakesWhatItSees}
use Rattle.legal_history.specs.Stories.Lawful.{Legal}
use Rattle.legal_history.specs.Stories.States.{Opening, build_by}
use Rattle.legal_history.specs.Stories.Steps.{state_of}

-- Where a base was opened, it is sound: each live object of it has stored just what its record gives when it is run again.
pub record WasSound (story : List StoryStep) : Type 0 where
  pub base : (opening : Opening) → (state_of story).opened ≡ Some opening → IsSound opening.base

-- *Outcomes*: each build of the history that ends, and under which no disk failed, has unit by unit the outcome of building from
-- nothing at its reference rows: an object with exactly the outputs of the run, or the same end without one.
pub record HaveTheirOutcomes (story : List StoryStep) : Type 0 where
  pub each : (prefix rest : List StoryStep) (tag : Tag) (build : Build) (n : ℕ) (unit : Unit)
      → story ≡ prefix ++ story_steps.End tag ∷ rest
      → build_by (state_of prefix) tag ≡ Some build → build.faulted ≡ false
      → unit_at build n ≡ Some unit → EndsAsFromNothing (state_of prefix).base build n unit

-- *Reused*: each object that a unit keeps, and each that its view winks in for one, is live, was published for the unit's targets
-- by the unit's script, and has a record of just what the unit sees.
pub record TakeWhatTheySee (story : List StoryStep) : Type 0 where
  pub kept : (prefix rest : List StoryStep) (tag : Tag) (n id : ℕ)
      → story ≡ prefix ++ story_steps.Concluded tag n (ends.Kept id) ∷ rest
      → TakesWhatItSees (state_of prefix) tag n id
  pub winked : (prefix rest : List StoryStep) (row : Plain) (tick : ℕ) (view : List ℕ) (id : ℕ)
      → story ≡ prefix ++ story_steps.Commit row tick ∷ rest → row.deed ≡ deeds.Wink view id
      → ViewTakesWhatItSees (state_of prefix) row.tag view id

-- *Recorded*: each object that is published has a record of just what its unit's script read: an entry for each path that the run
-- asked for, with the row that the unit sees there, or 0 where it sees nothing, and no other.
pub record RecordWhatTheyRead (story : List StoryStep) : Type 0 where
  pub each : (prefix rest : List StoryStep) (row : Plain) (tick : ℕ) (view : List ℕ) (targets : List (List ℕ))
      (script : List ℕ) (listed : List ReadOf) (outputs : List (List ℕ))
      → story ≡ prefix ++ story_steps.Commit row tick ∷ rest
      → row.deed ≡ deeds.Publish view targets script listed outputs
      → PublishesWhatItRead (state_of prefix) row targets script listed outputs

-- *Sought*: a build without `-V` and `-u` starts no script where the record of a live object matches its unit, publishes none for
-- such a unit, and publishes no record that a live object has.
pub record PassNothingOver (story : List StoryStep) : Type 0 where
  pub started : (prefix rest : List StoryStep) (tag : Tag) (n : ℕ) (build : Build) (unit : Unit) (id : ℕ)
      → story ≡ prefix ++ story_steps.Start tag n ∷ rest → ReusesAny (state_of prefix) tag build
      → unit_at build n ≡ Some unit → is_some (live_row (state_of prefix).base id) ≡ true
      → matches (state_of prefix).base build n unit id ≡ false
  pub published : (prefix rest : List StoryStep) (row : Plain) (tick : ℕ) (build : Build) (id : ℕ)
      (view other : List ℕ) (targets : List (List ℕ)) (script : List ℕ)
      (entries : List ReadOf) (outputs stored : List (List ℕ))
      → story ≡ prefix ++ story_steps.Commit row tick ∷ rest
      → row.deed ≡ deeds.Publish view targets script entries outputs
      → ReusesAny (state_of prefix) row.tag build
      → deed_at (state_of prefix).base id ≡ Some (deeds.Publish other targets script entries stored)
      → is_some (live_row (state_of prefix).base id) ≡ false
  pub matched : (prefix rest : List StoryStep) (row : Plain) (tick : ℕ) (build : Build) (n : ℕ) (unit : Unit) (id : ℕ)
      (view : List ℕ) (targets : List (List ℕ)) (script : List ℕ) (listed : List ReadOf) (outputs : List (List ℕ))
      → story ≡ prefix ++ story_steps.Commit row tick ∷ rest
      → row.deed ≡ deeds.Publish view targets script listed outputs
      → ReusesAny (state_of prefix) row.tag build
      → unit_with_first build targets ≡ Some n → unit_at build n ≡ Some unit
      → is_some (live_row (state_of prefix).base id) ≡ true
      → matches (state_of prefix).base build n unit id ≡ false

-- something holds of each legal history
abbrev pub OfEachLegal : (List StoryStep → Type 0) → Type 0
OfEachLegal P = (story : List StoryStep) → Legal story → P story

-- A base that was opened without rows was sound.
abbrev pub NewBaseWasSound : Type 0
NewBaseWasSound = (story : List StoryStep) (opening : Opening)
    → (state_of story).opened ≡ Some opening → opening.base ≡ [] → WasSound story
