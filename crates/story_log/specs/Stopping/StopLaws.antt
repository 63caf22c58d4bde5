-- A base that was found, and what is promised of it. Each law is promised by a function of `laws`.
use Rattle.std.specs.Prelude.{◌≡◌, ℕ, true, Some, List}
use Rattle.cc_names.specs.Formed.{IsFormed}
use Rattle.cc_names.specs.declared.steps.StoryStep.{StoryStep}
use Rattle.disk_model.specs.Devices.{Device}
use Rattle.disk_model.specs.DiskStates.{DiskState}
use Rattle.base_model.specs.Rows.{Base}
use Rattle.base_model.specs.Fits.{is_base}
use Rattle.legal_history.specs.Builds.Values.{IsSound}
use Rattle.legal_history.specs.Stories.States.{Opening}
use Rattle.legal_history.specs.Stories.Steps.{state_of}
use Rattle.legal_history.specs.Stories.Lawful.{Legal}
use Rattle.story_log.specs.Story.Handed.{Handed}
use Rattle.story_log.specs.Bases.Opening.{IsBaseOn}
use Rattle.story_log.specs.Story.Formed.{AreFormed, TellsOnly}
use Rattle.story_log.specs.Stored.Damaged.{IsUndamaged}
use Rattle.story_log.specs.Stored.Founds.{FoundFiles, Represents}
use Rattle.story_log.specs.Stored.Opened.{IsOpenedAs}
use Rattle.story_log.specs.Stored.Payloads.{payloads}
use Rattle.story_log.specs.Stored.Stops.{found_on}
use Rattle.story_log.specs.Stopping.Standing.{MayBeFound}

-- What was found represents a base, each of whose rows fits those before it; it is sound where the base was sound that had been
-- opened.
pub record SpellsBase (opened : Base) (found : FoundFiles) : Type 0 where
  pub base : Base
  pub good : is_base base ≡ true
  pub is : Represents found base
  pub sound : IsSound opened → IsSound base

-- What was found opens again: it spells formed rows that may follow one another, so none of its frames is damaged; it spells no
-- other formed rows, and the base that they open to is one of formed rows, each of which fits those before it. That base is sound
-- where the one was that had been opened.
pub record OpensAgain (opened : Base) (found : FoundFiles) : Type 0 where
  pub base : Base
  pub good : is_base base ≡ true
  pub formed : AreFormed base
  pub is : IsOpenedAs found base
  pub undamaged : IsUndamaged found
  pub one : (other : Base) → AreFormed other → found.frames ≡ payloads other → other ≡ is.stored
  pub sound : IsSound opened → IsSound base

-- Whatever a stop may find of a legal story represents a base: that of the commits so far, or that and a row which a command
-- would have committed there.
abbrev pub StopLeavesABase : Type 0
StopLeavesABase = (story : List StoryStep) (opening : Opening) (k : ℕ) (found : FoundFiles)
    → Legal story → (state_of story).opened ≡ Some opening
    → MayBeFound opening (state_of story).ends k found → SpellsBase opening.base found

-- Where the story names only formed rows, whatever a stop may find opens again.
abbrev pub StopOpensAgain : Type 0
StopOpensAgain = (story : List StoryStep) (opening : Opening) (k : ℕ) (found : FoundFiles)
    → Legal story → TellsOnly IsFormed story → (state_of story).opened ≡ Some opening
    → MayBeFound opening (state_of story).ends k found → OpensAgain opening.base found

-- So who opens what was found begins on a sound base: whatever base is opened on a disk that reads so is sound, where the one
-- was that had been opened before.
abbrev pub FoundBaseIsSound : Type 0
FoundBaseIsSound = (opened base : Base) (disk : DiskState) (device : Device) (handed : Handed)
    → disk.modeled ≡ Some device → OpensAgain opened (found_on device)
    → IsBaseOn disk base handed → IsSound opened → IsSound base
