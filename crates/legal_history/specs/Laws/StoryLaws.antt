-- What holds of every legal story. Each is promised by a function of `laws::stories`.
use Rattle.std.specs.Prelude.{◌≡◌, ℕ, ◌+◌, ◌≤◌, List, [], ◌∷◌, ◌++◌, Some, is_some, true}
use Rattle.cc_names.specs.Formed.{Plain}
use Rattle.cc_names.specs.References.{held_at}
use Rattle.cc_names.specs.declared.rows.Deed.TheVariants as deeds
use Rattle.cc_names.specs.declared.steps.StoryStep.{StoryStep}
use Rattle.cc_names.specs.declared.steps.StoryStep.TheVariants as story_steps
use Rattle.base_model.specs.Rows.{size, Extends}
use Rattle.legal_history.specs.Builds.Active.{Build, build_of}
use Rattle.base_model.specs.Changes.{objects_held, live_row}
use Rattle.base_model.specs.Fits.{is_base, row_limit}
use Rattle.legal_history.specs.Stories.Steps.{state_of}
use Rattle.legal_history.specs.Stories.Lawful.{Lawful, Legal}
use Rattle.legal_history.specs.Laws.Dues.{AreDue}
use Rattle.legal_history.specs.Laws.Ends.{AreRising}
use Rattle.legal_history.specs.Laws.Unfinished.{all_unfinished}

-- A legal story goes on by each step that is lawful in the state to which it has led, and by no other.
abbrev pub StoryGoesOnByALawfulStepOn : Type 0
StoryGoesOnByALawfulStepOn = (story : List StoryStep) (x : StoryStep) → Legal story
    → Lawful (state_of story) x → Legal (story ++ x ∷ [])

-- The same law, its part *last*.
abbrev pub StoryGoesOnByALawfulStepLast : Type 0
StoryGoesOnByALawfulStepLast = (story : List StoryStep) (x : StoryStep) → Legal (story ++ x ∷ [])
    → Lawful (state_of story) x

-- Along a legal story the rows stay a base: each fits those below it, the rows of commands and of builds alike.
abbrev pub BaseFits : Type 0
BaseFits = (story : List StoryStep) → Legal story → is_base (state_of story).base ≡ true

-- A front of a legal story is legal, and its base is that of the whole story without the rows made since.
abbrev pub BaseOnlyGrowsPrefix : Type 0
BaseOnlyGrowsPrefix = (prefix rest : List StoryStep) → Legal (prefix ++ rest) → Legal prefix

-- The same law, its part *base*.
abbrev pub BaseOnlyGrowsBase : Type 0
BaseOnlyGrowsBase = (prefix rest : List StoryStep) → Legal (prefix ++ rest)
    → Extends (state_of prefix).base (state_of (prefix ++ rest)).base

-- Along a legal story the rows of the base, and one more for each unit of an active build that has no outcome, stay within
-- the limit of rows.
abbrev pub RowsStayWithinTheLimit : Type 0
RowsStayWithinTheLimit = (story : List StoryStep) → Legal story
    → size (state_of story).base + all_unfinished (state_of story).active ≤ row_limit

-- Along a legal story the disk's ticks at commits and faults rise, and each fault has a rise of the count of faults that
-- no earlier one has.
abbrev pub TicksRise : Type 0
TicksRise = (story : List StoryStep) → Legal story
    → AreRising (state_of story).opened (state_of story).ends

-- Along a legal story no two active builds are of one view.
abbrev pub ViewHasOneBuild : Type 0
ViewHasOneBuild = (story : List StoryStep) (lane other : ℕ) (one two : Build) → Legal story
    → build_of (state_of story).active lane ≡ Some one
    → build_of (state_of story).active other ≡ Some two → one.view ≡ two.view → lane ≡ other

-- Each scrub that is committed in a legal story lists exactly the objects that are due there.
abbrev pub ScrubOfAStoryListsWhatIsDue : Type 0
ScrubOfAStoryListsWhatIsDue = (prefix rest : List StoryStep) (row : Plain) (tick : ℕ) (objects : List ℕ)
    → Legal (prefix ++ story_steps.Commit row tick ∷ rest) → row.deed ≡ deeds.Scrub objects
    → AreDue (state_of prefix) row.tag objects

-- At each step of a legal story every object that a view holds at a path is live.
abbrev pub HeldObjectIsLiveAtEachStep : Type 0
HeldObjectIsLiveAtEachStep = (prefix rest : List StoryStep) (v path : List ℕ) (id : ℕ)
    → Legal (prefix ++ rest) → held_at (objects_held (state_of prefix).base) v path ≡ Some id
    → is_some (live_row (state_of prefix).base id) ≡ true
