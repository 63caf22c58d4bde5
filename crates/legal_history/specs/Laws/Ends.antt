-- The ends of a story in their order, and how a build is left.
use Rattle.std.specs.Bool.{⊤}
use Rattle.std.specs.Prelude.{◌≡◌, ℕ, ◌≤◌, true, ◌||◌, Option, Some, Err, List, [], ◌∷◌}
use Rattle.cc_names.specs.declared.refusals.Refusal.{Refusal}
use Rattle.cc_names.specs.declared.rows.Tag.{Tag}
use Rattle.cc_names.specs.declared.steps.StoryStep.{StoryStep}
use Rattle.cc_names.specs.declared.steps.StoryStep.TheVariants as story_steps
use Rattle.legal_history.specs.Builds.Active.{Build}
use Rattle.legal_history.specs.Stories.States.{State, Opening, End, Committed, Faulted, build_by, decision_for, ticks_of}
use Rattle.legal_history.specs.Stories.States.{faults_of}
use Rattle.cc_names.specs.Counts.{rises}
use Rattle.legal_history.specs.Builds.Turns.{is_complete}

-- a fault of the disk has a rise of the disk's count of faults that no earlier fault has
pub record RoseBy (earlier faults : ℕ) : Type 0 where
  pub before : ℕ
  pub later : earlier ≤ before
  pub rose : rises before faults ≡ true

-- Ends, newest first: each came at a later tick than the one before it, and each fault has a rise of its own.
abbrev pub AreRising : Option Opening → List End → Type 0
AreRising opened [] = ⊤
AreRising opened (Committed row tick ∷ ends) = (rises (ticks_of opened ends) tick ≡ true) × AreRising opened ends
AreRising opened (Faulted left faults tick ∷ ends) =
    (rises (ticks_of opened ends) tick ≡ true) × RoseBy (faults_of opened ends) faults × AreRising opened ends

-- The command of this tag is finished by its refusal.
pub record IsRefused (s : State) (x : StoryStep) (tag : Tag) : Type 0 where
  pub refusal : Refusal
  pub is : x ≡ story_steps.Refused tag refusal
  pub decided_so : decision_for s tag ≡ Some (Err refusal)

-- A build is left by its own end, which comes once each of its units has its outcome or the disk failed under it.
pub record IsLeft (s : State) (x : StoryStep) (lane : ℕ) (build : Build) : Type 0 where
  pub tag : Tag
  pub is : x ≡ story_steps.End tag
  pub of_lane : tag.lane ≡ lane
  pub active : build_by s tag ≡ Some build
  pub over : (is_complete build || build.faulted) ≡ true
