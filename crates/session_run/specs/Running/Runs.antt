-- What running the phases of a session does to the story, to the sink and to the clock.
use Rattle.std.specs.Prelude.{◌≡◌, ◌⊎◌, ℕ, ◌+◌, ◌<◌, ◌≤◌, Bool, true, false, Option, Some, IfSome, Result, Ok, Err, List, [], ◌∷◌, length}
use Rattle.std.specs.List.{AllByRecursion}
use Rattle.std.specs.Io.KnownBytes.{Appends}
use Rattle.cc_names.specs.Formed.{Plain}
use Rattle.cc_names.specs.declared.commands.Phase.{Phase}
use Rattle.cc_names.specs.declared.memory.Or.{Or}
use Rattle.cc_names.specs.declared.memory.Or.TheVariants.{NoMemory, Is}
use Rattle.cc_names.specs.declared.steps.Counts.{Counts}
use Rattle.cc_names.specs.declared.steps.StoryStep.{StoryStep}
use Rattle.cc_names.specs.declared.steps.StoryStep.TheVariants as story_steps
use Rattle.cc_names.specs.Counts.{Rose, raised_count}
use Rattle.cc_outside.specs.Feeds.{AppendsPrefix}
use Rattle.cc_outside.specs.GhostStates.{ClockState, SinkState}
use Rattle.cc_outside.specs.declared.sinks.WriteFault.{WriteFault}
use Rattle.session_text.specs.Formed.{IsPhase}
use Rattle.legal_history.specs.Stories.States.{all_done}
use Rattle.legal_history.specs.Stories.Steps.{state_of}
use Rattle.session_run.specs.Calls.Asked.{text_limit}
use Rattle.session_run.specs.Promises.Headline.{EndsAtTranscript, IsCutAtLast, clock_moments}
use Rattle.session_run.specs.Story.Begun.{IsPrefixOf, phases_begun, moments_begun, is_opened}
use Rattle.session_run.specs.Story.Rendered.{earlier_text, text_of_story, has_failure}
use Rattle.session_run.specs.declared.statuses.Status.{Status}
use Rattle.session_run.specs.declared.statuses.Status.TheVariants as statuses
use Rattle.session_run.specs.declared.words.Form.TheVariants as forms

-- a base was opened, and nothing was done since
pub record IsJustOpened (story : List StoryStep) : Type 0 where
  pub rows : List Plain
  pub counts : Counts
  pub tells : Bool
  pub is : story ≡ story_steps.Opened rows counts tells ∷ []

-- a phase that can be run: it has the form of one
abbrev pub IsReadyPhase : Phase → Type 0
IsReadyPhase phase = IsPhase text_limit phase

-- a session whose phases can be run
pub record IsRunnable (phases : List Phase) : Type 0 where
  pub few : length phases ≤ text_limit
  pub ready : AllByRecursion IsReadyPhase phases

-- the outside of a run: what the sink held and holds, what the clock tells, and its reading then and now
pub record Outside : Type 0 where
  pub held : Option (List ℕ)
  pub holds : Option (List ℕ)
  pub moments : Option (List ℕ)
  pub first : ℕ
  pub reading : ℕ

-- the outside of a run by how its sink and its clock were seen before and after
abbrev pub outside_of : SinkState → SinkState → ClockState → ClockState → Outside
outside_of sink new_sink clock new_clock =
    record {
      held = sink.held;
      holds = new_sink.held;
      moments = clock.modeled;
      first = clock.readings;
      reading = new_clock.readings;
    }

-- these phases have been run, and their transcripts written
pub record HasRunPhases (phases : List Phase) (story : List StoryStep) (outside : Outside) (failed : Bool) : Type 0 where
  pub opened : is_opened story ≡ true
  pub phases_are : phases_begun story ≡ phases
  pub number : (state_of story).number ≡ length phases
  pub finished : all_done (state_of story) ≡ true
  pub moments_are : IfSome outside.moments (λ modeled. moments_begun story ≡ clock_moments modeled outside.first (length phases))
  pub reading_is : outside.reading ≡ raised_count outside.first (length phases)
  pub failures : has_failure story ≡ failed
  pub written : Appends outside.held outside.holds (text_of_story story)

-- a text was cut short: where memory ran out nothing of it was written
abbrev pub WritesCut : Or WriteFault → Option (List ℕ) → Option (List ℕ) → List ℕ → Type 0
WritesCut NoMemory old new text = new ≡ old
WritesCut (Is fault) old new text = AppendsPrefix old new text

-- where the sink failed, its last transcript is cut
abbrev pub IsCutBy : Or WriteFault → List StoryStep → Option (List ℕ) → Option (List ℕ) → Type 0
IsCutBy NoMemory story old new = EndsAtTranscript (Some forms.Run) story old new
IsCutBy (Is fault) story old new = IsCutAtLast story (earlier_text story) old new

-- How often the clock was read in a story of some of so many phases: once for each that began, or where memory ran out before the
-- next one began, perhaps once more.
abbrev pub ReadsBy : Or WriteFault → ℕ → List StoryStep → Outside → Type 0
ReadsBy NoMemory all story outside = (outside.reading ≡ raised_count outside.first (length (phases_begun story)))
    ⊎ ((length (phases_begun story) < all) × (all_done (state_of story) ≡ true)
    × (outside.reading ≡ raised_count outside.first (length (phases_begun story) + 1)))
ReadsBy (Is fault) all story outside = outside.reading ≡ raised_count outside.first (length (phases_begun story))

-- the run of these phases was given up
pub record IsRunGivenUp (cut : Or WriteFault) (phases : List Phase) (story : List StoryStep) (outside : Outside) : Type 0 where
  pub opened : is_opened story ≡ true
  pub begun : IsPrefixOf (phases_begun story) phases
  pub moments_are : IfSome outside.moments (λ modeled. moments_begun story
      ≡ clock_moments modeled outside.first (length (moments_begun story)))
  pub reading_is : ReadsBy cut (length phases) story outside
  pub written : AppendsPrefix outside.held outside.holds (text_of_story story)
  pub cut_at : IsCutBy cut story outside.held outside.holds

-- the sink's count of faults before and after a text was cut short: it rose where the sink failed,
-- and is as it was where memory ran out
abbrev pub CountsCut : Or WriteFault → ℕ → ℕ → Type 0
CountsCut NoMemory before after = after ≡ before
CountsCut (Is fault) before after = Rose before after

-- the same before and after a text was to be written
abbrev pub CountsWriteFaults : {X : Type 0} → Result X (Or WriteFault) → ℕ → ℕ → Type 0
CountsWriteFaults (Ok x) before after = after ≡ before
CountsWriteFaults (Err cut) before after = CountsCut cut before after

-- the status of a call that opened a base, by whether a failure is told and whether the disk's faults rose
abbrev pub run_status : Result Bool (Or WriteFault) → Bool → Status
run_status (Ok failed) true = statuses.DiskFault
run_status (Ok false) false = statuses.Good
run_status (Ok true) false = statuses.SomeFailed
run_status (Err NoMemory) rose = statuses.NoMemory
run_status (Err (Is fault)) rose = statuses.WriteFault
