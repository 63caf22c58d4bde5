-- What became of the form of a call on a base that was opened: it was carried out, or given up.
use Rattle.std.specs.Prelude.{◌≡◌, ◌≤◌, Bool, true, Some, IfSome, Result, Ok, Err, List, length}
use Rattle.std.specs.Io.KnownBytes.{Appends}
use Rattle.cc_names.specs.declared.commands.Phase.{Phase}
use Rattle.cc_names.specs.declared.memory.Or.{Or}
use Rattle.cc_names.specs.declared.memory.Or.TheVariants.{NoMemory, Is}
use Rattle.cc_names.specs.declared.steps.StoryStep.{StoryStep}
use Rattle.cc_names.specs.Counts.{raised_count}
use Rattle.cc_outside.specs.Feeds.{AppendsPrefix}
use Rattle.cc_outside.specs.declared.sinks.WriteFault.{WriteFault}
use Rattle.legal_history.specs.Stories.States.{all_done}
use Rattle.legal_history.specs.Stories.Steps.{state_of}
use Rattle.session_run.specs.Promises.Headline.{EndsAtTranscript, IsCutAtLast, clock_moments}
use Rattle.session_run.specs.Running.Runs.{Outside, ReadsBy}
use Rattle.session_run.specs.Story.Begun.{IsPrefixOf, is_opened, moments_begun, phases_begun}
use Rattle.session_run.specs.Story.Rendered.{earlier_text}
use Rattle.session_run.specs.Story.Modeled.{tells_failure, text_modeled}
use Rattle.session_run.specs.declared.words.Form.{Form}
use Rattle.session_run.specs.declared.words.Form.TheVariants as forms

-- a check adds no step to the history
abbrev pub IsAlone : Form → List StoryStep → Type 0
IsAlone form story = form ≡ forms.Verify → length story ≤ 1

-- the phases have been run, and the text of the form written
pub record HasDone (form : Form) (phases : List Phase) (story : List StoryStep) (outside : Outside) (failed : Bool) : Type 0 where
  pub opened : is_opened story ≡ true
  pub phases_are : phases_begun story ≡ phases
  pub finished : all_done (state_of story) ≡ true
  pub moments_are : IfSome outside.moments (λ modeled. moments_begun story ≡ clock_moments modeled outside.first (length phases))
  pub reading_is : outside.reading ≡ raised_count outside.first (length phases)
  pub failures : tells_failure form story ≡ failed
  pub written : Appends outside.held outside.holds (text_modeled form story)
  pub alone : IsAlone form story

-- the phases have been run, and each of their commands is finished
pub record IsRunThrough (phases : List Phase) (story : List StoryStep) : Type 0 where
  pub phases_are : phases_begun story ≡ phases
  pub finished : all_done (state_of story) ≡ true

-- where the sink failed: `run` writes as it goes, so its last transcript is cut; `big` and `verify` write after their session
abbrev pub IsCutSo : Form → Or WriteFault → List Phase → List StoryStep → Outside → Type 0
IsCutSo form NoMemory phases story outside = EndsAtTranscript (Some form) story outside.held outside.holds
IsCutSo forms.Run (Is fault) phases story outside = IsCutAtLast story (earlier_text story) outside.held outside.holds
IsCutSo (forms.Big seed size) (Is fault) phases story outside = IsRunThrough phases story
IsCutSo forms.Verify (Is fault) phases story outside = IsRunThrough phases story
IsCutSo forms.Sites (Is fault) phases story outside = Unit {0}

-- what the form asks for was given up
pub record IsGivenUp (form : Form) (cut : Or WriteFault) (phases : List Phase) (story : List StoryStep) (outside : Outside) : Type
    0 where
  pub opened : is_opened story ≡ true
  pub begun : IsPrefixOf (phases_begun story) phases
  pub moments_are : IfSome outside.moments (λ modeled. moments_begun story
      ≡ clock_moments modeled outside.first (length (moments_begun story)))
  pub reading_is : ReadsBy cut (length phases) story outside
  pub written : AppendsPrefix outside.held outside.holds (text_modeled form story)
  pub cut_at : IsCutSo form cut phases story outside
  pub alone : IsAlone form story

-- it was carried out, or given up
abbrev pub HasRunSo : Form → Result Bool (Or WriteFault) → List Phase → List StoryStep → Outside → Type 0
HasRunSo form (Ok failed) phases story outside = HasDone form phases story outside failed
HasRunSo form (Err cut) phases story outside = IsGivenUp form cut phases story outside
