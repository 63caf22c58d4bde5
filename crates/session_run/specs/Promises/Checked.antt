-- What the headline says of FILE `verify`: when it answers that a base is sound.
use Rattle.std.specs.Prelude.{◌≡◌, Option, Some, List}
use Rattle.cc_names.specs.declared.steps.StoryStep.{StoryStep}
use Rattle.session_run.specs.Promises.Reused.{WasSound}
use Rattle.session_run.specs.declared.statuses.Status.{Status}
use Rattle.session_run.specs.declared.statuses.Status.TheVariants as statuses
use Rattle.session_run.specs.declared.words.Form.{Form}
use Rattle.session_run.specs.declared.words.Form.TheVariants as forms

-- *Checked*: where a check ends with the status of success the base that was opened is sound, and where it ends with that of
-- failure the base is not. So it tells of any disk whether the promises hold that are made of sound bases.
pub record TellsSoundness (form : Option Form) (status : Status) (story : List StoryStep) : Type 0 where
  pub sound : form ≡ Some forms.Verify → status ≡ statuses.Good → WasSound story
  pub unsound : form ≡ Some forms.Verify → status ≡ statuses.SomeFailed → WasSound story → ⊥
