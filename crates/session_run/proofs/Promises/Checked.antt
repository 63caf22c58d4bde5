-- What a check tells of the base that was opened.
use Rattle.std.proofs.Common.{◌≡◌, ◌≢◌, ◌⊎◌, inl, inr, ◌≤◌, ℕ, Bool, true, false, Option, Some, None, List, [], ◌∷◌, length}
use Rattle.std.proofs.Common.{refl, ap, subst, sym, arith}
use Rattle.std.specs.Prelude.{is_some}
use Rattle.cc_names.specs.Formed.{Plain}
use Rattle.cc_names.specs.declared.steps.Counts.{Counts}
use Rattle.cc_names.specs.declared.steps.StoryStep.{StoryStep}
use Rattle.cc_names.specs.declared.steps.StoryStep.TheVariants as story_steps
use Rattle.disk_model.specs.DiskStates.{DiskState}
use Rattle.legal_history.specs.Builds.Values.{IsSound, first_unsound}
use Rattle.legal_history.specs.Stories.States.{Opening}
use Rattle.legal_history.specs.Stories.Steps.{state_of}
use Rattle.object_check.proofs.Soundness.{none_is_sound, sound_has_none}
use Rattle.story_log.proofs.Cases.{some_same}
use Rattle.base_rows.specs.Order.{oldest_first}
use Rattle.session_run.specs.Calls.Causes.{Change, HasCause, HasReplied, Intake, IsWholeRun, RanWhole}
use Rattle.session_run.specs.Promises.Checked.{TellsSoundness}
use Rattle.session_run.specs.Promises.Headline.{BeginsOn, IsOneHistory}
use Rattle.session_run.specs.Promises.Reused.{WasSound}
use Rattle.session_run.specs.Story.Begun.{is_through}
use Rattle.session_run.specs.Story.Modeled.{tells_failure}
use Rattle.session_run.specs.declared.statuses.Status.{Status}
use Rattle.session_run.specs.declared.statuses.Status.TheVariants as statuses
use Rattle.session_run.specs.declared.words.Form.{Form}
use Rattle.session_run.specs.declared.words.Form.TheVariants as forms

-- where no base was opened no status tells of one
pub tells_nothing : (form : Option Form) (status : Status) → is_through form status [] ≡ false → TellsSoundness form status []
tells_nothing form status not = record {
  sound = λ check is. record { base = λ opening opened. absurd (cc) };
  unsound = λ check is sound. let through = ap (λ s. is_through form s []) is in absurd (cc);
}

-- words that ask for no check
pub asks_no_check : (asked : Option Form) (form : Form) (status : Status) (story : List StoryStep) → asked ≡ Some form
    → form ≢ forms.Verify → TellsSoundness asked status story
asks_no_check asked form status story words other = record {
  sound = λ check is. absurd (other (cc));
  unsound = λ check is sound. absurd (other (cc));
}

-- a history without a step but the opening
opened_alone : (disk : DiskState) (story : List StoryStep) (begins : BeginsOn disk story) → length story ≤ 1
    → story ≡ story_steps.Opened (oldest_first begins.base) begins.handed.counts begins.handed.tells ∷ []
opened_alone disk [] begins few = let first = begins.first in absurd (cc)
opened_alone disk (x ∷ []) begins few = ap (λ (step : StoryStep). step ∷ []) (some_same _ _ begins.first)
opened_alone disk (x ∷ y ∷ more) begins few = absurd (omega (arith, few))

-- its base is the one that was opened
base_opened : (rows : List Plain) (counts : Counts) (tells : Bool) (opening : Opening)
    → (state_of (story_steps.Opened rows counts tells ∷ [])).opened ≡ Some opening
    → opening.base ≡ (state_of (story_steps.Opened rows counts tells ∷ [])).base
base_opened rows counts tells opening is = sym (ap (λ o. o.base) (some_same _ _ is))

same_base : (disk : DiskState) (story : List StoryStep) (opening : Opening) → BeginsOn disk story → length story ≤ 1
    → (state_of story).opened ≡ Some opening → opening.base ≡ (state_of story).base
same_base disk story opening begins few is =
    let alone = opened_alone disk story begins few in
    subst (λ s. (state_of s).opened ≡ Some opening → opening.base ≡ (state_of s).base) (sym alone)
    (base_opened (oldest_first begins.base) begins.handed.counts begins.handed.tells opening) is

-- what the form of a whole run tells
modeled_of : (intake : Intake) (story : List StoryStep) (failed : Bool) → IsWholeRun intake story failed
    → intake.form ≡ Some forms.Verify → is_some (first_unsound (state_of story).base) ≡ failed
modeled_of intake story failed h check =
    let words = h.asked.taken.words in
    let same : h.asked.taken.form ≡ forms.Verify = cc in
    subst (λ form. tells_failure form story ≡ failed) same h.failures

none_modeled : (o : Option ℕ) → is_some o ≡ false → o ≡ None
none_modeled None h = refl
none_modeled (Some x) h = absurd (cc)

sound_by : (intake : Intake) (story : List StoryStep) (disk : DiskState) (held holds : Option (List ℕ)) (status : Status)
    → IsWholeRun intake story false → IsOneHistory intake.form status story disk held holds → intake.form ≡ Some forms.Verify
    → WasSound story
sound_by intake story disk held holds status whole history check = record {
  base = λ opening opened.
      let same = same_base disk story opening (history.base whole.opened) (history.alone check) opened in
      subst IsSound (sym same) (none_is_sound (state_of story).base (none_modeled (first_unsound (state_of story).base)
      (modeled_of intake story false whole check)));
}

unsound_by : (intake : Intake) (story : List StoryStep) (disk : DiskState) (held holds : Option (List ℕ)) (status : Status)
    → IsWholeRun intake story true → IsOneHistory intake.form status story disk held holds → intake.form ≡ Some forms.Verify
    → WasSound story → ⊥
unsound_by intake story disk held holds status whole history check sound =
    let begins = history.base whole.opened in
    let alone = opened_alone disk story begins (history.alone check) in
    let opening : Opening = record { base = (state_of story).base; counts = begins.handed.counts; tells = begins.handed.tells } in
    let is : (state_of story).opened ≡ Some opening = subst (λ s. (state_of s).opened
    ≡ Some (record { base = (state_of s).base; counts = begins.handed.counts; tells = begins.handed.tells })) (sym alone) refl
    in
    let none = ap is_some (sound_has_none (state_of story).base (sound.base opening is)) in
    let some = modeled_of intake story true whole check in
    cc

-- a check that ended well or ill was run whole
run_whole : (intake : Intake) (disk : Change DiskState) (story : List StoryStep) (failed : Bool) (status : Status)
    → RanWhole intake disk story failed ⊎ HasReplied intake disk story status → intake.form ≡ Some forms.Verify
    → IsWholeRun intake story failed
run_whole intake disk story failed status (inl ran) check = ran.0
run_whole intake disk story failed status (inr replied) check = let words = replied.0.words in absurd (cc)

pub tells_soundness : (status : Status) (intake : Intake) (faults : Change ℕ) (disk : Change DiskState) (story : List StoryStep)
    (held holds : Option (List ℕ)) → HasCause status intake faults disk story
    → IsOneHistory intake.form status story disk.before held holds → TellsSoundness intake.form status story
tells_soundness status intake faults disk story held holds cause history = record {
  sound = λ check is. sound_by intake story disk.before held holds status
      (run_whole intake disk story false statuses.Good (subst (λ s. HasCause s intake faults disk story) is cause) check) history
      check;
  unsound = λ check is. unsound_by intake story disk.before held holds status
      (run_whole intake disk story true statuses.SomeFailed (subst (λ s. HasCause s intake faults disk story) is cause) check)
      history check;
}
