-- A status other than those of a failed sink and of want of memory comes exactly where its cause does.
use Rattle.std.proofs.Common.{◌≡◌, ◌≢◌, ℕ, ◌<◌, ◌≤◌, inl, inr, true, false, Option, Some, None, is_some, List, [], length, refl}
use Rattle.std.proofs.Common.{ap, sym, subst, ◌∙◌, arith}
use Rattle.std.specs.Prelude.{Err, IfSome, option_and_then}
use Rattle.cc_names.specs.declared.refusals.SessionError.{SessionError}
use Rattle.cc_names.specs.declared.steps.StoryStep.{StoryStep}
use Rattle.disk_model.specs.Devices.{Device}
use Rattle.disk_model.specs.DiskStates.{DiskState, IfModeled}
use Rattle.story_log.specs.Stored.Damaged.{IsDamaged, IsUndamaged}
use Rattle.story_log.specs.Stored.Stops.{found_on}
use Rattle.story_log.proofs.Stored.Damaged.{damaged_once}
use Rattle.session_text.specs.Sessions.{session_of}
use Rattle.session_run.specs.Calls.Asked.{is_read, is_session, reads_source, session_text_of, text_limit}
use Rattle.session_run.specs.Calls.Causes.{Change, Intake, DiskDamaged, FindsDamage, GaveTooMuch, HasCause, IsIntakeRead}
use Rattle.session_run.specs.Calls.Causes.{IsReplied, IsToOpen, SourceFailed, Takes, disk_rose, session_text}
use Rattle.session_run.specs.Calls.Sites.{sites_status}
use Rattle.session_run.specs.Calls.Statuses.{is_cut}
use Rattle.session_run.specs.Story.Begun.{is_opened, is_through}
use Rattle.session_run.specs.Story.Modeled.{tells_failure}
use Rattle.session_run.specs.declared.statuses.Status.{Status}
use Rattle.session_run.specs.declared.statuses.Status.TheVariants as statuses
use Rattle.session_run.specs.declared.words.Form.{Form}
use Rattle.session_run.specs.declared.words.Form.TheVariants as forms

-- words of no form
pub bad_words : (status : Status) (intake : Intake) (faults : Change ℕ) (disk : Change DiskState) (story : List StoryStep)
    → HasCause status intake faults disk story → is_cut status ≡ false → intake.form ≡ None → status ≡ statuses.BadWords
bad_words statuses.Good intake faults disk story (inl h) c e = let words = h.0.asked.taken.words in absurd (cc)
bad_words statuses.Good intake faults disk story (inr h) c e = let words = h.0.words in absurd (cc)
bad_words statuses.SomeFailed intake faults disk story (inl h) c e = let words = h.0.asked.taken.words in absurd (cc)
bad_words statuses.SomeFailed intake faults disk story (inr h) c e = let words = h.0.words in absurd (cc)
bad_words statuses.BadWords intake faults disk story h c e = refl
bad_words (statuses.BadSession error) intake faults disk story (inl h) c e = let words = h.0.words in absurd (cc)
bad_words (statuses.BadSession error) intake faults disk story (inr h) c e = let words = h.0.words in absurd (cc)
bad_words (statuses.Damaged row) intake faults disk story h c e = let words = h.0.taken.words in absurd (cc)
bad_words statuses.ReadFault intake faults disk story h c e = let reads = ap reads_source e in let words = h.0.words in
    absurd (cc)
bad_words statuses.WriteFault intake faults disk story h c e = absurd (cc)
bad_words statuses.DiskFault intake faults disk story h c e = let words = h.0.taken.words in absurd (cc)
bad_words statuses.NoMemory intake faults disk story h c e = absurd (cc)
bad_words statuses.TooLong intake faults disk story h c e = let reads = ap reads_source e in let words = h.0.words in absurd (cc)

-- where nothing was opened no base was
none_opened : (story : List StoryStep) → story ≡ [] → is_opened story ≡ true → ⊥
none_opened story empty opened = let closed = ap is_opened empty in absurd (cc)

-- a disk that failed under an opened base
pub disk_failed : (status : Status) (intake : Intake) (faults : Change ℕ) (disk : Change DiskState) (story : List StoryStep)
    → HasCause status intake faults disk story → is_cut status ≡ false → is_opened story ≡ true → disk_rose disk ≡ true
    → status ≡ statuses.DiskFault
disk_failed statuses.Good intake faults disk story (inl h) c o e = let faultless = h.1 in absurd (cc)
disk_failed statuses.Good intake faults disk story (inr h) c o e = absurd (none_opened story h.1.story_is o)
disk_failed statuses.SomeFailed intake faults disk story (inl h) c o e = let faultless = h.1 in absurd (cc)
disk_failed statuses.SomeFailed intake faults disk story (inr h) c o e = absurd (none_opened story h.1.story_is o)
disk_failed statuses.BadWords intake faults disk story h c o e = absurd (none_opened story h.2.story_is o)
disk_failed (statuses.BadSession error) intake faults disk story (inl h) c o e = absurd (none_opened story h.2.story_is o)
disk_failed (statuses.BadSession error) intake faults disk story (inr h) c o e = absurd (none_opened story h.1.story_is o)
disk_failed (statuses.Damaged row) intake faults disk story h c o e = let faultless = h.2 in absurd (cc)
disk_failed statuses.ReadFault intake faults disk story h c o e = absurd (none_opened story h.1.story_is o)
disk_failed statuses.WriteFault intake faults disk story h c o e = absurd (cc)
disk_failed statuses.DiskFault intake faults disk story h c o e = refl
disk_failed statuses.NoMemory intake faults disk story h c o e = absurd (cc)
disk_failed statuses.TooLong intake faults disk story h c o e = absurd (none_opened story h.1.story_is o)

-- a session that was run through on a base that was opened and a disk that did not fail, where its form tells of a failure, and
-- where it tells of none
pub failed : (status : Status) (intake : Intake) (faults : Change ℕ) (disk : Change DiskState) (story : List StoryStep)
    (form : Form) → HasCause status intake faults disk story → is_cut status ≡ false → is_opened story ≡ true
    → is_through intake.form status story ≡ true → disk_rose disk ≡ false → intake.form ≡ Some form
    → tells_failure form story ≡ true → status ≡ statuses.SomeFailed
failed statuses.Good intake faults disk story form (inl h) u o c s w e = let words = h.0.asked.taken.words in let none =
    h.0.failures in absurd (cc)
failed statuses.Good intake faults disk story form (inr h) u o c s w e = absurd (none_opened story h.1.story_is o)
failed statuses.SomeFailed intake faults disk story form h u o c s w e = refl
failed statuses.DiskFault intake faults disk story form h u o c s w e = let rose = h.1 in absurd (cc)
failed status intake faults disk story form h u o c s w e = absurd (cc)

pub good : (status : Status) (intake : Intake) (faults : Change ℕ) (disk : Change DiskState) (story : List StoryStep)
    (form : Form) → HasCause status intake faults disk story → is_cut status ≡ false → is_opened story ≡ true
    → is_through intake.form status story ≡ true → disk_rose disk ≡ false → intake.form ≡ Some form
    → tells_failure form story ≡ false → status ≡ statuses.Good
good statuses.Good intake faults disk story form h u o c s w e = refl
good statuses.SomeFailed intake faults disk story form (inl h) u o c s w e = let words = h.0.asked.taken.words in let some =
    h.0.failures in absurd (cc)
good statuses.SomeFailed intake faults disk story form (inr h) u o c s w e = absurd (none_opened story h.1.story_is o)
good statuses.DiskFault intake faults disk story form h u o c s w e = let rose = h.1 in absurd (cc)
good status intake faults disk story form h u o c s w e = absurd (cc)

-- the text of a session without lines is one
no_wrong_line : (intake : Intake) (error : SessionError) → intake.form ≡ Some forms.Sites
    → IfSome (session_text intake) (λ bytes. session_of bytes ≡ Err error) → ⊥
no_wrong_line intake error words h =
    let wrong : session_of [] ≡ Err error = subst (λ asked. IfSome (option_and_then
    (λ form. session_text_of form intake.text.before) asked) (λ bytes. session_of bytes ≡ Err error)) words h in
    let none = ap is_read wrong in
    absurd (cc)

-- a text of sites that is told, within the limit, and whose source did not fail
comes_to : (intake : Intake) (status : Status) (bytes : List ℕ) → intake.text.before ≡ Some bytes → IsReplied intake status
    → status ≡ sites_status bytes
comes_to intake status bytes tells h = sym (subst (λ text. IfSome text (λ bytes. sites_status bytes ≡ status)) tells h.comes)

pub replied : (status : Status) (intake : Intake) (faults : Change ℕ) (disk : Change DiskState) (story : List StoryStep)
    (bytes : List ℕ) → HasCause status intake faults disk story → is_cut status ≡ false → intake.form ≡ Some forms.Sites
    → intake.text.before ≡ Some bytes → (SourceFailed intake → ⊥) → (GaveTooMuch intake → ⊥) → status ≡ sites_status bytes
replied statuses.Good intake faults disk story bytes (inl h) c w t s m = absurd (h.0.asked.base w)
replied statuses.Good intake faults disk story bytes (inr h) c w t s m = comes_to intake statuses.Good bytes t h.0
replied statuses.SomeFailed intake faults disk story bytes (inl h) c w t s m = absurd (h.0.asked.base w)
replied statuses.SomeFailed intake faults disk story bytes (inr h) c w t s m = comes_to intake statuses.SomeFailed bytes t h.0
replied statuses.BadWords intake faults disk story bytes h c w t s m = let none = h.0 in absurd (cc)
replied (statuses.BadSession error) intake faults disk story bytes (inl h) c w t s m = absurd (no_wrong_line intake error w h.1)
replied (statuses.BadSession error) intake faults disk story bytes (inr h) c w t s m =
    comes_to intake (statuses.BadSession error) bytes t h.0
replied (statuses.Damaged row) intake faults disk story bytes h c w t s m = absurd (h.0.base w)
replied statuses.ReadFault intake faults disk story bytes h c w t s m = absurd (s h.0)
replied statuses.WriteFault intake faults disk story bytes h c w t s m = absurd (cc)
replied statuses.DiskFault intake faults disk story bytes h c w t s m = absurd (h.0.base w)
replied statuses.NoMemory intake faults disk story bytes h c w t s m = absurd (cc)
replied statuses.TooLong intake faults disk story bytes h c w t s m = absurd (m h.0)

-- what is known of a journal that is damaged
damaged_or_not : (o : Option Device) (row : ℕ) → is_some o ≡ true → IfModeled o (λ d. IsDamaged (found_on d) row)
    → IfModeled o (λ d. IsUndamaged (found_on d)) → ⊥
damaged_or_not None row tells damaged not = absurd (cc)
damaged_or_not (Some d) row tells damaged not = not row damaged

damaged_where : (o : Option Device) (one row : ℕ) → is_some o ≡ true → IfModeled o (λ d. IsDamaged (found_on d) one)
    → IfModeled o (λ d. IsDamaged (found_on d) row) → one ≡ row
damaged_where None one row tells first second = absurd (cc)
damaged_where (Some d) one row tells first second = damaged_once (found_on d) one row first second

-- what is known of a session that was read
session_or_not : (text : Option (List ℕ)) (error : SessionError) → is_some text ≡ true
    → IfSome text (λ bytes. is_session bytes ≡ true) → IfSome text (λ bytes. session_of bytes ≡ Err error) → ⊥
session_or_not None error tells one other = absurd (cc)
session_or_not (Some bytes) error tells one other = let none = ap is_read other in absurd (cc)

within_or_not : (text : Option (List ℕ)) (count : ℕ) → is_some text ≡ true → count ≤ text_limit
    → IfSome text (λ bytes. length bytes ≡ count) → IfSome text (λ bytes. text_limit < length bytes) → ⊥
within_or_not None count tells within is more = absurd (cc)
within_or_not (Some bytes) count tells within is more = absurd (omega (arith, within, is, more))

-- a form that opens a base and reads the source is `run`
reads_session : (form : Form) → reads_source (Some form) ≡ true → form ≢ forms.Sites → form ≡ forms.Run
reads_session forms.Run reads base = refl
reads_session (forms.Big seed size) reads base = absurd (cc)
reads_session forms.Verify reads base = absurd (cc)
reads_session forms.Sites reads base = absurd (base refl)

-- a source that gave too much gave no session
too_long : (intake : Intake) → IsToOpen intake → GaveTooMuch intake → ⊥
too_long intake o h =
    let words = o.asked.taken.words in
    let same : o.asked.taken.form ≡ forms.Run = reads_session o.asked.taken.form
    (subst (λ asked. reads_source asked ≡ true) words h.words) (λ is. o.asked.base (words ∙ ap Some is)) in
    let run : intake.form ≡ Some forms.Run = words ∙ ap Some same in
    let read : IsIntakeRead intake = subst (λ form. Takes form intake) same o.asked.taken.taken in
    let tells : is_some intake.text.before ≡ true = subst (λ asked. is_some
    (option_and_then (λ form. session_text_of form intake.text.before) asked) ≡ true) run o.text in
    within_or_not intake.text.before read.count tells read.within read.bytes h.bytes

-- a damaged journal
damaged : (status : Status) (intake : Intake) (faults : Change ℕ) (disk : Change DiskState) (story : List StoryStep) (row : ℕ)
    → HasCause status intake faults disk story → IsToOpen intake → is_some disk.before.modeled ≡ true → DiskDamaged disk row
    → disk_rose disk ≡ false → is_cut status ≡ false → status ≡ statuses.Damaged row
damaged statuses.Good intake faults disk story row (inl h) o t d s c = absurd (damaged_or_not disk.before.modeled row t d h.2)
damaged statuses.Good intake faults disk story row (inr h) o t d s c = absurd (o.asked.base h.0.words)
damaged statuses.SomeFailed intake faults disk story row (inl h) o t d s c =
    absurd (damaged_or_not disk.before.modeled row t d h.2)
damaged statuses.SomeFailed intake faults disk story row (inr h) o t d s c = absurd (o.asked.base h.0.words)
damaged statuses.BadWords intake faults disk story row h o t d s c = let words = o.asked.taken.words in let not = h.0 in
    absurd (cc)
damaged (statuses.BadSession error) intake faults disk story row (inl h) o t d s c =
    absurd (session_or_not (session_text intake) error o.text o.asked.session h.1)
damaged (statuses.BadSession error) intake faults disk story row (inr h) o t d s c = absurd (o.asked.base h.0.words)
damaged (statuses.Damaged one) intake faults disk story row h o t d s c =
    ap statuses.Damaged (damaged_where disk.before.modeled one row t h.1 d)
damaged statuses.ReadFault intake faults disk story row h o t d s c = absurd (o.faultless h.0)
damaged statuses.WriteFault intake faults disk story row h o t d s c = absurd (cc)
damaged statuses.DiskFault intake faults disk story row h o t d s c = let rose = h.1 in absurd (cc)
damaged statuses.NoMemory intake faults disk story row h o t d s c = absurd (cc)
damaged statuses.TooLong intake faults disk story row h o t d s c = absurd (too_long intake o h.0)

pub finds_damage : (status : Status) (intake : Intake) (faults : Change ℕ) (disk : Change DiskState) (story : List StoryStep)
    → HasCause status intake faults disk story → FindsDamage status intake disk
finds_damage status intake faults disk story h = record {
  damaged = λ row o t d s c. damaged status intake faults disk story row h
      o t d s c;
}
