-- The causes of statuses, worked by hand: for each of these statuses a call that has its cause, and one that has not.
use Rattle.std.proofs.Common.{◌≡◌, ℕ, Bool, true, Some, None, List, [], ◌∷◌, ◌++◌, refl, subst, inl, inr, arith}
use Rattle.std.specs.Prelude.{◌==◌, codes, if◌then◌else◌}
use Rattle.cc_names.specs.declared.commands.Change.TheVariants.{Mkview}
use Rattle.cc_names.specs.declared.commands.Command.{Command}
use Rattle.cc_names.specs.declared.commands.Command.TheVariants as commands
use Rattle.cc_names.specs.declared.refusals.Refusal.TheVariants.{ViewExists}
use Rattle.cc_names.specs.declared.rows.Deed.TheVariants as deeds
use Rattle.cc_names.specs.declared.rows.Tag.{Tag}
use Rattle.cc_names.specs.declared.steps.StoryStep.{StoryStep}
use Rattle.cc_names.specs.declared.steps.StoryStep.TheVariants as story_steps
use Rattle.disk_model.specs.Devices.{new_device}
use Rattle.disk_model.specs.DiskStates.{DiskState}
use Rattle.vob_journal.specs.Frames.{frames}
use Rattle.story_log.proofs.Stored.Damaged.{stored_undamaged}
use Rattle.story_log.proofs.Bases.WorkedDamages.{as_found, bytes, named, second_is_not, third_is_damaged, three_frames}
use Rattle.session_run.specs.Calls.Causes.{Change, HasCause, Intake, IsAsked, IsIntakeRead, IsWholeRun, KeepsSink, TakesNoMore}
use Rattle.session_run.specs.Story.Modeled.{tells_failure}
use Rattle.session_run.specs.declared.statuses.Status.TheVariants as statuses
use Rattle.session_run.specs.declared.words.Form.{Form}
use Rattle.session_run.specs.declared.words.Form.TheVariants as forms

abbrev from_to : ℕ → ℕ → Change ℕ
from_to before after = record { before = before; after = after }

-- words of a form, and a source that gave this text to its end
abbrev gave : Form → List ℕ → ℕ → Intake
gave form text count = record {
  form = Some form;
  text = record { before = Some text; after = Some [] };
  given = from_to 0 count;
  calls = from_to 0 2;
  faults = from_to 0 0;
  ended = record { before = None; after = Some 2 };
}

-- words of a form that does not read the source, or whose source failed at once so many times
abbrev unread : Form → ℕ → Intake
unread form faults = record {
  form = Some form;
  text = record { before = Some []; after = Some [] };
  given = from_to 0 0;
  calls = from_to 0 faults;
  faults = from_to 0 faults;
  ended = record { before = None; after = if faults == 0 then None else Some 1 };
}

-- a disk with this journal, on which so many calls were made, so many of which failed
abbrev disk_at : List ℕ → ℕ → ℕ → Change DiskState
disk_at journal ticks faults = record {
  before = record { modeled = Some (new_device journal []); ticks = 0; faults = 0 };
  after = record { modeled = Some (new_device journal []); ticks = ticks; faults = faults };
}

abbrev none_failed : Change ℕ
none_failed = from_to 0 0

-- a session that makes a view, and one that makes it twice
abbrev once : List ℕ
once = codes "phase\nlane a\nmkview v\n"

abbrev twice : List ℕ
twice = codes "phase\nlane a\nmkview v\nmkview v\n"

abbrev mkview : Command
mkview = commands.Change (Mkview (codes "v"))

abbrev tag : ℕ → Tag
tag n = record { phase = 1; lane = 1; command = n }

-- the story up to the row of the view, of a lane with these commands
abbrev begun : List Command → List StoryStep
begun asked =
    story_steps.Opened [] (record { ticks = 0; faults = 0 }) true
    ∷ story_steps.PhaseBegun (record { lanes = record { name = codes "a"; commands = asked } ∷ [] }) 1700000000 ∷ []

abbrev made : StoryStep
made = story_steps.Commit (record { tag = tag 1; moment = 1700000000; deed = deeds.Mkview (codes "v") }) 7

abbrev all_well : List StoryStep
all_well = begun (mkview ∷ []) ++ made ∷ []

abbrev one_refused : List StoryStep
one_refused = begun (mkview ∷ mkview ∷ []) ++ made ∷ story_steps.Refused (tag 2) ViewExists ∷ []

abbrev one_fault : List StoryStep
one_fault = begun (mkview ∷ []) ++ story_steps.Fault (tag 1) None 0 1 2 ∷ []

read_once : IsIntakeRead (gave forms.Run once 22)
read_once = record { at_end = refl; count = 22; within = omega arith; given = refl; bytes = refl; faultless = refl }

read_twice : IsIntakeRead (gave forms.Run twice 31)
read_twice = record { at_end = refl; count = 31; within = omega arith; given = refl; bytes = refl; faultless = refl }

asked_once : IsAsked (gave forms.Run once 22)
asked_once = record {
  taken = record { form = forms.Run; words = refl; taken = read_once };
  base = λ same. absurd cc;
  session = refl;
}

asked_twice : IsAsked (gave forms.Run twice 31)
asked_twice = record {
  taken = record { form = forms.Run; words = refl; taken = read_twice };
  base = λ same. absurd cc;
  session = refl;
}

asked_check : IsAsked (unread forms.Verify 0)
asked_check = record {
  taken = record { form = forms.Verify; words = refl; taken = record { text = refl; given = refl; calls = refl; faults = refl } };
  base = λ same. absurd cc;
  session = refl;
}

-- a whole run tells a failure or none by its form, which is that of the words
whole_tells : {text : List ℕ} {count : ℕ} {story : List StoryStep} {failed : Bool}
    → IsWholeRun (gave forms.Run text count) story failed → tells_failure forms.Run story ≡ failed
whole_tells {story = story} {failed = failed} h =
    let form : h.asked.taken.form ≡ forms.Run = let words = h.asked.taken.words in cc in
    subst (λ form. tells_failure form story ≡ failed) form h.failures

-- what a source gave is read to its end by two calls, and no third call is made; a form that does not read makes none
-- it
rests : TakesNoMore (gave forms.Run once 22)
rests = record { most = omega arith; unread = λ reads. absurd cc; rests = λ before. refl }

abbrev with_calls : ℕ → Intake → Intake
with_calls count intake = record intake { calls = from_to 0 count }

not_read_past : TakesNoMore (with_calls 3 (gave forms.Run once 22)) → ⊥
not_read_past h = absurd (let rests = h.rests refl in omega (arith, rests))

not_read_for_a_check : TakesNoMore (with_calls 1 (unread forms.Verify 0)) → ⊥
not_read_for_a_check h = absurd (let unread = h.unread refl in let calls = unread.calls in omega (arith, calls))

-- a fault of the sink is told by the status
sink_failed : KeepsSink statuses.WriteFault (from_to 0 1)
sink_failed other = absurd (other refl)

not_hidden : KeepsSink statuses.Good (from_to 0 1) → ⊥
not_hidden kept = absurd (let same = kept (λ is. cc) in omega (arith, same))

-- 0: the one command is carried out on an empty disk; not where a command was refused, nor where the disk failed meanwhile
good : HasCause statuses.Good (gave forms.Run once 22) none_failed (disk_at [] 7 0) all_well
unfolding frames asked_once
good = inl (
  record { asked = asked_once; opened = refl; finished = refl; failures = refl },
  refl,
  stored_undamaged (as_found []) [] refl tt refl,
)

not_good : HasCause statuses.Good (gave forms.Run twice 31) none_failed (disk_at [] 7 0) one_refused → ⊥
not_good (inl run) = absurd (let failures = whole_tells run.0 in cc)
not_good (inr replied) = absurd (let words = replied.0.words in cc)

not_good_with_a_fault : HasCause statuses.Good (gave forms.Run once 22) none_failed (disk_at [] 7 1) all_well → ⊥
not_good_with_a_fault (inl run) = absurd (let rose = run.1 in cc)
not_good_with_a_fault (inr replied) = absurd (let words = replied.0.words in cc)

-- 0 and 1 of sites, for which the disk is not called: each line is answered, or one is refused
sites_good : HasCause statuses.Good (gave forms.Sites (codes "site a\n") 7) none_failed (disk_at [] 0 0) []
sites_good = inr (
  record {
    words = refl;
    read = record { at_end = refl; count = 7; within = omega arith; given = refl; bytes = refl; faultless = refl };
    comes = refl;
  },
  record { disk_is = refl; story_is = refl },
)

sites_not_good : HasCause statuses.Good (gave forms.Sites (codes "site a\nsite a\n") 14) none_failed (disk_at [] 0 0) [] → ⊥
sites_not_good (inl run) = absurd (let opened = run.0.opened in cc)
sites_not_good (inr replied) = absurd (let comes = replied.0.comes in cc)

-- 1: a command was refused; not where each was carried out
some_failed : HasCause statuses.SomeFailed (gave forms.Run twice 31) none_failed (disk_at [] 7 0) one_refused
unfolding frames asked_twice
some_failed = inl (
  record { asked = asked_twice; opened = refl; finished = refl; failures = refl },
  refl,
  stored_undamaged (as_found []) [] refl tt refl,
)

none_refused : HasCause statuses.SomeFailed (gave forms.Run once 22) none_failed (disk_at [] 7 0) all_well → ⊥
none_refused (inl run) = absurd (let failures = whole_tells run.0 in cc)
none_refused (inr replied) = absurd (let words = replied.0.words in cc)

-- a journal of three frames, whose third makes a view that is there
abbrev frame : List ℕ → List ℕ
frame payload = 1 ∷ 27 ∷ 0 ∷ 0 ∷ 0 ∷ payload

abbrev journal : List ℕ
journal = frame (bytes 1 1 (named 118)) ++ frame (bytes 2 1 (named 119)) ++ frame (bytes 3 1 (named 118)) ++ 0 ∷ []

its_frames : frames journal ≡ three_frames
unfolding frames
its_frames = refl

-- 4: the third frame is the first that is damaged; the second is not, and a base that was opened is not damaged
damaged : HasCause (statuses.Damaged 3) (unread forms.Verify 0) none_failed (disk_at journal 8 0) []
unfolding frames
damaged = (asked_check, third_is_damaged, refl, refl, record { more = []; calls = refl; once = inl refl })

not_the_second : HasCause (statuses.Damaged 2) (unread forms.Verify 0) none_failed (disk_at journal 8 0) [] → ⊥
unfolding frames
not_the_second h = second_is_not h.1

not_once_opened : HasCause (statuses.Damaged 3) (gave forms.Run once 22) none_failed (disk_at journal 8 0) all_well → ⊥
not_once_opened h = absurd (let empty = h.3 in cc)

-- 5: the source failed; not where it did not, nor for a form that does not read it
read_fault : HasCause statuses.ReadFault (unread forms.Run 1) none_failed (disk_at [] 0 0) []
read_fault = (record { words = refl; rose = λ below. omega arith }, record { disk_is = refl; story_is = refl })

source_did_not_fail : HasCause statuses.ReadFault (unread forms.Run 0) none_failed (disk_at [] 0 0) [] → ⊥
source_did_not_fail h = absurd (let rose = h.0.rose (omega arith) in omega (arith, rose))

not_read : HasCause statuses.ReadFault (unread forms.Verify 1) none_failed (disk_at [] 0 0) [] → ⊥
not_read h = absurd (let words = h.0.words in cc)

-- 7: the disk failed under the one command, which is finished so, or before a base was opened; not where no fault was counted,
-- nor while a command is left
disk_fault : HasCause statuses.DiskFault (gave forms.Run once 22) none_failed (disk_at [] 2 1) one_fault
disk_fault = (asked_once, refl, λ opened. refl)

disk_fault_at_opening : HasCause statuses.DiskFault (unread forms.Verify 0) none_failed (disk_at [] 1 1) []
disk_fault_at_opening = (asked_check, refl, λ opened. absurd cc)

disk_did_not_fail : HasCause statuses.DiskFault (gave forms.Run once 22) none_failed (disk_at [] 7 0) all_well → ⊥
disk_did_not_fail h = absurd (let rose = h.1 in cc)

a_command_is_left : HasCause statuses.DiskFault (gave forms.Run twice 31) none_failed (disk_at [] 7 1)
    (begun (mkview ∷ mkview ∷ []) ++ made ∷ []) → ⊥
a_command_is_left h = absurd (let finished = h.2 refl in cc)
