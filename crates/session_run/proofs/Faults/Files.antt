-- What a session leaves of the files.
use Rattle.std.proofs.Common.{◌≡◌, true, false, Option, Some, None, List, [], ◌∷◌, refl, ap, sym, subst, ◌∙◌}
use Rattle.cc_names.specs.declared.steps.StoryStep.{StoryStep}
use Rattle.cc_names.specs.declared.steps.StoryStep.TheVariants as story_steps
use Rattle.disk_model.specs.Devices.{Device}
use Rattle.disk_model.specs.DiskStates.{DiskState, Both}
use Rattle.legal_history.specs.Stories.States.{State, start}
use Rattle.legal_history.specs.Stories.Steps.{after, state_from, state_of}
use Rattle.vob_journal.specs.Added.{WritesOn}
use Rattle.vob_journal.specs.Reads.{SameFiles, SameObjects}
use Rattle.vob_journal.proofs.Telling.{both_map, both_then}
use Rattle.story_log.specs.Stopping.Backed.{may_be_open}
use Rattle.base_core.specs.Story.Counted.{CountsStep, CountsSteps, TailedDisk}
use Rattle.session_run.specs.Calls.Causes.{Change}
use Rattle.session_run.specs.Faults.Accounted.{CountsFrom, KeepsFiles, is_calm}

-- the file of objects is as it was before, also through a third moment
objects_then : (one two three : Option Device) → Both SameObjects one two → Both SameObjects two three
    → Both SameObjects one three
objects_then one two three h k = both_then SameObjects SameObjects SameObjects one two three (λ d e f first second. second
    ∙ first) h k

of_files : (one two : Option Device) → Both SameFiles one two → Both SameObjects one two
of_files None None h = tt
of_files None (Some e) h = absurd h
of_files (Some d) None h = absurd h
of_files (Some d) (Some e) h = h.objects

of_writes : (one two : Option Device) → Both WritesOn one two → Both SameObjects one two
of_writes one two h = both_map WritesOn SameObjects one two (λ d e writes. writes.objects) h

objects_idle : (one : Option Device) → Both SameObjects one one
objects_idle None = tt
objects_idle (Some d) = refl

same_disk : (old new : TailedDisk) → new ≡ old → Both SameObjects old.disk.modeled new.disk.modeled
same_disk old new e = subst (λ t. Both SameObjects old.disk.modeled t.disk.modeled) (sym e) (objects_idle old.disk.modeled)

-- each step leaves the file of objects
step_leaves : (s : State) (step : StoryStep) (old new : TailedDisk) → CountsStep s step old new
    → Both SameObjects old.disk.modeled new.disk.modeled
step_leaves s (story_steps.Commit row tick) old new h = of_writes old.disk.modeled new.disk.modeled h.4
step_leaves s (story_steps.Fault tag left before faults tick) old new h = of_writes old.disk.modeled new.disk.modeled h.6
step_leaves s step old new h = same_disk old new h

steps_leave : (s : State) (more : List StoryStep) (old new : TailedDisk) → CountsSteps s more old new
    → Both SameObjects old.disk.modeled new.disk.modeled
steps_leave s [] old new h = same_disk old new h
steps_leave s (step ∷ more) old new h = objects_then old.disk.modeled h.0.disk.modeled new.disk.modeled
    (step_leaves s step old h.0 h.1) (steps_leave (after s step) more h.0 new h.2)

-- steps without a commit and a fault make no call on the disk
calm_rests : (s : State) (more : List StoryStep) (old new : TailedDisk) → is_calm more ≡ true → CountsSteps s more old new
    → new ≡ old
calm_rests s [] old new calm h = h
calm_rests s (story_steps.Commit row tick ∷ more) old new calm h = absurd (cc)
calm_rests s (story_steps.Fault tag left before faults tick ∷ more) old new calm h = absurd (cc)
calm_rests s (step ∷ more) old new calm h = calm_rests (after s step) more h.0 new calm h.2 ∙ h.1

-- and add no end
calm_ends : (s : State) (more : List StoryStep) → is_calm more ≡ true → (state_from s more).ends ≡ s.ends
calm_ends s [] calm = refl
calm_ends s (story_steps.Commit row tick ∷ more) calm = absurd (cc)
calm_ends s (story_steps.Fault tag left before faults tick ∷ more) calm = absurd (cc)
calm_ends s (step ∷ more) calm = calm_ends (after s step) more calm

-- a calm story that begins with an opening has no fault
calm_story : (story : List StoryStep) (first : StoryStep) (more : List StoryStep) → story ≡ first ∷ more → is_calm story ≡ true
    → (is_calm more ≡ true) × (may_be_open (state_of story).ends ≡ false)
calm_story story first more is calm = subst (λ s. is_calm s ≡ true → (is_calm more ≡ true)
    × (may_be_open (state_of s).ends ≡ false)) (sym is) (by first) calm
  where
    none : (x : StoryStep) → is_calm more ≡ true → (after start x).ends ≡ []
        → may_be_open (state_from (after start x) more).ends ≡ false
    none x calm empty = ap may_be_open (calm_ends (after start x) more calm ∙ empty)

    by : (x : StoryStep) → is_calm (x ∷ more) ≡ true → (is_calm more ≡ true) × (may_be_open (state_of (x ∷ more)).ends ≡ false)
    by (story_steps.Commit row tick) calm = absurd (cc)
    by (story_steps.Fault tag left before faults tick) calm = absurd (cc)
    by x calm = (calm, none x calm refl)

-- The files of a session whose base was opened
pub keeps_files : (disk : Change DiskState) (opened : TailedDisk) (story : List StoryStep)
    → Both SameFiles disk.before.modeled opened.disk.modeled → CountsFrom opened disk.after story → KeepsFiles disk story
keeps_files disk opened story same counted = record {
  objects =
      objects_then disk.before.modeled opened.disk.modeled disk.after.modeled (of_files disk.before.modeled opened.disk.modeled same)
      (objects_then opened.disk.modeled counted.ended.disk.modeled disk.after.modeled
      (steps_leave (after start counted.first) counted.steps opened counted.ended counted.counts)
      (of_writes counted.ended.disk.modeled disk.after.modeled counted.settled.writes));
  files = λ calm.
      let parts = calm_story story counted.first counted.steps counted.story_is calm in
      let rests = counted.settled.rests parts.1 ∙ ap (λ (t : TailedDisk). t.disk) (calm_rests (after start counted.first) counted.steps opened
      counted.ended parts.0 counted.counts) in
      subst (λ s. Both SameFiles disk.before.modeled s.modeled) (sym rests) same;
}

-- and of one whose base was not
pub closed_files : (disk : Change DiskState) → Both SameFiles disk.before.modeled disk.after.modeled → KeepsFiles disk []
closed_files disk same = record { objects = of_files disk.before.modeled disk.after.modeled same; files = λ calm. same }
