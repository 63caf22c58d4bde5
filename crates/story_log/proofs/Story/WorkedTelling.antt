-- How steps are told, and the rows that a story names, worked.
use Rattle.std.specs.declared.snapshot.Snapshot.{Snapshot}
use Rattle.std.proofs.Common.{◌≡◌, ℕ, true, None, Some, List, [], ◌∷◌, refl}
use Rattle.std.specs.Prelude.{codes}
use Rattle.cc_names.specs.Formed.{Plain}
use Rattle.cc_names.specs.declared.commands.Phase.{Phase}
use Rattle.cc_names.specs.declared.refusals.Refusal.{Refusal}
use Rattle.cc_names.specs.declared.refusals.Refusal.TheVariants.{ViewExists}
use Rattle.cc_names.specs.declared.rows.Deed.TheVariants as deeds
use Rattle.cc_names.specs.declared.rows.Tag.{Tag}
use Rattle.cc_names.specs.declared.steps.Counts.{Counts}
use Rattle.cc_names.specs.declared.steps.StoryStep.{StoryStep}
use Rattle.cc_names.specs.declared.steps.StoryStep.TheVariants as story_steps
use Rattle.story_log.specs.Story.Telling.{rows_named, told, told_fault}
use Rattle.story_log.specs.declared.step.Fault.{Fault}
use Rattle.story_log.specs.declared.step.Step.TheVariants as steps
use Rattle.vob_journal.specs.declared.left.Left.{Left}
use Rattle.vob_journal.specs.declared.left.Left.TheVariants.{Nothing, Earlier, InFlight}

-- command n of the one lane of phase 1, and the row of its view
abbrev tag : ℕ → Tag
tag n = record { phase = 1; lane = 1; command = n }

abbrev view : ℕ → List ℕ → Plain
view n name = record { tag = tag n; moment = 5; deed = deeds.Mkview name }

abbrev phase : Phase
phase = record { lanes = [] }

abbrev counts : Counts
counts = record { ticks = 7; faults = 0 }

-- a base of one row was opened, a phase began, a view was made, and one was refused
abbrev story : List StoryStep
story = story_steps.Opened (view 9 (codes "u") ∷ []) counts true ∷ story_steps.PhaseBegun phase 5
    ∷ story_steps.Commit (view 1 (codes "v")) 11 ∷ story_steps.Refused (tag 2) ViewExists ∷ []

its_rows : rows_named story ≡ view 9 (codes "u") ∷ view 1 (codes "v") ∷ []
its_rows = refl

-- a step is told with what it names, of which it has no bytes
a_commit : (row : Snapshot Plain) → told (steps.Commit row 11) ≡ story_steps.Commit row.value 11
a_commit row = refl

a_refusal : (refusal : Snapshot Refusal) → told (steps.Refused (tag 2) refusal) ≡ story_steps.Refused (tag 2) refusal.value
a_refusal refusal = refl

-- a fault leaves what was left before it, its own row, or nothing
abbrev a_fault_so : Snapshot Plain → Left → Fault
a_fault_so row left = record { row = row; left = left; before = 0; after = record { ticks = 12; faults = 1 } }

a_fault : (row : Snapshot Plain)
    → told_fault (Some (view 1 (codes "v"))) (a_fault_so row Earlier)
    ≡ story_steps.Fault row.value.tag (Some (view 1 (codes "v"))) 0 1 12
a_fault row = refl

a_row_left : (row : Snapshot Plain)
    → told_fault None (a_fault_so row InFlight) ≡ story_steps.Fault row.value.tag (Some row.value) 0 1 12
a_row_left row = refl

nothing_left : (row : Snapshot Plain)
    → told_fault (Some (view 1 (codes "v"))) (a_fault_so row Nothing) ≡ story_steps.Fault row.value.tag None 0 1 12
nothing_left row = refl
