-- Steps of builds with one thing wrong, each refused.
use Rattle.std.proofs.Common.{refl, sym, ⊎_elim, Bool, true, false, Some, None, List, [], ◌∷◌, ◌++◌}
use Rattle.std.specs.Prelude.{codes, is_some, reverse}
use Rattle.cc_names.specs.Formed.{Plain}
use Rattle.cc_names.specs.declared.refusals.ScriptFault.TheVariants as script_faults
use Rattle.cc_names.specs.declared.refusals.UnitFault.TheVariants.{Script, NoRule}
use Rattle.cc_names.specs.declared.rows.Deed.{Deed}
use Rattle.cc_names.specs.declared.rows.Deed.TheVariants as deeds
use Rattle.cc_names.specs.declared.rows.ReadOf.{ReadOf}
use Rattle.cc_names.specs.declared.steps.StoryStep.{StoryStep}
use Rattle.cc_names.specs.declared.steps.StoryStep.TheVariants as story_steps
use Rattle.cc_names.specs.declared.steps.UnitEnd.TheVariants as ends
use Rattle.base_model.specs.Closures.{entries_of_deed}
use Rattle.legal_history.specs.Stories.States.{State}
use Rattle.legal_history.specs.Stories.Steps.{state_of}
use Rattle.legal_history.specs.Stories.Lawful.{Lawful}
use Rattle.legal_history.specs.Worked.{tag, row, base_of}
use Rattle.legal_history.proofs.Worked.FaultRows.{before_fault, published}
use Rattle.legal_history.proofs.Worked.NoSteps.{apart, published_is, no_second, no_second_row, no_publish, no_start}
use Rattle.legal_history.proofs.Worked.NoSteps.{no_second_start, no_end, no_failure, no_early_end, no_keep, no_wink}
use Rattle.legal_history.proofs.Worked.StoryParts.{one_lane}
use Rattle.legal_history.proofs.Worked.TwoViews.{v, w, hi, makefile, script, clearmake, publish, first_deeds}

-- the build of private files has begun, and its unit was started
abbrev started : State
started = state_of before_fault

-- a row of the unit that was started, with no entry for what its script reads
abbrev without_entries : Plain
without_entries = row 4 (deeds.Publish v (codes "out" ∷ []) script [] (hi ∷ []))

is_empty_record : Deed → Bool
is_empty_record deed = none (entries_of_deed (Some deed))
  where
    none : List ReadOf → Bool
    none [] = true
    none (entry ∷ entries) = false

an_entry_too_few : Lawful started (story_steps.Commit without_entries 19) → ⊥
unfolding is_empty_record
an_entry_too_few h = apart is_empty_record (published_is refl refl refl refl h.may.made) refl refl

a_fault_that_left_another_object : Lawful started (story_steps.Fault (tag 1 1 4) (Some without_entries) 0 1 17) → ⊥
unfolding is_empty_record
a_fault_that_left_another_object h =
    ⊎_elim (λ made. apart is_empty_record (published_is refl refl refl refl made.1.made) refl refl)
    (λ e. apart is_some (sym e) refl refl) h.leaves

a_second_start : Lawful started (story_steps.Start (tag 1 1 4) 0) → ⊥
a_second_start h = no_second_start refl refl h

a_failure_of_a_run_that_succeeds : Lawful started (story_steps.Concluded (tag 1 1 4) 0
    (ends.Failed (Script (script_faults.Absent (codes "in"))))) → ⊥
a_failure_of_a_run_that_succeeds h = no_failure refl refl refl h

a_failure_without_a_run : Lawful started (story_steps.Concluded (tag 1 1 4) 0 (ends.Failed (NoRule (codes "in"))))
    → ⊥
a_failure_without_a_run h = no_early_end refl refl refl h

ended_too_early : Lawful started (story_steps.End (tag 1 1 4)) → ⊥
ended_too_early h = no_end refl refl h

-- a build whose one prerequisite is not there, which ends without a run, once
abbrev without_source : List StoryStep
without_source =
    story_steps.Opened (reverse (base_of (deeds.Mkview v ∷ deeds.Put v (codes "Makefile") makefile ∷ [])))
    (record { ticks = 0; faults = 0 }) true
    ∷ story_steps.PhaseBegun (one_lane (clearmake v ∷ [])) 1700000000 ∷ story_steps.Begin (tag 1 1 1) 3 1 ∷ []

abbrev no_source : StoryStep
no_source = story_steps.Concluded (tag 1 1 1) 0 (ends.Failed (NoRule (codes "in")))

a_first_outcome : Lawful (state_of without_source) no_source
a_first_outcome = record {
  build = _;
  unit = _;
  waits = record { active = refl; is_unit = refl; waits = refl };
  faultless = refl;
  ready = refl;
  ends = refl;
}

a_second_outcome : Lawful (state_of (without_source ++ (no_source ∷ []))) no_source → ⊥
a_second_outcome h = no_second refl refl h.waits

-- after the row of the unit that was started
abbrev built : State
built = state_of (before_fault ++ (story_steps.Commit (published 4) 19 ∷ []))

a_second_row : Lawful built (story_steps.Commit (published 4) 23) → ⊥
a_second_row h = no_second_row refl refl refl h.may.made

-- the second build has begun, in the view that holds the first one's object
abbrev begun_again : State
begun_again = state_of (before_fault ++ (story_steps.Commit (published 4) 19 ∷ story_steps.End (tag 1 1 4)
    ∷ story_steps.Begin (tag 1 1 5) 5 1 ∷ []))

a_wink_of_what_is_held : Lawful begun_again (story_steps.Commit (row 5 (deeds.Wink v 4)) 23) → ⊥
a_wink_of_what_is_held h = no_wink refl refl refl refl h.may.made

-- a build has begun in a view that holds nothing, and could wink in the object of another view
abbrev begun_in_w : State
begun_in_w = state_of (
    story_steps.Opened (reverse (base_of (first_deeds ++ (publish ∷ deeds.Mkview w ∷ [])))) (record { ticks = 0; faults = 0 })
    true
    ∷ story_steps.PhaseBegun (one_lane (clearmake w ∷ [])) 1700000000 ∷ story_steps.Begin (tag 1 1 1) 12 1 ∷ [])

kept_and_not_held : Lawful begun_in_w (story_steps.Concluded (tag 1 1 1) 0 (ends.Kept 10)) → ⊥
kept_and_not_held h = no_keep refl refl refl h

-- after a fault under the build
abbrev faulted : State
faulted = state_of (before_fault ++ (story_steps.Fault (tag 1 1 4) None 0 1 17 ∷ []))

a_start_after_a_fault : Lawful faulted (story_steps.Start (tag 1 1 4) 0) → ⊥
a_start_after_a_fault h = no_start refl refl h

-- the row that was to be committed is not committed once more
a_row_after_a_fault : Lawful faulted (story_steps.Commit (published 4) 21) → ⊥
a_row_after_a_fault h = no_publish refl refl h.may.made
