-- Steps that open, plan and decide, and rows and faults, each with one thing wrong and refused.
use Rattle.std.proofs.Common.{◌≡◌, refl, sym, ⊎_elim, ℕ, ◌≤◌, Bool, true, false, Option, Some, None, Result, Ok, Err, List, []}
use Rattle.std.proofs.Common.{◌∷◌, ◌++◌, length, arith}
use Rattle.std.specs.Prelude.{codes, is_some, is_none, not, nat_eq, reverse, bytes_eq}
use Rattle.cc_names.specs.declared.commands.Command.TheVariants as commands
use Rattle.cc_names.specs.declared.commands.Query.TheVariants as queries
use Rattle.cc_names.specs.declared.commands.Change.TheVariants as changes
use Rattle.cc_names.specs.declared.refusals.Refusal.{Refusal}
use Rattle.cc_names.specs.declared.refusals.Refusal.TheVariants as refusals
use Rattle.cc_names.specs.declared.rows.Deed.TheVariants as deeds
use Rattle.cc_names.specs.declared.steps.StoryStep.{StoryStep}
use Rattle.cc_names.specs.declared.steps.StoryStep.TheVariants as story_steps
use Rattle.legal_history.specs.Commands.Decisions.{Decision, Makes, Answers}
use Rattle.legal_history.specs.Stories.States.{State, decision_for, start}
use Rattle.legal_history.specs.Stories.Steps.{state_of}
use Rattle.legal_history.specs.Stories.Lawful.{Lawful}
use Rattle.legal_history.specs.Queries.VersionNames.{line}
use Rattle.legal_history.specs.Worked.{tag, row, base_of}
use Rattle.legal_history.proofs.Worked.FaultRows.{before_build, before_fault}
use Rattle.legal_history.proofs.Worked.NoSteps.{apart, units_are, no_row}
use Rattle.legal_history.proofs.Worked.StoryParts.{opened, one_lane}
use Rattle.legal_history.proofs.Worked.TwoViews.{v, w, publish, all_deeds}

-- the build of private files has begun, and its unit was started
abbrev started : State
started = state_of before_fault

opened_twice : Lawful started opened → ⊥
opened_twice h = apart (λ b. b) h.first refl refl

opened_on_no_base : Lawful start (story_steps.Opened (row 1 (deeds.Rmview v) ∷ []) (record { ticks = 0; faults = 0 }) true) → ⊥
opened_on_no_base h = apart not h.fits refl refl

-- a view without a name fits, and no journal spells it
opened_on_a_row_without_form : Lawful start (story_steps.Opened (row 1 (deeds.Mkview []) ∷ []) (record { ticks = 0; faults = 0 })
    true) → ⊥
opened_on_a_row_without_form h = absurd (let named = h.formed.0.deed.no_fault in cc)

planned_too_early : Lawful started (story_steps.PhaseBegun (one_lane []) 1700000000) → ⊥
planned_too_early h = apart not h.finished refl refl

planned_before_it_is_opened : Lawful start (story_steps.PhaseBegun (one_lane []) 1700000000) → ⊥
planned_before_it_is_opened h = apart not h.opened refl refl

planned_after_the_last_moment : Lawful (state_of (opened ∷ [])) (story_steps.PhaseBegun (one_lane []) 253402300800) → ⊥
planned_after_the_last_moment h = let late : 253402300800 ≤ 253402300799 = h.in_time in omega arith

-- a scrub is the next command. View w has dropped the object of row 10, which is due; view v holds that of row 13
abbrev scrubbing : State
scrubbing = state_of (
    story_steps.Opened (reverse (base_of (all_deeds ++ (publish ∷ deeds.Drop w (codes "out") ∷ []))))
    (record { ticks = 0; faults = 0 }) true
    ∷ story_steps.PhaseBegun (one_lane (commands.Change (changes.Scrub 0) ∷ commands.Query (queries.Lsdo v) ∷ [])) 1700000000
    ∷ [])

the_scrub_takes_one : decision_for scrubbing (tag 1 1 1) ≡ Some (Ok (Makes (deeds.Scrub (10 ∷ []))))
the_scrub_takes_one = refl

-- whether a decision is to make a row that scrubs this many objects
scrubs : ℕ → Option (Result Decision Refusal) → Bool
scrubs n (Some (Ok (Makes (deeds.Scrub objects)))) = nat_eq (length objects) n
scrubs n decision_for = false

a_scrub_of_one_too_many : Lawful scrubbing (story_steps.Commit (row 1 (deeds.Scrub (10 ∷ 13 ∷ []))) 1) → ⊥
unfolding scrubs
a_scrub_of_one_too_many h = apart (λ d. not (scrubs 2 d)) h.may.made refl refl

a_row_of_another_moment : Lawful scrubbing (story_steps.Commit (record {
  tag = tag 1 1 1;
  moment = 1700000001;
  deed = deeds.Scrub (10 ∷ []);
}) 1) → ⊥
a_row_of_another_moment h = apart (λ moment. nat_eq moment 1700000001) h.may.moment refl refl

a_tick_that_stands_still : Lawful scrubbing (story_steps.Commit (row 1 (deeds.Scrub (10 ∷ []))) 0) → ⊥
a_tick_that_stands_still h = apart not h.ticked refl refl

an_answer_out_of_turn : Lawful scrubbing (story_steps.Answer (tag 1 1 2) (line (codes "out@@13 references 1"))) → ⊥
an_answer_out_of_turn h = apart is_none h refl refl

-- whether a decision is a refusal
is_refused : Option (Result Decision Refusal) → Bool
is_refused (Some (Err refusal)) = true
is_refused decision_for = false

a_refusal_without_a_reason : Lawful scrubbing (story_steps.Refused (tag 1 1 1) refusals.NoView) → ⊥
unfolding is_refused
a_refusal_without_a_reason h = apart (λ d. not (is_refused d)) h refl refl

-- whether a decision is to answer this text
answers : List ℕ → Option (Result Decision Refusal) → Bool
answers text (Some (Ok (Answers answer))) = bytes_eq text answer
answers text decision_for = false

-- a fault where the scrub's row was to be committed
abbrev scrub_fault : List ℕ → ℕ → ℕ → StoryStep
scrub_fault objects before faults = story_steps.Fault (tag 1 1 1) (Some (row 1 (deeds.Scrub objects))) before faults
    1

a_fault_that_left_another_row : Lawful scrubbing (scrub_fault (10 ∷ 13 ∷ []) 0 1) → ⊥
unfolding scrubs
a_fault_that_left_another_row h =
    ⊎_elim (λ made. apart (λ d. not (scrubs 2 d)) made.1.made refl refl) (λ e. apart is_some (sym e) refl refl) h.leaves

a_fault_without_a_rise : Lawful scrubbing (scrub_fault (10 ∷ []) 1 1) → ⊥
a_fault_without_a_rise h = apart not h.rose refl refl

-- a query is the next command
abbrev asked : State
asked = state_of (opened ∷ story_steps.PhaseBegun (one_lane (commands.Change (changes.Mkview v) ∷ commands.Query (queries.Lsdo v)
    ∷ [])) 1700000000 ∷ story_steps.Commit (row 1 (deeds.Mkview v)) 7 ∷ [])

an_answer_of_another_text : Lawful asked (story_steps.Answer (tag 1 1 2) (codes "out")) → ⊥
unfolding answers
an_answer_of_another_text h = apart (answers []) h refl refl

a_fault_where_no_row_was_to_be_made : Lawful asked (story_steps.Fault (tag 1 1 2) None 0 1 8) → ⊥
a_fault_where_no_row_was_to_be_made h = no_row refl refl h.wanted

-- the build of private files is the next command
abbrev waiting : State
waiting = state_of before_build

a_begin_with_two_units : Lawful waiting (story_steps.Begin (tag 1 1 4) 4 2) → ⊥
a_begin_with_two_units h = apart (λ n. nat_eq n 2) (units_are refl h) refl refl

a_begin_at_other_rows : Lawful waiting (story_steps.Begin (tag 1 1 4) 3 1) → ⊥
a_begin_at_other_rows h = apart (λ n. nat_eq n 3) h.at_rows refl refl

-- the disk has failed twice before, and the next fault's count begins below that
abbrev twice_failed : State
twice_failed = state_of (before_fault ++ (story_steps.Fault (tag 1 1 4) None 0 2 17 ∷ []))

a_fault_before_the_last_one : Lawful twice_failed (story_steps.Fault (tag 1 1 4) None 1 3 19) → ⊥
a_fault_before_the_last_one h = let later : 2 ≤ 1 = h.later in omega arith
