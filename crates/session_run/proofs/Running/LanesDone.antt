-- Where each lane of a phase has nothing left to do, all of its commands are finished.
use Rattle.std.proofs.Common.{◌≡◌, ℕ, true, Result, Ok, Err, List, length, arith}
use Rattle.std.specs.Prelude.{OnOk}
use Rattle.cc_names.specs.declared.steps.StoryStep.{StoryStep}
use Rattle.legal_history.specs.Stories.Commanded.{next_command_of}
use Rattle.legal_history.specs.Stories.Lanes.{IsWithin}
use Rattle.legal_history.specs.Stories.States.{all_done, next_tag}
use Rattle.legal_history.specs.Stories.Steps.{state_of}
use Rattle.clearmake.specs.Passes.{AreLanesDone}
use Rattle.clearmake.proofs.Nexts.{none_by}
use Rattle.session_run.proofs.Running.Within.{all_finished, finished_where}

phase_is_done : (story : List StoryStep) (lanes number : ℕ) → lanes ≡ length (state_of story).phase.lanes
    → ((k : ℕ) → IsWithin (state_of story) k) → AreLanesDone story 1 lanes number → all_done (state_of story) ≡ true
phase_is_done story lanes number count within done =
    all_finished (state_of story) (λ k from upto.
    let lane = done k from (omega (arith, count, upto)) in
    finished_where (state_of story) k (within k) (none_by (next_command_of (state_of story) k) (next_tag (state_of story) k)
    lane.finished))

-- so it is by what running the lanes answered
pub phase_done_if : {A E : Type 0} (ran : Result A E) (story : List StoryStep) (lanes number : ℕ)
    → lanes ≡ length (state_of story).phase.lanes → ((k : ℕ) → IsWithin (state_of story) k)
    → OnOk ran (AreLanesDone story 1 lanes number) → OnOk ran (all_done (state_of story) ≡ true)
phase_done_if (Ok a) story lanes number count within h = phase_is_done story lanes number count within h
phase_done_if (Err error) story lanes number count within h = tt
