-- What becomes of lanes on threads.
use Rattle.std.proofs.Common.{◌≡◌, sym, subst, ℕ, ◌+◌, ◌≤◌, Bool, false, Result, Ok, Err, ⊎_elim, List, lt_of_not-le, arith}
use Rattle.std.specs.Prelude.{OnOk, is_err}
use Rattle.std.specs.Result.{result_and}
use native.Mathlib.Decide.{dec_le}
use mathlib.Core.Logic.{dite}
use mathlib.Core.List.{IsPrefix}
use Rattle.cc_names.specs.declared.memory.NoMemory.{NoMemory}
use Rattle.cc_names.specs.declared.steps.StoryStep.{StoryStep}
use Rattle.legal_history.specs.Stories.Lawful.{Legal}
use Rattle.legal_history.specs.Stories.Steps.{state_of}
use Rattle.turn_lock.specs.PassState.{IsLongerOf}
use Rattle.clearmake.specs.Passes.{AreLanesDone, IsLaneDone}
use Rattle.clearmake.proofs.Joins.{both_begin}
use Rattle.clearmake.proofs.Later.{finished_stays}

-- the phase of a story in which some lanes are done
abbrev InPhase : ℕ → List StoryStep → Type 0
InPhase number story = Legal story × ((state_of story).number ≡ number)

in_phase : (story : List StoryStep) (first lanes number : ℕ) → 1 ≤ lanes → AreLanesDone story first lanes number
    → InPhase number story
in_phase story first lanes number some h = let one = h first (omega arith) (omega arith) in (one.legal, one.of_phase)

-- two groups of lanes, one after the other, that are done in two stories are done in the longer
pub lanes_joined : (first here others lanes number : ℕ) (one two joined : List StoryStep) → 1 ≤ here → 1 ≤ others
    → here + others ≡ lanes →
    AreLanesDone one first here number → AreLanesDone two (first + here) others number → IsLongerOf one two joined
    → AreLanesDone joined first lanes number
lanes_joined first here others lanes number one two joined some more sum h g longer lane low high =
    let begin = both_begin one two joined longer in
    let phase : InPhase number joined = ⊎_elim
    (λ (e : (joined ≡ one) × IsPrefix two one). subst (InPhase number) (sym e.0) (in_phase one first here number some h))
    (λ (e : (joined ≡ two) × IsPrefix one two). subst (InPhase number) (sym e.0)
    (in_phase two (first + here) others number more g))
    longer in
    dite (dec_le (first + here) lane)
    (λ late. finished_stays two joined lane number begin.1 phase.0 phase.1 (g lane late (omega arith)))
    (λ early. finished_stays one joined lane number begin.0 phase.0 phase.1 (h lane low (lt_of_not-le early)))

-- a lane more that is done in a later story makes one more of the lanes that were done
pub one_more_done : (lanes number : ℕ) (old new : List StoryStep) → IsPrefix old new → AreLanesDone old 1 lanes number
    → IsLaneDone new (lanes + 1) number → AreLanesDone new 1 (lanes + 1) number
one_more_done lanes number old new p h last lane low high =
    dite (dec_le lane lanes)
    (λ earlier. finished_stays old new lane number p last.legal last.of_phase (h lane low (omega arith)))
    (λ no. subst (λ n. IsLaneDone new n number) (let is : lanes + 1 ≡ lane = omega arith in is) last)

-- two calls that both had memory, for two groups of lanes: they are done in the longer story
pub both_done : (first here others lanes number : ℕ) (one two joined : List StoryStep)
    (ran others_ran : Result Prim.Unit NoMemory) → 1 ≤ here → 1 ≤ others → here + others ≡ lanes →
    OnOk ran (AreLanesDone one first here number) → OnOk others_ran (AreLanesDone two (first + here) others number)
    → IsLongerOf one two joined →
    OnOk (result_and ran others_ran) (AreLanesDone joined first lanes number)
both_done first here others lanes number one two joined (Ok done) (Ok others_done) some more sum h g longer =
    lanes_joined first here others lanes number one two joined some more sum h g longer
both_done first here others lanes number one two joined (Ok done) (Err error) some more sum h g longer = tt
both_done first here others lanes number one two joined (Err error) others_ran some more sum h g longer = tt

-- what holds of a call that did not fail
pub did_not_fail : {A : Type 0} (failed : Bool) (ran : Result Prim.Unit NoMemory) → failed ≡ is_err ran → failed ≡ false
    → OnOk ran A → A
did_not_fail failed (Ok done) is had a = a
did_not_fail failed (Err error) is had a = absurd (cc)
