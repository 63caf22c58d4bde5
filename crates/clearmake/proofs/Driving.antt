-- What becomes of a unit that is driven to its outcome.
use Rattle.std.proofs.Common.{◌≡◌, ◌≤◌, sym, subst, arith, ℕ, ◌+◌, Bool, true, false, not, Result, Ok, Err, List}
use Rattle.std.specs.Bool.{OnTrue}
use Rattle.std.specs.Prelude.{IfOk, OnErr, OnOk, is_ok}
use Rattle.std.specs.Result.{result_eq}
use mathlib.Core.List.{IsPrefix}
use Rattle.cc_names.specs.declared.memory.NoMemory.{NoMemory}
use Rattle.cc_names.specs.declared.rows.Tag.{Tag}
use Rattle.cc_names.specs.declared.steps.StoryStep.{StoryStep}
use Rattle.script_grammar.specs.Run.{Ran}
use Rattle.legal_history.specs.Stories.Lawful.{Legal}
use Rattle.legal_history.specs.Stories.Steps.{state_of}
use Rattle.clearmake.specs.Building.{IsSwept}
use Rattle.clearmake.specs.Calls.{IsCarried, IsOver, IsRunOfUnit, Tries, WaitsFor}
use Rattle.clearmake.specs.Driving.{IsDriven, IsTried}
use Rattle.clearmake.specs.Going.{Finishes, HasOutcome}
use Rattle.clearmake.specs.Passes.{AreDone, BuilderState, Builds, IsCommandPast, IsLaterOfBuilder, WereDone}
use Rattle.clearmake.specs.contracts.turns.TurnEndPartialEq.TheImpl.{eq-value}
use Rattle.clearmake.specs.declared.turns.TurnEnd.{TurnEnd}
use Rattle.clearmake.specs.declared.turns.TurnEnd.TheVariants as turn_ends
use Rattle.clearmake.specs.declared.turns.UnitTurn.{UnitTurn}
use Rattle.clearmake.specs.declared.turns.UnitTurn.TheVariants as turns
use Rattle.turn_lock.proofs.Prefixes.{begins_itself, begins_on}
use Rattle.clearmake.proofs.Begun.{of_builder}
use Rattle.clearmake.proofs.Later.{run_stays}
use Rattle.clearmake.proofs.Steps.{builds_on, done_later, done_more, finished_past, finishes_begins, goes_begins, is_over}
use Rattle.clearmake.proofs.Steps.{same_begins, waits_for_none}

-- a service's answer to a try
pub tries_so : (old new : List StoryStep) (tag : Tag) (count n : ℕ) (result : Result UnitTurn NoMemory) → Builds old tag count
    → IfOk result (λ turn. Tries old new tag.lane n turn) → OnErr result (new ≡ old) → Legal new →
    IsPrefix old new × IfOk result (λ turn. IsTried turn new tag count n)
tries_so old new tag count n (Ok (turns.End turn_ends.Concluded)) h ok err legal =
    (goes_begins old new tag.lane ok.0, (legal, builds_on old new tag count h ok.0, ok.1))
tries_so old new tag count n (Ok (turns.End (turn_ends.NotReady m))) h ok err legal = (
  same_begins old new ok.0,
  (
    legal,
    subst (λ t. Builds t tag count) (sym ok.0) h,
    subst (λ (t : List StoryStep). WaitsFor (state_of t) tag.lane n m)
        (sym ok.0) ok.1,
  ),
)
tries_so old new tag count n (Ok (turns.End turn_ends.Over)) h ok err legal =
    (finishes_begins old new tag.lane ok, finished_past old new tag h.next ok)
tries_so old new tag count n (Ok (turns.Run script targets)) h ok err legal =
    (goes_begins old new tag.lane ok.0, (builds_on old new tag count h ok.0, ok.1))
tries_so old new tag count n (Err error) h ok err legal = (same_begins old new err, tt)

-- a service's answer to a finish
pub finishes_so : (old new : List StoryStep) (tag : Tag) (count n : ℕ) (result : Result TurnEnd NoMemory) → Builds old tag count
    → IfOk result (λ end. IsCarried old new tag.lane n end) → OnErr result (new ≡ old) → Legal new →
    IsPrefix old new × IfOk result (λ end. IsDriven end new tag count n)
finishes_so old new tag count n (Ok turn_ends.Concluded) h ok err legal =
    (goes_begins old new tag.lane ok.0, (legal, builds_on old new tag count h ok.0, ok.1))
finishes_so old new tag count n (Ok (turn_ends.NotReady m)) h ok err legal = absurd ok
finishes_so old new tag count n (Ok turn_ends.Over) h ok err legal = (
  finishes_begins old new tag.lane ok,
  finished_past old new tag h.next ok,
)
finishes_so old new tag count n (Err error) h ok err legal = (same_begins old new err, tt)

-- the run of a unit as it began is its run now
pub run_now : (start story : List StoryStep) (tag : Tag) (count n : ℕ) (ran : Ran) → Builds start tag count
    → IsRunOfUnit (state_of start) tag.lane n ran → IsPrefix start story → Legal story →
    Builds story tag count → IsRunOfUnit (state_of story) tag.lane n ran
run_now start story tag count n ran h run p legal still = run_stays start story tag n ran h.next p legal still.next run

-- what holds of the first units after one more was driven: where it has its outcome they are one more, and it waits for none
pub one_more : (was now : List StoryStep) (tag : Tag) (count n : ℕ) → AreDone was tag count n → IsPrefix was now → Legal now
    × Builds now tag count × HasOutcome (state_of now) tag.lane n → AreDone now tag count (n + 1)
one_more was now tag count n h p settled = done_more now tag count n (done_later was now tag count n h p settled.0 settled.1.next)
    settled.1 settled.2

-- the first units had their outcomes, in this story or one before it: so it is in every longer story, of fewer units, and of one
-- more that has its outcome
pub were_here : (story : List StoryStep) (tag : Tag) (count n : ℕ) → AreDone story tag count n → WereDone story tag count n
were_here story tag count n done = record { seen = story; begins = begins_itself story; done = done }

pub were_on : (one two : List StoryStep) (tag : Tag) (count n : ℕ) → WereDone one tag count n → IsPrefix one two
    → WereDone two tag count n
were_on one two tag count n h p = record { seen = h.seen; begins = begins_on h.seen one two h.begins p; done = h.done }

pub were_fewer : (story : List StoryStep) (tag : Tag) (count m n : ℕ) → m ≤ n → WereDone story tag count n
    → WereDone story tag count m
were_fewer story tag count m n few h = record { seen = h.seen; begins = h.begins; done = λ k below. h.done k (omega arith) }

pub were_more : (one two : List StoryStep) (tag : Tag) (count n : ℕ) → WereDone one tag count n → IsPrefix one two → Legal two
    × Builds two tag count × HasOutcome (state_of two) tag.lane n → WereDone two tag count (n + 1)
were_more one two tag count n h p settled = were_here two tag count (n + 1)
    (one_more h.seen two tag count n h.done (begins_on h.seen one two h.begins p) settled)

pub builder_were : (old new : BuilderState) (n : ℕ) → IsLaterOfBuilder old new → WereDone old.pass.seen old.tag old.count n
    → WereDone new.pass.seen new.tag new.count n
builder_were old new n later h = of_builder (λ t k. WereDone new.pass.seen t k n) old new later
    (were_on old.pass.seen new.pass.seen old.tag old.count n h later.later.begins)

pub none_waits : (was now : List StoryStep) (tag : Tag) (count n m : ℕ) → AreDone was tag count n → IsPrefix was now → Legal now
    × Builds now tag count × WaitsFor (state_of now) tag.lane n m → ⊥
none_waits was now tag count n m h p waits =
    waits_for_none (state_of now) tag.lane n m waits.2 (done_later was now tag count n h p waits.0 waits.1.next m
    waits.2.earlier).1

-- whether a unit that was driven has no outcome, as a sweep tests it
abbrev pub is_left : (NoMemory → NoMemory → Bool) → Result TurnEnd NoMemory → Bool
is_left same driven = not (result_eq (eq-value).it same driven (Ok turn_ends.Concluded))

-- what holds of a unit that was driven and has its outcome
pub concluded_so : (same : NoMemory → NoMemory → Bool) (left : Bool) (driven : Result TurnEnd NoMemory) (P : TurnEnd → Type 0)
    → left ≡ is_left same driven → left ≡ false → IfOk driven P → P turn_ends.Concluded
concluded_so same left (Ok turn_ends.Concluded) P is settled h = h
concluded_so same left (Ok (turn_ends.NotReady m)) P is settled h = absurd (cc)
concluded_so same left (Ok turn_ends.Over) P is settled h = absurd (cc)
concluded_so same left (Err error) P is settled h = absurd (cc)

-- where a unit that was driven after all earlier ones has no outcome, the build is over
pub left_so : (was now : List StoryStep) (tag : Tag) (count n : ℕ) (same : NoMemory → NoMemory
    → Bool) (left : Bool) (driven : Result TurnEnd NoMemory) → AreDone was tag count n → IsPrefix was now →
    left ≡ is_left same driven → left ≡ true → IfOk driven (λ end. IsDriven end now tag count n)
    → IfOk driven (λ end. IsSwept end now tag count)
left_so was now tag count n same left (Ok turn_ends.Concluded) done p is waits h = absurd (cc)
left_so was now tag count n same left (Ok (turn_ends.NotReady m)) done p is waits h = none_waits was now tag count n m done p h
left_so was now tag count n same left (Ok turn_ends.Over) done p is waits h = h
left_so was now tag count n same left (Err error) done p is waits h = tt

-- a service's answer to the end of a build
pub ends_so : (old new : List StoryStep) (tag : Tag) (count : ℕ) (result : Result Prim.Unit NoMemory) → Builds old tag count
    → OnOk result (Finishes old new tag.lane) → OnErr result (new ≡ old) →
    IsPrefix old new × OnTrue (is_ok result) (IsCommandPast (state_of new) tag)
ends_so old new tag count (Ok done) h ok err = (finishes_begins old new tag.lane ok, finished_past old new tag h.next ok)
ends_so old new tag count (Err error) h ok err = (same_begins old new err, tt)

-- a build whose units all had their outcomes is over, as long as it goes on
pub over_now : (seen story : List StoryStep) (tag : Tag) (count : ℕ) → AreDone seen tag count count → IsPrefix seen story
    → Legal story → Builds story tag count → IsOver (state_of story) tag.lane
over_now seen story tag count done p legal h = is_over story tag count h
    (done_later seen story tag count count done p legal h.next)
