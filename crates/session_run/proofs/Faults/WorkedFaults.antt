-- Whose fault it was, worked out by hand: a row is committed, the disk fails under the next, and a third is committed.
use Rattle.std.proofs.Common.{◌≡◌, ℕ, true, false, Some, None, List, [], ◌∷◌, ◌++◌, reverse, refl, arith}
use Rattle.std.specs.Prelude.{codes}
use Rattle.cc_names.specs.Formed.{Plain}
use Rattle.cc_names.specs.declared.rows.Deed.TheVariants as deeds
use Rattle.cc_names.specs.declared.rows.Tag.{Tag}
use Rattle.cc_names.specs.declared.steps.Counts.{Counts}
use Rattle.cc_names.specs.declared.steps.StoryStep.{StoryStep}
use Rattle.cc_names.specs.declared.steps.StoryStep.TheVariants as story_steps
use Rattle.disk_model.specs.Devices.{Event, Measured, Fetched, Wrote, Synced, Failed, Device}
use Rattle.session_run.specs.Faults.Blamed.{IsBlamed, reads_first}

tag : ℕ → Tag
tag command = record { phase = 1; lane = 1; command = command }

row : ℕ → Plain
row command = record { tag = tag command; moment = 5; deed = deeds.Mkview (codes "v") }

no_counts : Counts
no_counts = record { ticks = 0; faults = 0 }

-- a piece that was put down
put : List Event
put = Wrote 0 0 1 (0 ∷ []) ∷ Synced 0 ∷ []

device : List Event → Device
device calls = record { journal = []; objects = []; calls = reverse calls }

-- the opening measures the journal; a commit takes ticks 2 to 5; the sync of tick 7 fails; after it the tail is settled and
-- the next row committed by tick 13
calls : List Event
calls = Measured 0 ∷ put ++ put ++ Wrote 0 0 1 (0 ∷ []) ∷ Failed ∷ put ++ put ++ put

opened : StoryStep
opened = story_steps.Opened [] no_counts true

fault : ℕ → ℕ → ℕ → ℕ → StoryStep
fault command before faults tick = story_steps.Fault (tag command) None before faults tick

-- one whose row may be found until the tail is settled
leaving : ℕ → ℕ → ℕ → ℕ → StoryStep
leaving command before faults tick = story_steps.Fault (tag command) (Some (row command)) before faults tick

good : IsBlamed 0 (opened ∷ story_steps.Commit (row 1) 5 ∷ fault 2 0 1 7 ∷ story_steps.Commit (row 3) 13 ∷ []) (device calls)
unfolding device calls put opened fault
good = record { opening = refl; ends = (refl, (λ within. (refl, refl, refl), (refl, tt))); behind = refl }

-- the first two commands of a session, the second of which fails at its last sync, and then these calls
broken : List Event → Device
broken more = device (Measured 0 ∷ put ++ put ++ put ++ Wrote 0 0 1 (0 ∷ []) ∷ Failed ∷ more)

-- the tail that it left open is settled, or a call of that fails
settling : IsBlamed 0 (opened ∷ story_steps.Commit (row 1) 5 ∷ leaving 2 0 1 9 ∷ []) (broken put)
unfolding device broken put opened leaving
settling = record { opening = refl; ends = (refl, (λ within. (refl, refl, refl), tt)); behind = (omega arith, omega arith) }

settling_fails : IsBlamed 0 (opened ∷ story_steps.Commit (row 1) 5 ∷ leaving 2 0 1 9 ∷ []) (broken (Failed ∷ []))
unfolding device broken put opened leaving
settling_fails = record { opening = refl; ends = (refl, (λ within. (refl, refl, refl), tt)); behind = (omega arith, omega arith) }

-- so it is where the first command failed as it settled a tail that was opened open
as_opened : IsBlamed 0 (opened ∷ fault 1 0 1 2 ∷ []) (device (Measured 0 ∷ Failed ∷ put))
unfolding device put opened fault
as_opened = record { opening = refl; ends = (λ within. (refl, refl, refl), tt); behind = (omega arith, omega arith) }

-- The dodge: a failed append is tried once more, its row committed by tick 9, and the fault told of the next command, at
-- whatever tick and with whatever counts.
dodge : (before faults tick : ℕ) → IsBlamed 0 (opened ∷ story_steps.Commit (row 1) 9 ∷ fault 2 before faults tick ∷ [])
    (device (Measured 0 ∷ Wrote 0 0 1 (0 ∷ []) ∷ Failed ∷ put ++ put ++ put)) → ⊥
unfolding device put opened fault
dodge before faults tick h = absurd (omega (arith, h.ends.0))

-- or it is told of no command
unblamed : IsBlamed 0 (opened ∷ story_steps.Commit (row 1) 5 ∷ []) (device (Measured 0 ∷ put ++ put ++ Failed ∷ [])) → ⊥
unfolding device put opened
unblamed h = absurd (omega (arith, h.behind))

-- Or the fault before takes it in: the sync of tick 7 fails under command 2, the write of tick 8 under command 3, which is
-- answered by something else, and the fault is told with both.
blamed_as_settling : (before faults : ℕ) → IsBlamed 0 (opened ∷ story_steps.Commit (row 1) 5 ∷ fault 2 before faults 8 ∷ [])
    (device (Measured 0 ∷ put ++ put ++ Wrote 0 0 1 (0 ∷ []) ∷ Failed ∷ Failed ∷ [])) → ⊥
unfolding device put opened fault
blamed_as_settling before faults h =
    let meets = h.ends.1.0 (omega arith) in
    absurd (omega (arith, meets.0, meets.1, meets.2))

-- Or it hides after the last fault, which left nothing: the write of tick 8 fails under command 3, which is answered by want of
-- memory.
hidden : IsBlamed 0 (opened ∷ story_steps.Commit (row 1) 5 ∷ fault 2 0 1 7 ∷ [])
    (device (Measured 0 ∷ put ++ put ++ Wrote 0 0 1 (0 ∷ []) ∷ Failed ∷ Failed ∷ [])) → ⊥
unfolding device put opened fault
hidden h = absurd (omega (arith, h.behind))

-- or after one that left a row, and the tail is settled then, or that fails too
hidden_and_settled : IsBlamed 0 (opened ∷ story_steps.Commit (row 1) 5 ∷ leaving 2 0 1 9 ∷ []) (broken (Failed ∷ put)) → ⊥
unfolding device broken put opened leaving
hidden_and_settled h = absurd (omega (arith, h.behind.0))

hidden_and_not_settled : IsBlamed 0 (opened ∷ story_steps.Commit (row 1) 5 ∷ leaving 2 0 1 9 ∷ []) (broken (Failed ∷ Failed ∷ []))
    → ⊥
unfolding device broken put opened leaving
hidden_and_not_settled h = absurd (omega (arith, h.behind.1))

-- no call stands after the last commit, whether it failed or not
behind_commit : IsBlamed 0 (opened ∷ story_steps.Commit (row 1) 5 ∷ []) (device (Measured 0 ∷ put ++ put ++ put)) → ⊥
unfolding device put opened
behind_commit h = absurd (omega (arith, h.behind))

-- a fault under which no call failed
made_up : IsBlamed 0 (opened ∷ fault 1 0 1 5 ∷ []) (device (Measured 0 ∷ put ++ put)) → ⊥
unfolding device put opened fault
made_up h = absurd (omega (arith, (h.ends.0 (omega arith)).1))

-- a read that failed as the base was opened, and was made once more, is no fault of the first command
reread : reads_first (Measured 0 ∷ Failed ∷ Fetched 0 0 4 ∷ []) ≡ false
reread = refl

-- What calls cannot tell: one that was made without need under a query, and failed, may be told of the command after the query,
-- since these are the calls of a run that is right. The calls of the core tell it.
without_need : IsBlamed 0 (opened ∷ story_steps.Answer (tag 1) [] ∷ fault 2 0 1 2 ∷ [])
    (device (Measured 0 ∷ Failed ∷ []))
unfolding device opened fault
without_need = record { opening = refl; ends = (λ within. (refl, refl, refl), tt); behind = (omega arith, omega arith) }
