-- What a failed call leaves after the list.
use Rattle.std.specs.Prelude.{◌≡◌, ◌≤◌, ◌+◌, ℕ, Bool, true, false, if◌then◌else◌, List, [], ◌∷◌}
use Rattle.disk_model.specs.Counting.{next_count}
use Rattle.vob_journal.specs.declared.left.Left.{Left}
use Rattle.vob_journal.specs.declared.left.Left.TheVariants.{Nothing, Earlier, InFlight}

-- the rows that may be found after the list, from those before the call and the payload in flight
abbrev pub leftover_after : Left → List (List ℕ) → List ℕ → List (List ℕ)
leftover_after Nothing leftover payload = []
leftover_after Earlier leftover payload = leftover
leftover_after InFlight leftover payload = payload ∷ []

-- whether the tail is settled then
abbrev pub settled_after : Left → Bool
settled_after Nothing = true
settled_after Earlier = false
settled_after InFlight = false

-- the calls that settle a tail
abbrev pub calls_to_settle : Bool → ℕ
calls_to_settle settled = if settled then 0 else 2

-- The phase of a commit in which a call failed, by what it left, with the count of calls before the commit and after it: what was
-- left over is left over where the tail could not be settled, nothing is where the frame was not written or not synced, and the
-- row in flight is where the gate was not opened for certain.
abbrev pub FailsInPhase : Bool → Left → ℕ → ℕ → Type 0
FailsInPhase settled Earlier old new = (settled ≡ false) × (new ≤ old + 2)
FailsInPhase settled Nothing old new =
    (next_count (old + calls_to_settle settled) ≤ new) × (new ≤ old + calls_to_settle settled + 2)
FailsInPhase settled InFlight old new =
    (next_count (old + calls_to_settle settled + 2) ≤ new) × (new ≤ old + calls_to_settle settled + 4)
