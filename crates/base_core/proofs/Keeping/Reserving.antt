-- The builds in the slots of the lanes, after one slot is set: who is found, and what is reserved.
use Rattle.std.proofs.Common.{◌≡◌, ◌≢◌, ℕ, zero, suc, ◌+◌, ◌-◌, ◌<◌, ◌≤◌, Option, Some, None, List, [], ◌∷◌, length, set, refl}
use Rattle.std.proofs.Common.{sym, ◌∙◌, arith}
use Rattle.build_core.specs.Slots.{numbered_slots, held_in}
use Rattle.legal_history.specs.Builds.Active.{Build, build_of, rows_reserved}
use Rattle.build_core.proofs.SlotLaws.{find_numbered, find_below}

-- what a slot holds that was set, and another
held_set : {A : Type 0} (slots : List (Option A)) (i : ℕ) (a : Option A) → i < length slots → held_in (set slots i a) i ≡ a
held_set [] i a h = absurd (omega arith)
held_set (slot ∷ slots) zero a h = refl
held_set (slot ∷ slots) (suc i) a h = held_set slots i a (omega arith)

held_other : {A : Type 0} (slots : List (Option A)) (i j : ℕ) (a : Option A) → j ≢ i → held_in (set slots i a) j ≡ held_in slots j
held_other [] i j a differs = refl
held_other (slot ∷ slots) zero zero a differs = absurd (differs refl)
held_other (slot ∷ slots) zero (suc j) a differs = refl
held_other (slot ∷ slots) (suc i) zero a differs = refl
held_other (slot ∷ slots) (suc i) (suc j) a differs = held_other slots i j a (λ e. differs (omega arith))

-- the build of the lane whose slot was set, and of another lane
pub found_set : (slots : List (Option Build)) (lane : ℕ) (a : Option Build) → 1 ≤ lane → lane ≤ length slots
    → build_of (numbered_slots 1 (set slots (lane - 1) a)) lane ≡ a
found_set slots lane a low high = find_numbered lane 1 (lane - 1) (set slots (lane - 1) a) (omega arith)
    ∙ held_set slots (lane - 1) a (omega arith)

pub found_other : (slots : List (Option Build)) (lane other : ℕ) (a : Option Build) → 1 ≤ lane → other ≢ lane
    → build_of (numbered_slots 1 (set slots (lane - 1) a)) other ≡ build_of (numbered_slots 1 slots) other
found_other slots lane zero a low differs = find_below 0 1 (set slots (lane - 1) a) (omega arith)
    ∙ sym (find_below 0 1 slots (omega arith))
found_other slots lane (suc j) a low differs =
    find_numbered (suc j) 1 j (set slots (lane - 1) a) (omega arith)
    ∙ held_other slots (lane - 1) j a (λ e. differs (omega arith))
    ∙ sym (find_numbered (suc j) 1 j slots (omega arith))

-- one row for each unit of a build, if there is one
abbrev pub rows_for : Option Build → ℕ
rows_for None = 0
rows_for (Some build) = length build.units

-- what is reserved, with what the slot reserved before, is what was reserved, with what the slot reserves now
pub reserved_set : (k i : ℕ) (slots : List (Option Build)) (a : Option Build) → i < length slots
    → rows_reserved (numbered_slots k (set slots i a)) + rows_for (held_in slots i)
    ≡ rows_reserved (numbered_slots k slots) + rows_for a
reserved_set k i [] a h = absurd (omega arith)
reserved_set k zero (None ∷ slots) None h = refl
reserved_set k zero (None ∷ slots) (Some build) h = omega arith
reserved_set k zero (Some old ∷ slots) None h = omega arith
reserved_set k zero (Some old ∷ slots) (Some build) h = omega arith
reserved_set k (suc i) (None ∷ slots) a h = reserved_set (k + 1) i slots a (omega arith)
reserved_set k (suc i) (Some old ∷ slots) a h = omega (arith, reserved_set (k + 1) i slots a (omega arith))
