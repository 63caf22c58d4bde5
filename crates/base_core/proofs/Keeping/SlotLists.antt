-- What the slots of the lanes say, slot by slot.
use Rattle.std.proofs.Common.{◌≡◌, ℕ, zero, suc, ◌+◌, ◌-◌, ◌<◌, ◌≤◌, Bool, true, false, cond, Option, Some, None, List, [], ◌∷◌}
use Rattle.std.proofs.Common.{length, get_or, refl, ap, ◌∙◌, arith}
use Rattle.std.specs.Prelude.{option_map, find, bytes_eq}
use Rattle.cc_names.specs.declared.rows.Tag.{Tag}
use Rattle.build_core.specs.Slots.{numbered_slots, held_in}
use Rattle.legal_history.specs.Builds.Active.{Build, build_of, building, is_of_view, build_tag, rows_reserved}
use Rattle.build_core.proofs.SlotLaws.{find_below, find_numbered}
use Rattle.build_core.proofs.Cames.{held_in_past}

-- the rows that the builds in some slots reserve
abbrev pub rows_of : List (Option Build) → ℕ
rows_of [] = 0
rows_of (None ∷ slots) = rows_of slots
rows_of (Some build ∷ slots) = length build.units + rows_of slots

pub reserved_rows : (k : ℕ) (slots : List (Option Build)) → rows_reserved (numbered_slots k slots) ≡ rows_of slots
reserved_rows k [] = refl
reserved_rows k (None ∷ slots) = reserved_rows (k + 1) slots
reserved_rows k (Some build ∷ slots) = ap (λ n. length build.units + n) (reserved_rows (k + 1) slots)

-- the first tag among the builds in some slots that are in the view
abbrev pub tag_in : List (Option Build) → List ℕ → Option Tag
tag_in [] v = None
tag_in (None ∷ slots) v = tag_in slots v
tag_in (Some build ∷ slots) v = cond (bytes_eq build.view v) (Some build.tag) (tag_in slots v)

tag_of_found : (b : Bool) (k : ℕ) (build : Build) (found : Option (ℕ × Build))
    → option_map build_tag (cond b (Some (k, build)) found) ≡ cond b (Some build.tag) (option_map build_tag found)
tag_of_found true k build found = refl
tag_of_found false k build found = refl

pub building_tag : (k : ℕ) (slots : List (Option Build)) (v : List ℕ) → building (numbered_slots k slots) v ≡ tag_in slots v
building_tag k [] v = refl
building_tag k (None ∷ slots) v = building_tag (k + 1) slots v
building_tag k (Some build ∷ slots) v =
    tag_of_found (bytes_eq build.view v) k build (find (is_of_view v) (numbered_slots (k + 1) slots))
    ∙ ap (cond (bytes_eq build.view v) (Some build.tag)) (building_tag (k + 1) slots v)

-- what a slot holds
pub held_there : {A : Type 0} (slots : List (Option A)) (i : ℕ) (d : Option A) → i < length slots
    → held_in slots i ≡ get_or slots i d
held_there [] i d h = absurd (omega arith)
held_there (slot ∷ slots) zero d h = refl
held_there (slot ∷ slots) (suc i) d h = held_there slots i d (omega arith)

-- the build of a lane
pub build_there : (slots : List (Option Build)) (lane : ℕ) (d : Option Build) → 1 ≤ lane → lane ≤ length slots
    → build_of (numbered_slots 1 slots) lane ≡ get_or slots (lane - 1) d
build_there slots lane d low high = find_numbered lane 1 (lane - 1) slots (omega arith)
    ∙ held_there slots (lane - 1) d (omega arith)

pub build_nowhere : (slots : List (Option Build)) (lane : ℕ) → length slots < lane → build_of (numbered_slots 1 slots) lane ≡ None
build_nowhere slots lane h = find_numbered lane 1 (lane - 1) slots (omega arith) ∙ held_in_past slots (lane - 1) (omega arith)

pub build_zero : (slots : List (Option Build)) → build_of (numbered_slots 1 slots) 0 ≡ None
build_zero slots = find_below 0 1 slots (omega arith)

-- no slot, no tag and no row
pub tag_none : (slots : List (Option Build)) (v : List ℕ) → length slots ≡ 0 → tag_in slots v ≡ None
tag_none [] v h = refl
tag_none (slot ∷ slots) v h = absurd (omega arith)

pub rows_none : (slots : List (Option Build)) → length slots ≡ 0 → rows_of slots ≡ 0
rows_none [] h = refl
rows_none (slot ∷ slots) h = absurd (omega arith)

-- the first slot's build is in the view
pub tag_first : (slots more : List (Option Build)) (slot : Option Build) (build : Build) (v : List ℕ) → slots ≡ slot ∷ more
    → slot ≡ Some build → bytes_eq build.view v ≡ true → tag_in slots v ≡ Some build.tag
tag_first slots more slot build v e is same = ap (λ xs. tag_in xs v) e ∙ ap (λ s. tag_in (s ∷ more) v) is
    ∙ ap (λ b. cond b (Some build.tag) (tag_in more v)) same
