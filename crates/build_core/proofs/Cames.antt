-- What units have come to, in the slots that the program keeps.
use Rattle.std.proofs.Common.{◌≡◌, ℕ, zero, suc, ◌+◌, ◌<◌, ◌≤◌, Option, Some, None, List, [], ◌∷◌, ◌++◌, length, get_or, refl}
use Rattle.std.proofs.Common.{ap, sym, ◌∙◌, arith}
use Rattle.std.proofs.Math.ListN.{set}
use Rattle.std.proofs.lemmas.List.{map-set, length-map}
use Rattle.std.specs.Option.{option_map}
use Rattle.std.specs.Ordering.{nat_cmp}
use Rattle.std.specs.FinMap.Entries.{put, find}
use Rattle.legal_history.specs.Builds.Active as model
use Rattle.build_core.specs.Comes.{came_of, cames_of, comes_of}
use Rattle.build_core.specs.Slots.{numbered_slots, held_in}
use Rattle.build_core.specs.declared.active.Came.{Came}
use Rattle.build_core.proofs.SlotLaws.{find_numbered, put_numbered}

pub held_in_read : {A : Type 0} (slots : List (Option A)) (n : ℕ) (slot : Option A) → n < length slots → slot ≡ get_or slots n slot
    → held_in slots n ≡ slot
held_in_read [] n slot h e = absurd (omega arith)
held_in_read (x ∷ slots) zero slot h e = sym e
held_in_read (x ∷ slots) (suc n) slot h e = held_in_read slots n slot (omega arith) e

pub held_in_past : {A : Type 0} (slots : List (Option A)) (n : ℕ) → length slots ≤ n → held_in slots n ≡ None
held_in_past [] n h = refl
held_in_past (x ∷ slots) zero h = absurd (omega arith)
held_in_past (x ∷ slots) (suc n) h = held_in_past slots n (omega arith)

held_in_cames : (slots : List (Option Came)) (n : ℕ) → held_in (cames_of slots) n ≡ option_map came_of (held_in slots n)
held_in_cames [] n = refl
held_in_cames (x ∷ slots) zero = refl
held_in_cames (x ∷ slots) (suc n) = held_in_cames slots n

found : (slots : List (Option Came)) (n : ℕ) → find nat_cmp n (comes_of slots) ≡ option_map came_of (held_in slots n)
found slots n = find_numbered n 0 n (cames_of slots) (omega arith) ∙ held_in_cames slots n

-- what a unit has come to stands in its slot
pub found_in_slot : (slots : List (Option Came)) (n : ℕ) (slot : Option Came) → n < length slots → slot ≡ get_or slots n slot →
    find nat_cmp n (comes_of slots) ≡ option_map came_of slot
found_in_slot slots n slot h e = found slots n ∙ ap (option_map came_of) (held_in_read slots n slot h e)

-- a number past the slots has come to nothing
pub found_past : (slots : List (Option Came)) (n : ℕ) → length slots ≤ n → find nat_cmp n (comes_of slots) ≡ None
found_past slots n h = found slots n ∙ ap (option_map came_of) (held_in_past slots n h)

-- a slot that is filled notes what its unit has come to
pub noted_in_slot : (slots : List (Option Came)) (n : ℕ) (came : Came) → n < length slots →
    comes_of (set slots n (Some came)) ≡ put nat_cmp n (came_of came) (comes_of slots)
noted_in_slot slots n came h =
    ap (numbered_slots 0) (map-set (option_map came_of) slots n (Some came))
    ∙ sym (put_numbered n 0 n (came_of came) (cames_of slots) (omega arith) (rw length-map h))

-- one more slot that is empty adds nothing
pub one_empty : {A : Type 0} (k : ℕ) (slots : List (Option A)) → numbered_slots k (slots ++ None ∷ []) ≡ numbered_slots k slots
one_empty k [] = refl
one_empty k (None ∷ slots) = one_empty (k + 1) slots
one_empty k (Some a ∷ slots) = ap (λ rest. (k, a) ∷ rest) (one_empty (k + 1) slots)

cames_more : (slots : List (Option Came)) → cames_of (slots ++ None ∷ []) ≡ cames_of slots ++ None ∷ []
cames_more [] = refl
cames_more (slot ∷ slots) = ap (λ rest. option_map came_of slot ∷ rest) (cames_more slots)

pub empty_more : (slots : List (Option Came)) → comes_of slots ≡ [] → comes_of (slots ++ None ∷ []) ≡ []
empty_more slots e = ap (numbered_slots 0) (cames_more slots) ∙ one_empty 0 (cames_of slots) ∙ e

-- a build in which what the units have come to is changed, after equal builds
pub with_comes : (inside self : model.Build) (comes : List (ℕ × model.Came)) (n : ℕ) (came : model.Came)
    → comes ≡ put nat_cmp n came inside.comes → inside ≡ self →
    (let before : model.Build = record inside { comes = comes } in before)
    ≡ (let after : model.Build = record self { comes = put nat_cmp n came self.comes } in after)
with_comes inside self comes n came e same =
    ap (λ (table : List (ℕ × model.Came)). let build : model.Build = record inside { comes = table } in build) e
    ∙ ap (λ (build : model.Build). let after : model.Build = record build { comes = put nat_cmp n came build.comes } in
    after) same
