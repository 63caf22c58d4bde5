-- What rows do to a thing that is looked up, and the newest row that does something to it.
use Rattle.std.specs.Prelude.{◌≡◌, ℕ, false, cond, nat_lt, Option, Some, None, List, [], ◌∷◌}
use Rattle.std.specs.Option.{option_or}
use Rattle.cc_names.specs.Last.{Effect, Keeps, Ends, Sets, last}
use Rattle.cc_names.specs.declared.rows.Deed.{Deed}
use Rattle.base_model.specs.Rows.{Base, size, deed_at, first_rows}
use Rattle.base_rows.specs.Subjects.{Subject, affects}
use Rattle.base_rows.specs.declared.look_ups.Does.{Does}
use Rattle.base_rows.specs.declared.look_ups.Does.TheVariants as does

-- what a row does to a thing, given by the rows below it and by its deed
abbrev pub Deeds : Type 0 → Type 0
Deeds A = Base → Deed → Effect A

-- an update of a thing: a row that does something to it, by its number, and what it leaves of it
abbrev pub Update : Type 0 → Type 0
Update A = ℕ × Option A

-- the update by a row, where it does something
abbrev pub update_by_row : {A : Type 0} → ℕ → Effect A → Option (Update A)
update_by_row n Keeps = None
update_by_row n Ends = Some (n, None)
update_by_row n (Sets a) = Some (n, Some a)

-- the newest row of a base that does something
abbrev pub newest : {A : Type 0} → Deeds A → Base → Option (Update A)
newest effect [] = None
newest effect (row ∷ older) = option_or (update_by_row (size older) (effect older row.deed)) (newest effect older)

-- the row of a number, where there is one and it does something
abbrev pub update_by_deed : {A : Type 0} → Deeds A → Base → ℕ → Option Deed → Option (Update A)
update_by_deed effect older n None = None
update_by_deed effect older n (Some deed) = update_by_row n (effect older deed)

abbrev pub update_at : {A : Type 0} → Deeds A → Base → ℕ → Option (Update A)
update_at effect b n = update_by_deed effect (first_rows n b) n (deed_at b n)

-- the first of these numbers whose row does something
abbrev pub first_update : {A : Type 0} → (ℕ → Option (Update A)) → List ℕ → Option (Update A)
first_update at [] = None
first_update at (n ∷ ns) = option_or (at n) (first_update at ns)

-- what a row leaves, where there is one
abbrev pub left_by : {A : Type 0} → Option (Update A) → Option A
left_by None = None
left_by (Some row) = row.1

-- what the last row that does something leaves of a thing
abbrev pub last_of : {A : Type 0} → Deeds A → Base → Option A
last_of effect b = last (λ older row. effect older row.deed) b

-- No row does anything to a thing that does not affect its subject.
abbrev pub ActsBySubject : {A : Type 0} → Subject → Deeds A → Type 0
ActsBySubject subject effect = (older : Base) (deed : Deed) → affects subject older deed ≡ false → effect older deed ≡ Keeps

-- the effect that code tells
abbrev pub effect_of : {A : Type 0} → Does A → Effect A
effect_of does.Keeps = Keeps
effect_of does.Ends = Ends
effect_of (does.Sets item) = Sets item

-- what the oldest row sets a thing to that sets it
abbrev pub oldest : {A : Type 0} → Deeds A → Base → Option A
oldest effect [] = None
oldest effect (row ∷ older) = option_or (oldest effect older) (left_by (update_by_row (size older) (effect older row.deed)))

-- what rows do to a thing from this one on
abbrev pub from_row : {A : Type 0} → ℕ → Deeds A → Deeds A
from_row since effect older deed = cond (nat_lt (size older) since) Keeps (effect older deed)

-- what the row of a number sets a thing to, where it does
abbrev pub set_at : {A : Type 0} → Deeds A → Base → ℕ → Option A
set_at effect b n = left_by (update_at effect b n)

-- what the last of these numbers is set to that is set to something
abbrev pub last_set : {A : Type 0} → (ℕ → Option A) → List ℕ → Option A
last_set at [] = None
last_set at (n ∷ ns) = option_or (last_set at ns) (at n)
