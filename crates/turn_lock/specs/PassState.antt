-- What contracts see of a lock, of a pass, and of a pass whose bearer holds the value.
use Rattle.std.specs.Prelude.{◌≡◌, ◌⊎◌, ℕ, List}
use mathlib.Core.List.{IsPrefix}
use Rattle.atomic_table.specs.Seated.{TableId}

-- no two locks have one
abbrev pub LockId : Type 0
LockId = TableId

-- a lock: which one it is, and the weight of all its passes together
pub record Identity : Type 0 where
  pub id : LockId
  pub whole : ℕ

-- a pass: its lock, the story of the value as its bearer has seen it, and its weight
pub record PassState (D : Type 0) : Type 0 where
  pub lock : LockId
  pub seen : List D
  pub weight : ℕ

-- a pass whose bearer has taken the value: its lock, the story that the value then had, and its weight
pub record Hold (D : Type 0) : Type 0 where
  pub lock : LockId
  pub story : List D
  pub weight : ℕ

-- seen is the longer of two stories, of which the one begins the other
abbrev pub IsLongerOf : {D : Type 0} → List D → List D → List D → Type 0
IsLongerOf one two seen = ((seen ≡ one) × IsPrefix two one) ⊎ ((seen ≡ two) × IsPrefix one two)
