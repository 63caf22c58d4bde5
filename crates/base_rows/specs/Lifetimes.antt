-- Things of a view, which are there no more once its life began anew or ended.
use Rattle.std.specs.Prelude.{ℕ, Bool, true, cond, nat_lt, Option, Some, None}
use Rattle.cc_names.specs.Last.{Effect, Keeps, Ends, Sets}
use Rattle.base_model.specs.Rows.{only_where}
use Rattle.base_rows.specs.LookUps.{Update}

-- the number of the row of an update
abbrev pub number_of : {A : Type 0} → Update A → ℕ
number_of row = row.0

-- what a row does that may end a view's life, and may do something else
abbrev pub ended_or : {A : Type 0} → Effect ℕ → Effect A → Effect A
ended_or Keeps other = other
ended_or Ends other = Ends
ended_or (Sets n) other = Ends

-- whether a row lies after another, where there is another
abbrev pub is_behind : Option ℕ → ℕ → Bool
is_behind None n = true
is_behind (Some m) n = nat_lt m n

-- what a row leaves that lies after the end of a life
abbrev pub left_behind : {A : Type 0} → Option ℕ → Update A → Option A
left_behind ended row = only_where (is_behind ended row.0) row.1

-- what is left of a thing, by the last end of a life and by the newest row that does something to the thing
abbrev pub within : {A : Type 0} → Option ℕ → Option (Update A) → Option A
within ended None = None
within ended (Some row) = left_behind ended row

-- the later of two updates, the first where both are of one row
abbrev pub later : {A : Type 0} → Option (Update A) → Option (Update A) → Option (Update A)
later None two = two
later (Some one) None = Some one
later (Some one) (Some two) = cond (nat_lt one.0 two.0) (Some two) (Some one)

-- one effect, else another
abbrev pub or_else : {A : Type 0} → Effect A → Effect A → Effect A
or_else Keeps two = two
or_else Ends two = Ends
or_else (Sets a) two = Sets a
