-- A base: its rows, newest first. Row 0, which makes the root directory, is built in and lies below them.
use Rattle.std.specs.Prelude.{ℕ, Bool, suc, true, false, ◌==◌, nat_lt, Option, Some, None, List, [], ◌∷◌, length, ◌≡◌, ◌++◌}
use Rattle.cc_names.specs.Formed.{Plain}
use Rattle.cc_names.specs.declared.rows.Deed.{Deed}

-- the rows from row 1 on, the newest first
abbrev pub Base : Type 0
Base = List Plain

-- How many rows a base has, row 0 included. It is the number that the next row gets, and a row's number is the size of the rows
-- below it.
abbrev pub size : Base → ℕ
size b = suc (length b)

-- the first t rows, row 0 included
abbrev pub first_rows : ℕ → Base → Base
first_rows t [] = []
first_rows t (row ∷ older) = elim (nat_lt (size older) t) [ true ↦ row ∷ older | false ↦ first_rows t older ]

-- the row of this number; row 0 is none of them
abbrev pub row_at : Base → ℕ → Option Plain
row_at [] n = None
row_at (row ∷ older) n = elim (size older == n) [ true ↦ Some row | false ↦ row_at older n ]

-- something, only where a test holds
abbrev pub only_where : {A : Type 0} → Bool → Option A → Option A
only_where true a = a
only_where false a = None

-- the deed of a row
abbrev pub deed_of : Option Plain → Option Deed
deed_of None = None
deed_of (Some row) = Some row.deed

-- the deed of the row of this number
abbrev pub deed_at : Base → ℕ → Option Deed
deed_at b n = deed_of (row_at b n)

-- one base is another with more rows, none or some
pub record Extends (old new : Base) : Type 0 where
  pub more : Base
  pub is : new ≡ more ++ old
