-- The first rows of a base are a base.
use Rattle.std.specs.Prelude.{◌≡◌, ℕ, suc, ◌≤◌, true, length}
use Rattle.base_model.specs.Rows.{Base, first_rows}
use Rattle.base_model.specs.Fits.{is_base}

-- There are this many rows after row 0 or more, and so many of them are a base.
pub record IsBasePrefix (count : ℕ) (b : Base) : Type 0 where
  pub within : count ≤ length b
  pub fitting : is_base (first_rows (suc count) b) ≡ true
