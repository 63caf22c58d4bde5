-- Which version of an element is listed for inputs.
use Rattle.std.specs.Prelude.{◌≡◌, ℕ, ◌<◌, ◌≤◌, true, Contains}
use Rattle.base_model.specs.Rows.{Base}
use Rattle.base_model.specs.Closures.{Input, Inputs, is_version_of}

-- One of some inputs is this version of the element: its row made the version. Row 0 says that nothing was at the path.
pub record RestsOn (b : Base) (inputs : Inputs) (e version : ℕ) : Type 0 where
  pub input : Input × ℕ
  pub among : Contains inputs input
  pub row : input.1 ≡ version
  pub there : 0 < version
  pub is : is_version_of b e version ≡ true

-- the greatest version of the element among some inputs
pub record IsListed (b : Base) (inputs : Inputs) (e version : ℕ) : Type 0 where
  pub rests : RestsOn b inputs e version
  pub greatest : (other : ℕ) → RestsOn b inputs e other → other ≤ version
