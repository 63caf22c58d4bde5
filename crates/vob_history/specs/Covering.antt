-- Where a view sees another row than an object rests on.
use Rattle.std.specs.Prelude.{ℕ, Bool, not, List}
use Rattle.base_model.specs.Rows.{Base}
use Rattle.base_model.specs.Seen.{file_at}
use Rattle.base_model.specs.Objects.{agrees}

-- whether the view sees another row at a path; row 0 stands for none
abbrev pub differs : Base → List ℕ → List ℕ → ℕ → Bool
differs b v path row = not (agrees row (file_at b v path))
