-- What an object rests on that is no version.
use Rattle.std.specs.Prelude.{ℕ, Bool, ◌&&◌, nat_lt, is_none, List}
use Rattle.cc_names.specs.Versions.{version_id}
use Rattle.base_model.specs.Changes.{tree}
use Rattle.base_model.specs.Rows.{Base}

-- whether a row is there, at whatever path, that made no version; row 0 says that nothing was there
abbrev pub is_outside : Base → List ℕ → ℕ → Bool
is_outside b path row = nat_lt 0 row && is_none (version_id (tree b) row)
