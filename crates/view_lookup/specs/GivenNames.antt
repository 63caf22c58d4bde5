-- Which names rows gave in directories.
use Rattle.std.specs.Prelude.{ℕ, Bool, false, ◌&&◌, ◌||◌, Option, Some, None, List, [], ◌∷◌, bytes_eq, option_and_then}
use Rattle.cc_names.specs.declared.rows.Deed.{Deed}
use Rattle.cc_names.specs.declared.rows.Deed.TheVariants as deeds
use Rattle.base_model.specs.Rows.{Base, deed_at}
use Rattle.base_rows.specs.Giving.{gives_in}

-- whether it is this name
abbrev pub is_name : List ℕ → Option (List ℕ) → Bool
is_name name None = false
is_name name (Some other) = bytes_eq name other

-- the name that a deed gives
abbrev pub name_given : Deed → Option (List ℕ)
name_given (deeds.Mkelem v directory name kind out) = Some name
name_given (deeds.Mv v directory from_name to_name) = Some to_name
name_given deed = None

-- the name that the row of a number gave
abbrev pub name_at : Base → ℕ → Option (List ℕ)
name_at b n = option_and_then name_given (deed_at b n)

-- whether a row of a base gave the name in the directory
abbrev pub was_named : ℕ → List ℕ → Base → Bool
was_named d name [] = false
was_named d name (row ∷ older) = (gives_in d row.deed && is_name name (name_given row.deed)) || was_named d name older
