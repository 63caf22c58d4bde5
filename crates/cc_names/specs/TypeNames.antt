-- The names of label types and branch types.
use Rattle.std.specs.Prelude.{ℕ, Bool, ◌&&◌, is_ok, Option, Some, None, List, if◌then◌else◌}
use Rattle.cc_names.specs.Formed.{begins_with_letter}
use Rattle.cc_names.specs.Names.{name_of}

-- whether bytes are the name of a label type or a branch type
abbrev pub is_type_name : List ℕ → Bool
is_type_name bytes = begins_with_letter bytes && is_ok (name_of bytes)

-- bytes read as such a name
abbrev pub type_name_of : List ℕ → Option (List ℕ)
type_name_of bytes = if is_type_name bytes then Some bytes else None
