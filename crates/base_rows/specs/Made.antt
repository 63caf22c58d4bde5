-- What rows of a deed make by themselves.
use Rattle.std.specs.Prelude.{ℕ, Bool, Option, Some, None, List, bytes_eq}
use Rattle.std.specs.List.{list_any}
use Rattle.cc_names.specs.declared.rows.Deed.{Deed}
use Rattle.cc_names.specs.declared.rows.Deed.TheVariants as deeds
use Rattle.cc_names.specs.declared.rows.Kind.{Kind}
use Rattle.base_model.specs.Views.{default_spec}

-- whether a path is one of these targets
abbrev pub is_target : List ℕ → List (List ℕ) → Bool
is_target path targets = list_any (λ target. bytes_eq target path) targets

-- the kind of the element that a row of this deed makes
abbrev pub kind_made : Deed → Option Kind
kind_made (deeds.Mkelem v directory name kind out) = Some kind
kind_made deed = None

-- the config spec that a row of this deed gives to its view
abbrev pub spec_made : Deed → Option (List ℕ)
spec_made (deeds.Mkview v) = Some default_spec
spec_made (deeds.Setcs v text) = Some text
spec_made deed = None
