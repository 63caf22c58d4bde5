-- The lines of the objects that a view holds.
use Rattle.std.specs.Prelude.{◌≡◌, ℕ, true, List, [], IfSome}
use Rattle.std.specs.BTreeMap.{BTreeMap, get}
use Rattle.std.specs.Option.{option_map_or}
use Rattle.std.specs.Ordering.{nat_cmp}
use Rattle.cc_names.specs.References.{count, held_at}
use Rattle.base_model.specs.Changes.{objects_held}
use Rattle.base_model.specs.Rows.{Base}
use Rattle.legal_history.specs.Queries.DirectoryTexts.{held_line}

-- the line of the object that a view holds at a path; nothing where it holds none
abbrev pub held_line_at : Base → List ℕ → List ℕ → List ℕ
held_line_at b v path = option_map_or (λ id. held_line (objects_held b) v true path id) (held_at (objects_held b) v path) []

-- the counts that are kept of objects are how many views hold each
abbrev pub AreHolders : Base → BTreeMap ℕ ℕ → Type 0
AreHolders b kept = (id : ℕ) → IfSome (get nat_cmp kept id) (λ views. views ≡ count (objects_held b) id)
