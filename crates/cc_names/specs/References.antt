-- The references that views hold to objects, by view and path, from the list of their changes, newest first.
use Rattle.std.specs.Prelude.{ℕ, ◌+◌, Bool, true, false, not, ◌&&◌, ◌==◌, Option, List, [], ◌∷◌, bytes_eq}
use Rattle.std.specs.List.{list_any}
use Rattle.std.specs.declared.cmp.Ordering.{Ordering}
use Rattle.std.specs.Ordering.{nat_cmp, on, then_cmp}
use Rattle.std.specs.Cmp.Lexicographic.{slice_cmp}
use Rattle.std.specs.FinMap.Entries.{put, find, where_key}
use Rattle.cc_names.specs.declared.changes.ReferenceChange.{ReferenceChange}
use Rattle.cc_names.specs.declared.changes.ReferenceChange.TheVariants.{Won, Lost, ViewGone}

-- a path in a view
abbrev pub ViewPath : Type 0
ViewPath = List ℕ × List ℕ

-- by view, then by path, each in byte order
abbrev pub view_path_cmp : ViewPath → ViewPath → Ordering
view_path_cmp = then_cmp (on (λ view_path. view_path.0) (slice_cmp nat_cmp)) (on (λ view_path. view_path.1) (slice_cmp nat_cmp))

-- the object held at each path of a view, in their order
abbrev pub ReferencesByPath : Type 0
ReferencesByPath = List (ViewPath × ℕ)

-- the view holds the object at each target, in place of what it held there
abbrev pub won : List ℕ → ℕ → List (List ℕ) → ReferencesByPath → ReferencesByPath
won v id [] held = held
won v id (target ∷ targets) held = won v id targets (put view_path_cmp (v, target) id held)

-- whether two are one: the same view and the same path
abbrev pub is_view_path : ViewPath → ViewPath → Bool
is_view_path one two = bytes_eq one.0 two.0 && bytes_eq one.1 two.1

-- the view holds nothing at the path any more
abbrev pub without_reference : List ℕ → List ℕ → ReferencesByPath → ReferencesByPath
without_reference v path held = where_key view_path_cmp (λ view_path. not (is_view_path view_path (v, path))) held

-- the view holds nothing any more
abbrev pub view_gone : List ℕ → ReferencesByPath → ReferencesByPath
view_gone v held = where_key view_path_cmp (λ view_path. not (bytes_eq view_path.0 v)) held

-- the references after one change
abbrev pub held_after : ReferenceChange → ReferencesByPath → ReferencesByPath
held_after (Won v targets id) held = won v id targets held
held_after (Lost v path) held = without_reference v path held
held_after (ViewGone v) held = view_gone v held

-- the references that changes leave
abbrev pub references : List ReferenceChange → ReferencesByPath
references [] = []
references (change ∷ older) = held_after change (references older)

-- the object that the view holds at the path
abbrev pub held_at : ReferencesByPath → List ℕ → List ℕ → Option ℕ
held_at held v path = find view_path_cmp (v, path) held

-- whether some view holds the object
abbrev pub is_held : ReferencesByPath → ℕ → Bool
is_held held id = list_any (λ entry. entry.1 == id) held

-- whether the view holds the object somewhere
abbrev pub is_held_by : ReferencesByPath → List ℕ → ℕ → Bool
is_held_by held v id = list_any (λ entry. bytes_eq entry.0.0 v && (entry.1 == id)) held

-- one where the test holds
abbrev pub one_where : Bool → ℕ
one_where true = 1
one_where false = 0

-- how many views hold the object
abbrev pub count : ReferencesByPath → ℕ → ℕ
count [] id = 0
count (entry ∷ held) id = one_where ((entry.1 == id) && not (is_held_by held entry.0.0 id)) + count held id
