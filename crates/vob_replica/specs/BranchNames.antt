-- Which branch of an element has a name, as a site keeps it: the operations that made branches, by element and name.
use Rattle.std.specs.Prelude.{◌≡◌, ℕ, Bool, ◌&&◌, Option, Some, None, List, if◌then◌else◌}
use Rattle.std.specs.BTreeMap.{BTreeMap, get}
use Rattle.std.specs.Cmp.Lexicographic.{slice_cmp}
use Rattle.std.specs.Option.{option_map}
use Rattle.std.specs.Ordering.{nat_cmp, on, then_cmp}
use Rattle.std.specs.Str.{bytes_eq}
use Rattle.std.specs.declared.cmp.Ordering.{Ordering}
use Rattle.vob_replica.specs.declared.branch_names.BranchName.{BranchName}
use Rattle.vob_replica.specs.declared.events.Identity.{Identity}
use Rattle.vob_replica.specs.declared.operations.Operation.{Operation}
use Rattle.vob_replica.specs.Branches.{identity_order}
use Rattle.vob_replica.specs.Trees.{Tree, is_same_identity, named_tree}

-- operations by element and name
abbrev pub Names : Type 0
Names = BTreeMap BranchName Operation

-- the order of names: by element, then by name in byte order
abbrev pub name_order : BranchName → BranchName → Ordering
name_order = then_cmp (on (λ (n : BranchName). n.element) identity_order) (on (λ (n : BranchName). n.name) (slice_cmp nat_cmp))

-- the branch of an element and a name
abbrev pub told : Names → Identity → List ℕ → Option Identity
told names element name = option_map (λ made. made.identity) (get name_order names (record { element = element; name = name }))

-- whether a branch is that of an element and has a name
abbrev pub is_named : Identity → List ℕ → Tree → Bool
is_named element name tree = is_same_identity tree.element element && bytes_eq tree.name name

-- the name of a branch was put among others, and was not there
pub record IsPutIn (tree : Tree) (before after : Names) : Type 0 where
  pub new : told before tree.element tree.name ≡ None
  pub found : (element : Identity) (name : List ℕ)
      → told after element name ≡ (if is_named element name tree then Some tree.identity else told before element name)

-- the same, where names are kept on
abbrev pub IsPut : Tree → Option Names → Option Names → Type 0
IsPut tree before None = Unit {0}
IsPut tree None (Some after) = ⊥
IsPut tree (Some before) (Some after) = IsPutIn tree before after

-- where names are kept on, they tell what they told
abbrev pub TellSame : Option Names → Option Names → Type 0
TellSame before None = Unit {0}
TellSame None (Some after) = ⊥
TellSame (Some before) (Some after) =
    (element : Identity) (name : List ℕ) → told after element name ≡ told before element name

-- names tell which branch of an element has a name
abbrev pub AreNamesOf : Names → List Tree → Type 0
AreNamesOf names trees = (element : Identity) (name : List ℕ)
    → told names element name ≡ option_map (λ tree. tree.identity) (named_tree trees element name)
