-- The branches that operations made, by identity, with their masters and versions.
use Rattle.std.specs.Prelude.{ℕ, ◌+◌, Bool, ◌&&◌, ◌||◌, ◌==◌, nat_lt, Option, List, [], ◌∷◌, ◌++◌, codes, fold, map, find}
use Rattle.std.specs.Prelude.{length, if◌then◌else◌}
use Rattle.std.specs.List.{list_all, list_any}
use Rattle.std.specs.Option.{option_map_or}
use Rattle.std.specs.Str.{bytes_eq}
use Rattle.std.specs.Ordering.{nat_cmp, match_ordering}
use Rattle.std.specs.declared.cmp.Ordering.{Ordering}
use Rattle.std.specs.declared.cmp.Ordering.TheVariants.{Less, Greater}
use Rattle.std.specs.Cmp.Lexicographic.{slice_cmp}
use Rattle.vob_replica.specs.declared.events.Identity.{Identity}
use Rattle.vob_replica.specs.declared.operations.Operation.{Operation}
use Rattle.vob_replica.specs.declared.operations.SiteDeed.{SiteDeed}
use Rattle.vob_replica.specs.declared.operations.SiteDeed.TheVariants as deeds
use Rattle.vob_replica.specs.Tables.{holds}

-- a version after version 0
pub record VersionMade : Type 0 where
  pub number : ℕ
  pub identity : Identity
  pub word : List ℕ

-- a branch of an element: the operations that gave its mastership away, in the order in which they came to be known, and its
-- versions after version 0, by number
pub record Tree : Type 0 where
  pub identity : Identity
  pub element : Identity
  pub name : List ℕ
  pub masters : List Operation
  pub versions : List VersionMade

-- whether two identities are the same
abbrev pub is_same_identity : Identity → Identity → Bool
is_same_identity one two = bytes_eq one.site two.site && (one.number == two.number)

-- the order of identities: by site in byte order, then by number
abbrev pub identity_cmp : Identity → Identity → Ordering
identity_cmp one two = match_ordering (slice_cmp nat_cmp one.site two.site) Less (nat_cmp one.number two.number) Greater

-- a branch put among others, by identity
abbrev pub with_tree : Tree → List Tree → List Tree
with_tree tree [] = tree ∷ []
with_tree tree (other ∷ others) =
    match_ordering (identity_cmp tree.identity other.identity)
    (tree ∷ other ∷ others)
    (tree ∷ others)
    (other ∷ with_tree tree others)

-- a version put among others, by number
abbrev pub with_version_put : VersionMade → List VersionMade → List VersionMade
with_version_put version [] = version ∷ []
with_version_put version (other ∷ others) =
    if nat_lt version.number other.number then version ∷ other ∷ others else other ∷ with_version_put version others

-- the branch of an identity
abbrev pub tree_at : List Tree → Identity → Option Tree
tree_at trees branch = find (λ tree. is_same_identity tree.identity branch) trees

-- the branches with one of them changed
abbrev pub with_branch_changed : Identity → (Tree → Tree) → List Tree → List Tree
with_branch_changed branch change trees = map (λ tree. if is_same_identity tree.identity branch then change tree else tree) trees

-- the element of a branch
abbrev pub element_of_branch : List Tree → Identity → Identity
element_of_branch trees branch = option_map_or (λ tree. tree.element) (tree_at trees branch) branch

-- a branch as it is made, with version 0 alone
abbrev pub new_tree : Identity → Identity → List ℕ → Tree
new_tree identity element name = record { identity = identity; element = element; name = name; masters = []; versions = [] }

-- the branches after one operation more, by its deed
abbrev pub after_deed : List Tree → Operation → SiteDeed → List Tree
after_deed trees operation deeds.Element = with_tree (new_tree operation.identity operation.identity (codes "main")) trees
after_deed trees operation (deeds.Branch branch number name) =
    with_tree (new_tree operation.identity (element_of_branch trees branch) name) trees
after_deed trees operation (deeds.Version branch number word) =
    with_branch_changed branch (λ tree. record tree {
      versions = with_version_put (record { number = number; identity = operation.identity; word = word }) tree.versions;
    }) trees
after_deed trees operation (deeds.Master branch site) =
    with_branch_changed branch (λ tree. record tree { masters = tree.masters ++ operation ∷ [] }) trees

-- the branches after one operation more
abbrev pub after_operation : List Tree → Operation → List Tree
after_operation trees operation = after_deed trees operation operation.deed

-- the branches that operations made
abbrev pub trees_of : List Operation → List Tree
trees_of known = fold after_operation [] known

-- whether an operation needs all others of these
abbrev pub needs_all_others : List Operation → Operation → Bool
needs_all_others operations operation =
    list_all (λ other. is_same_identity other.identity operation.identity || holds operation.needs other.identity) operations

-- the site that a deed gives the mastership to
abbrev pub given_to : SiteDeed → List ℕ → List ℕ
given_to (deeds.Master branch site) maker = site
given_to _ maker = maker

-- The master of a branch: the site that its last Master operation names, which is the one that needs all others; its maker, where
-- there is none.
abbrev pub master_of : Tree → List ℕ
master_of tree =
    option_map_or (λ last. given_to last.deed tree.identity.site)
    (find (needs_all_others tree.masters) tree.masters)
    tree.identity.site

-- the number of the next version
abbrev pub next_number : Tree → ℕ
next_number tree = length tree.versions + 1

-- whether a branch has a version of this number
abbrev pub has_version : Tree → ℕ → Bool
has_version tree number = (number == 0) || list_any (λ version. version.number == number) tree.versions

-- the branch of an element that has a name
abbrev pub named_tree : List Tree → Identity → List ℕ → Option Tree
named_tree trees element name = find (λ tree. is_same_identity tree.element element && bytes_eq tree.name name) trees
