-- Branches as a site keeps them: by identity, each once. A branch and a version are read off the operations that made them.
use Rattle.std.specs.Prelude.{◌≡◌, ℕ, suc, ◌≤◌, Bool, false, ◌==◌, nat_le, nat_lt, List, [], ◌∷◌, ◌++◌, codes, slice_get, if◌then◌else◌}
use Rattle.std.specs.Option.{option_map_or}
use Rattle.std.specs.Cmp.Lexicographic.{slice_cmp}
use Rattle.std.specs.Map.{values_of}
use Rattle.std.specs.Ordering.{nat_cmp, on, then_cmp}
use Rattle.std.specs.declared.cmp.Ordering.{Ordering}
use Rattle.std.specs.declared.cmp.Ordering.TheVariants.{Less}
use Rattle.vob_replica.specs.declared.events.Identity.{Identity}
use Rattle.vob_replica.specs.declared.operations.Operation.{Operation}
use Rattle.vob_replica.specs.declared.operations.SiteDeed.{SiteDeed}
use Rattle.vob_replica.specs.declared.operations.SiteDeed.TheVariants as deeds
use Rattle.vob_replica.specs.Trees.{Tree, VersionMade, identity_cmp, with_version_put}

-- the name of the branch that a deed made
abbrev pub name_in : SiteDeed → List ℕ
name_in deeds.Element = codes "main"
name_in (deeds.Branch branch number name) = name
name_in _ = []

-- the word of the version that a deed made
abbrev pub word_in : SiteDeed → List ℕ
word_in (deeds.Version branch number word) = word
word_in _ = []

-- a version that an operation made
abbrev pub version_by : ℕ → Operation → VersionMade
version_by number made = record { number = number; identity = made.identity; word = word_in made.deed }

-- a branch that an operation made
abbrev pub branch_made_by : Operation → Identity → List Operation → List VersionMade → Tree
branch_made_by made element masters versions =
    record { identity = made.identity; element = element; name = name_in made.deed; masters = masters; versions = versions }

-- a branch with one version more
abbrev pub with_version_by : Tree → ℕ → Operation → Tree
with_version_by tree number made = record tree { versions = with_version_put (version_by number made) tree.versions }

-- a branch with one operation more that gave its mastership away
abbrev pub with_master : Tree → Operation → Tree
with_master tree operation = record tree { masters = tree.masters ++ operation ∷ [] }

-- whether the number of a version is at most another, or below it
abbrev pub is_up_to : ℕ → VersionMade → Bool
is_up_to number version = nat_le version.number number

abbrev pub is_number_below : ℕ → VersionMade → Bool
is_number_below number version = nat_lt version.number number

-- how many versions pass a test, from the first on
abbrev pub count_passing : (VersionMade → Bool) → List VersionMade → ℕ
count_passing test [] = 0
count_passing test (version ∷ versions) = if test version then suc (count_passing test versions) else 0

-- how many versions stand before a new one of this number
abbrev pub version_place : ℕ → List VersionMade → ℕ
version_place number versions = count_passing (is_up_to number) versions

-- whether the version at a place has a number
abbrev pub has_number_at : List VersionMade → ℕ → ℕ → Bool
has_number_at versions place number = option_map_or (λ version. version.number == number) (slice_get versions place) false

-- a number is at most that of each version
abbrev pub IsBelowVersions : ℕ → List VersionMade → Type 0
IsBelowVersions number [] = Unit {0}
IsBelowVersions number (version ∷ versions) = (number ≤ version.number) × IsBelowVersions number versions

-- versions stand by number
abbrev pub AreByNumber : List VersionMade → Type 0
AreByNumber [] = Unit {0}
AreByNumber (version ∷ versions) = IsBelowVersions version.number versions × AreByNumber versions

-- the order of identities: by site in byte order, then by number
abbrev pub identity_order : Identity → Identity → Ordering
identity_order = then_cmp (on (λ (i : Identity). i.site) (slice_cmp nat_cmp)) (on (λ (i : Identity). i.number) nat_cmp)

-- each branch is kept by its identity
abbrev pub AreKeyed : List (Identity × Tree) → Type 0
AreKeyed [] = Unit {0}
AreKeyed (entry ∷ others) = (entry.0 ≡ entry.1.identity) × AreKeyed others

-- an identity stands before those of all branches
abbrev pub IsBeforeBranches : Identity → List Tree → Type 0
IsBeforeBranches identity [] = Unit {0}
IsBeforeBranches identity (tree ∷ trees) = (identity_cmp identity tree.identity ≡ Less) × IsBeforeBranches identity trees

-- branches stand in the order of their identities, each once
abbrev pub IsInOrder : List Tree → Type 0
IsInOrder [] = Unit {0}
IsInOrder (tree ∷ trees) = IsBeforeBranches tree.identity trees × IsInOrder trees

-- branches as they are kept: by identity
pub record AreKept (entries : List (Identity × Tree)) : Type 0 where
  pub keyed : AreKeyed entries
  pub order : IsInOrder (values_of entries)
