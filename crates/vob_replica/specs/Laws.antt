-- What holds of every world of sites. Each law is promised by a function of `laws`.
use Rattle.std.specs.Prelude.{◌≡◌, ℕ, ◌≤◌, ◌⊎◌, ◌↔◌, false, Some, List, [], ◌∷◌}
use Rattle.std.specs.Str.{bytes_eq}
use Rattle.vob_replica.specs.declared.events.Event.{Event}
use Rattle.vob_replica.specs.declared.events.Event.TheVariants as events
use Rattle.vob_replica.specs.declared.events.Identity.{Identity}
use Rattle.vob_replica.specs.declared.operations.Operation.{Operation}
use Rattle.vob_replica.specs.declared.operations.SiteDeed.TheVariants as deeds
use Rattle.vob_replica.specs.Tables.{number_in, table_of}
use Rattle.vob_replica.specs.Trees.{Tree, VersionMade, tree_at, trees_of, master_of}
use Rattle.vob_replica.specs.Replicas.{Site}
use Rattle.vob_replica.specs.Showing.{show_text}
use Rattle.vob_replica.specs.World.{World, site_in, step, world_of}

-- the sites after an import
abbrev pub behind_import : World → List ℕ → List ℕ → List Site
behind_import world name packet = (step world (events.Import name packet)).world.sites

-- An import changes no other site: neither what it knows nor what it thinks that others know.
abbrev pub ImportsChangeNoOtherSite : Type 0
ImportsChangeNoOtherSite = (world : World) (name packet other : List ℕ)
    → bytes_eq name other ≡ false
    → site_in (behind_import world name packet) other ≡ site_in world.sites other

-- An import changes the epoch table of its site only upwards.
abbrev pub ImportsOnlyRaise : Type 0
ImportsOnlyRaise = (world : World) (name packet site : List ℕ) (old new : Site)
    → site_in world.sites name ≡ Some old
    → site_in (behind_import world name packet) name ≡ Some new
    → number_in (table_of old.known) site ≤ number_in (table_of new.known) site

-- an operation is among some
abbrev pub IsIn : Operation → List Operation → Type 0
IsIn operation [] = ⊥
IsIn operation (first ∷ others) = (operation ≡ first) ⊎ IsIn operation others

-- two sites know the same operations and branches, and show the same
pub record KnowTheSame (here there : Site) : Type 0 where
  pub operations : (operation : Operation) → IsIn operation here.known ↔ IsIn operation there.known
  pub branches : trees_of here.known ≡ trees_of there.known
  pub text : show_text here ≡ show_text there

-- Sites with equal epoch tables know the same and show the same, in whatever order packets came, whether twice or never.
abbrev pub EqualTablesShowTheSame : Type 0
EqualTablesShowTheSame = (events : List Event) (one other : List ℕ) (here there : Site)
    → site_in (world_of events).sites one ≡ Some here
    → site_in (world_of events).sites other ≡ Some there
    → table_of here.known ≡ table_of there.known
    → KnowTheSame here there

-- a version is among some
abbrev pub HasVersion : VersionMade → List VersionMade → Type 0
HasVersion version [] = ⊥
HasVersion version (first ∷ others) = (version ≡ first) ⊎ HasVersion version others

-- No two operations make the same number of a branch.
abbrev pub NumbersAreMadeOnce : Type 0
NumbersAreMadeOnce = (events : List Event) (one other : List ℕ) (here there : Site) (first second : Operation) (branch : Identity)
    (number : ℕ) (word also : List ℕ)
    → site_in (world_of events).sites one ≡ Some here
    → site_in (world_of events).sites other ≡ Some there
    → IsIn first here.known
    → IsIn second there.known
    → first.deed ≡ deeds.Version branch number word
    → second.deed ≡ deeds.Version branch number also
    → first ≡ second

-- So whatever two sites know on a branch by one number is one version.
abbrev pub VersionsAreMadeOnce : Type 0
VersionsAreMadeOnce = (events : List Event) (one other : List ℕ) (here there : Site) (branch : Identity) (tree also : Tree)
    → site_in (world_of events).sites one ≡ Some here
    → site_in (world_of events).sites other ≡ Some there
    → tree_at (trees_of here.known) branch ≡ Some tree
    → tree_at (trees_of there.known) branch ≡ Some also
    → (version second : VersionMade)
    → HasVersion version tree.versions
    → HasVersion second also.versions
    → version.number ≡ second.number
    → version ≡ second

-- No two operations make the same name on an element: whatever two sites know there by one name is one branch.
abbrev pub NamesAreMadeOnce : Type 0
NamesAreMadeOnce = (events : List Event) (one other : List ℕ) (here there : Site) (branch second : Identity) (tree also : Tree)
    → site_in (world_of events).sites one ≡ Some here
    → site_in (world_of events).sites other ≡ Some there
    → tree_at (trees_of here.known) branch ≡ Some tree
    → tree_at (trees_of there.known) second ≡ Some also
    → tree.element ≡ also.element
    → tree.name ≡ also.name
    → branch ≡ second

-- At most one site holds itself master of a branch.
abbrev pub MastersAreAlone : Type 0
MastersAreAlone = (events : List Event) (one other : List ℕ) (here there : Site) (branch : Identity) (tree also : Tree)
    → site_in (world_of events).sites one ≡ Some here
    → site_in (world_of events).sites other ≡ Some there
    → tree_at (trees_of here.known) branch ≡ Some tree
    → tree_at (trees_of there.known) branch ≡ Some also
    → master_of tree ≡ here.name
    → master_of also ≡ there.name
    → here.name ≡ there.name
