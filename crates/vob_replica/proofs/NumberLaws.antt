-- Each operation that made a version is found on its branch, so no two made one number there.
use Rattle.std.proofs.Common.{inl, inr, ◌≡◌, ℕ, Bool, true, false, cond, Some, List, [], ◌∷◌, ◌++◌}
use Rattle.std.proofs.Common.{refl, sym, ap, ◌∙◌, subst, append_assoc, append-nil}
use Rattle.std.specs.Prelude.{◌⊎◌, nat_lt}
use Rattle.std.specs.Option.{option_map}
use Rattle.vob_replica.specs.declared.events.Event.{Event}
use Rattle.vob_replica.specs.declared.events.Identity.{Identity}
use Rattle.vob_replica.specs.declared.operations.Operation.{Operation}
use Rattle.vob_replica.specs.declared.operations.SiteDeed.{SiteDeed}
use Rattle.vob_replica.specs.declared.operations.SiteDeed.TheVariants as deeds
use Rattle.vob_replica.specs.Laws.{HasVersion, IsIn}
use Rattle.vob_replica.specs.Replicas.{Site}
use Rattle.vob_replica.specs.Trees.{Tree, VersionMade, is_same_identity, with_version_put, tree_at, after_deed, after_operation}
use Rattle.vob_replica.specs.World.{site_in, world_of}
use Rattle.vob_replica.proofs.Commuting.{branch_in, is_change, differ-turned, same-self, tree_at-changed, add_version}
use Rattle.vob_replica.proofs.GrowthLaws.{Labels, grown-deed, labelled, version-once}
use Rattle.vob_replica.proofs.HistoryLaws.{Made, IsMade, IsPaired, PrecedesAll, trees_behind}
use Rattle.vob_replica.proofs.KnowLaws.{made-split, once, trees_behind-push}
use Rattle.vob_replica.proofs.MasterLaws.{IsLegal, AreLegal, IsOwn, IsMaster, legal-push}
use Rattle.vob_replica.proofs.SoundLaws.{are-in, site-of, sound}

-- a version that an operation made stands on its branch
record Stands (trees : List Tree) (branch : Identity) (version : VersionMade) : Type 0 where
  tree : Tree
  found : tree_at trees branch ≡ Some tree
  has : HasVersion version tree.versions

has-put : (version : VersionMade) (versions : List VersionMade) → HasVersion version (with_version_put version versions)
has-put version [] = inl refl
has-put version (first ∷ versions) = by (nat_lt version.number first.number) (has-put version versions)
  where
    by : (b : Bool) → HasVersion version (with_version_put version versions)
        → HasVersion version (cond b (version ∷ first ∷ versions) (first ∷ with_version_put version versions))
    by true later = inl refl
    by false later = inr later

-- each operation that made a version has it stand
abbrev AllStand : List Made → Type 0
AllStand made = (operation : Operation) → IsMade operation made → (branch : Identity) (number : ℕ) (word : List ℕ)
    → operation.deed ≡ deeds.Version branch number word
    → Stands (trees_behind made) branch (record { number = number; identity = operation.identity; word = word })

-- a branch that was made before is not the operation after that
made-before : (before made : List Made) (m : Made) → IsPaired (before ++ m ∷ made) → (branch element : Identity)
    → Labels branch element before → is_same_identity branch m.operation.identity ≡ false
made-before [] made m paired branch element labels = absurd labels
made-before (x ∷ before) made m paired branch element (inl here) =
    subst (λ (i : Identity). is_same_identity i m.operation.identity ≡ false) here.0 (last before paired.0)
  where
    last : (others : List Made) → PrecedesAll x (others ++ m ∷ made)
        → is_same_identity x.operation.identity m.operation.identity ≡ false
    last [] all = all.0.ids
    last (y ∷ others) all = last others all.1
made-before (x ∷ before) made m paired branch element (inr labels) = made-before before made m paired.1 branch element labels

-- the version of the last operation stands
last-stands : (before : List Made) (m : Made) → IsLegal before m → (branch : Identity) (number : ℕ) (word : List ℕ)
    → m.operation.deed ≡ deeds.Version branch number word
    → Stands (after_operation (trees_behind before) m.operation) branch
    (record { number = number; identity = m.operation.identity; word = word })
last-stands before m legal branch number word is = by legal.cause
  where
    trees : List Tree
    trees = trees_behind before

    changes : is_change m.operation.deed ≡ true
    changes = ap is_change is

    used : m.used ≡ branch
    used = m.changes changes ∙ ap (λ (d : SiteDeed). branch_in d m.operation.identity) is

    by : IsOwn m ⊎ IsMaster before m → Stands (after_operation trees m.operation) branch
        (record { number = number; identity = m.operation.identity; word = word })
    by (inl own) = let not_new : is_change m.operation.deed ≡ false = own.new in absurd (cc (changes, not_new))
    by (inr master) =
        let found : tree_at trees branch ≡ Some master.tree =
        subst (λ (i : Identity). tree_at trees i ≡ Some master.tree) used master.found in
        let add = add_version m.operation number word in
        record {
          tree = add master.tree;
          found =
              ap (λ (l : List Tree). tree_at l branch) (ap (after_deed trees m.operation) is)
              ∙ tree_at-changed branch add trees (λ tree. refl) ∙ ap (option_map add) found;
          has = has-put (record { number = number; identity = m.operation.identity; word = word }) master.tree.versions;
        }

stand-one : (before made : List Made) (m : Made) → AreLegal [] before → IsLegal before m → IsPaired (before ++ m ∷ made)
    → AllStand before → AllStand (before ++ m ∷ [])
stand-one before made m legals legal paired all operation is branch number word deed =
    subst (λ (l : List Tree). Stands l branch version) (sym (trees_behind-push before m)) (by (made-split operation before m is))
  where
    version : VersionMade
    version = record { number = number; identity = operation.identity; word = word }

    by : IsMade operation before ⊎ (operation ≡ m.operation)
        → Stands (after_operation (trees_behind before) m.operation) branch version
    by (inl was) =
        let old = all operation was branch number word deed in
        let other = made-before before made m paired branch old.tree.element (labelled before legals branch old.tree old.found) in
        let more = grown-deed (trees_behind before) m.operation m.operation.deed branch old.tree
        (differ-turned branch m.operation.identity other) old.found in
        record { tree = more.now; found = more.found; has = more.versions version old.has }
    by (inr last) =
        subst (λ (o : Operation). Stands (after_operation (trees_behind before) m.operation) branch
        (record { number = number; identity = o.identity; word = word })) (sym last)
        (last-stands before m legal branch number word
        (subst (λ (o : Operation). o.deed ≡ deeds.Version branch number word) last deed))

stand-from : (before made : List Made) → AreLegal [] before → AreLegal before made → IsPaired (before ++ made)
    → AllStand before → AllStand (before ++ made)
stand-from before [] legals legal paired all = subst AllStand (sym (append-nil before)) all
stand-from before (m ∷ made) legals legal paired all =
    let same = append_assoc before (m ∷ []) made in
    subst AllStand same
    (stand-from (before ++ m ∷ []) made (legal-push [] before m legals legal.0) legal.1 (subst IsPaired (sym same) paired)
    (stand-one before made m legals legal.0 paired all))

stand : (made : List Made) → AreLegal [] made → IsPaired made → AllStand made
stand made legal paired = stand-from [] made tt legal paired (λ operation is. absurd is)

-- no two operations of some made the same number of a branch
number-once : (made : List Made) → AreLegal [] made → IsPaired made → (one other : Operation) (branch : Identity) (number : ℕ)
    (word also : List ℕ) → IsMade one made → IsMade other made → one.deed ≡ deeds.Version branch number word
    → other.deed ≡ deeds.Version branch number also → one ≡ other
number-once made legal paired one other branch number word also is too deed other_deed =
    let here = stand made legal paired one is branch number word deed in
    let there = stand made legal paired other too branch number also other_deed in
    let tree : there.tree ≡ here.tree = some-tree (sym there.found ∙ here.found) in
    let version : VersionMade = record { number = number; identity = one.identity; word = word } in
    let second : VersionMade = record { number = number; identity = other.identity; word = also } in
    let has : HasVersion second here.tree.versions =
    subst (λ (t : Tree). HasVersion second t.versions) tree there.has in
    let same : version ≡ second =
    version-once made legal branch here.tree version second here.found here.has has refl in
    let identity : one.identity ≡ other.identity = ap (λ (v : VersionMade). v.identity) same in
    once one other made paired is too
    (subst (λ (i : Identity). is_same_identity one.identity i ≡ true) identity (same-self one.identity))
  where
    some-tree : {t u : Tree} → Some t ≡ Some u → t ≡ u
    some-tree is = cc is

-- no two operations of a world did
pub numbers-once : (events : List Event) (one other : List ℕ) (here there : Site) (first second : Operation) (branch : Identity)
    (number : ℕ) (word also : List ℕ) → site_in (world_of events).sites one ≡ Some here
    → site_in (world_of events).sites other ≡ Some there → IsIn first here.known → IsIn second there.known
    → first.deed ≡ deeds.Version branch number word → second.deed ≡ deeds.Version branch number also → first ≡ second
numbers-once events one other here there first second branch number word also found too is known deed other_deed =
    let all = sound events in
    let knows = site-of all.made (world_of events).sites one here all.is.sites found in
    let holds = site-of all.made (world_of events).sites other there all.is.sites too in
    number-once all.made all.is.so.legal all.is.so.paired first second branch number word also
    (are-in here.known all.made first knows.knows.are is) (are-in there.known all.made second holds.knows.are known)
    deed other_deed
